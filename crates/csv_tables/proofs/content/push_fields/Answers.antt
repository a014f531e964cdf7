use Rattle.std.proofs.Common.{◌≡◌, ◌+◌, ◌++◌, ◌∷◌, [], ◌∙◌, sym, ap, List, ℕ, nat_eq, length, arith, rules}
use Rattle.csv.specs.Records.{fields_of}
use Rattle.csv_tables.specs.Held.{end_of}
use Rattle.csv_tables.proofs.FieldSteps.{field_less}
use Rattle.csv_tables.proofs.Holding.{end_pushed, ends_pushed}
use Rattle.csv_tables.proofs.content.push_fields.Goals as goal

pub loop-field-smaller : goal.loop-field-smaller
loop-field-smaller c =
    let l = field_less (fields_of c.args.row.now) c.loop-field.at c.in-Some.field.now (sym c.in-Some.ensures.value) in
    omega arith

pub loop-field-preserved : goal.loop-field-preserved
loop-field-preserved c =
    let i = c.loop-field.invariant in
    let r = fields_of c.args.row.now in
    let f = c.in-Some.field.now in
    let size : c.len-count.result ≡ length (fields_of c.args.row.now) = search rules in
    let e : fields_of c.push_field.new.self ≡ fields_of c.loop-field.fields ++ (f ++ end_of (nat_eq (c.loop-field.at + 1) c.len-count.result) ∷ []) ∷ [] =
    c.in_ok-push_field.ensures.fields ∙ ap (λ (p : List ℕ). fields_of c.loop-field.fields ++ (p ++ (f ++ c.end_of.result ∷ [])) ∷ []) i.none_open
    ∙ ap (λ (b : ℕ). fields_of c.loop-field.fields ++ (f ++ b ∷ []) ∷ []) c.end_of.ensures in
    record {
      none_open = c.in_ok-push_field.ensures.partial;
      same = end_pushed r (fields_of c.loop-field.fields) (fields_of c.push_field.new.self) _ c.loop-field.at f _ (sym c.in-Some.ensures.value) (ap (nat_eq (c.loop-field.at + 1)) size) i.same e;
    }

pub returns-clause-fields : goal.returns-clause-fields
returns-clause-fields c = ends_pushed (fields_of c.args.row.now) (fields_of c.loop-field.fields) _ c.loop-field.at (sym c.in_default.ensures.value) c.loop-field.invariant.same
