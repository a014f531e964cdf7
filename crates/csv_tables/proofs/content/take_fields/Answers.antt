use Rattle.std.proofs.Common.{◌≡◌, ◌<◌, ◌+◌, nat_eq, ◌++◌, ◌∷◌, [], ◌∙◌, sym, ap, refl, true, false, is_some, length, List, ℕ, arith, rules}
use Rattle.std.proofs.lemmas.Option.{slice_get_read}
use Rattle.std.specs.String.{string_bytes}
use Rattle.csv.specs.Records.{fields_of}
use Rattle.csv_tables.specs.Cells.{cell_of}
use Rattle.csv_tables.specs.Held.{end_of}
use Rattle.csv_tables.proofs.FieldSteps.{field_less, text_there, cell_next, cell_fails, fields_end}
use Rattle.csv_tables.proofs.Holding.{end_pushed, ends_pushed}
use Rattle.csv_tables.proofs.content.take_fields.Goals as goal

pub loop-field-smaller : goal.loop-field-smaller
loop-field-smaller c =
    let l = field_less (fields_of c.args.row.now) c.loop-field.at c.in-Some.field.now (sym c.in-Some.ensures.value) in
    omega arith

pub loop-field-preserved : goal.loop-field-preserved
loop-field-preserved c =
    let s = c.args.layout.now in
    let i = c.loop-field.invariant in
    let f = c.in-Some.field.now in
    let there = sym c.in-Some.ensures.value in
    let less = field_less (fields_of c.args.row.now) c.loop-field.at f there in
    let width = c.requires.width in
    let lt : c.loop-field.at < length s.kinds.items = omega arith in
    let k = slice_get_read s.kinds.items (length s.kinds.items) c.loop-field.at c.index.result.now refl lt c.index.ensures in
    let fits : is_some (cell_of (string_bytes s.null) c.index.result.now f) ≡ true = search rules in
    let size : c.len-count.result ≡ length (fields_of c.args.row.now) = search rules in
    let e : fields_of c.push_field.new.self ≡ fields_of c.loop-field.fields ++ (f ++ end_of (nat_eq (c.loop-field.at + 1) c.len-count.result) ∷ []) ∷ [] =
    c.in_ok-push_field.ensures.fields ∙ ap (λ (p : List ℕ). fields_of c.loop-field.fields ++ (p ++ (f ++ c.end_of.result ∷ [])) ∷ []) i.none_open
    ∙ ap (λ (b : ℕ). fields_of c.loop-field.fields ++ (f ++ b ∷ []) ∷ []) c.end_of.ensures in
    record {
      none_open = c.in_ok-push_field.ensures.partial;
      same = end_pushed (fields_of c.args.row.now) (fields_of c.loop-field.fields) (fields_of c.push_field.new.self) _ c.loop-field.at f _ there (ap (nat_eq (c.loop-field.at + 1)) size) i.same e;
      readable = i.readable ∙ cell_next (string_bytes s.null) s.kinds.items (fields_of c.args.row.now) c.loop-field.at c.index.result.now f k there fits;
    }

pub returns-then-not-is_cell-clause-readable : goal.returns-then-not-is_cell-clause-readable
returns-then-not-is_cell-clause-readable c =
    let s = c.args.layout.now in
    let f = c.in-Some.field.now in
    let there = sym c.in-Some.ensures.value in
    let less = field_less (fields_of c.args.row.now) c.loop-field.at f there in
    let width = c.requires.width in
    let lt : c.loop-field.at < length s.kinds.items = omega arith in
    let k = slice_get_read s.kinds.items (length s.kinds.items) c.loop-field.at c.index.result.now refl lt c.index.ensures in
    let fails : is_some (cell_of (string_bytes s.null) c.index.result.now f) ≡ false = search rules in
    sym (c.loop-field.invariant.readable ∙ cell_fails (string_bytes s.null) s.kinds.items (fields_of c.args.row.now) c.loop-field.at c.index.result.now f k there fails)

pub returns-clause-readable : goal.returns-clause-readable
returns-clause-readable c =
    let s = c.args.layout.now in
    sym (c.loop-field.invariant.readable ∙ fields_end (string_bytes s.null) s.kinds.items (fields_of c.args.row.now) c.loop-field.at (sym c.in_default.ensures.value))

pub returns-clause-fields : goal.returns-clause-fields
returns-clause-fields c = λ is. ends_pushed (fields_of c.args.row.now) (fields_of c.loop-field.fields) _ c.loop-field.at (sym c.in_default.ensures.value) c.loop-field.invariant.same

pub is_cell-requires : goal.is_cell-requires
is_cell-requires c = text_there (fields_of c.args.row.now) c.loop-field.at c.in-Some.field.now c.requires.texts (sym c.in-Some.ensures.value)

pub index-requires : goal.index-requires
index-requires c =
    let less = field_less (fields_of c.args.row.now) c.loop-field.at c.in-Some.field.now (sym c.in-Some.ensures.value) in
    omega (arith, less, c.requires.width, c.args.layout.now.kinds.ok.0)
