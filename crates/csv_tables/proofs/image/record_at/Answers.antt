use Rattle.std.proofs.Common.{◌≡◌, ◌++◌, ◌∷◌, [], ◌∙◌, sym, ap, List, ℕ, Some, None, slice_get}
use Rattle.csv.specs.Records.{fields_of}
use Rattle.csv_tables.specs.Tables.{record_at}
use Rattle.csv_tables.proofs.Flat.{field_here, take_some, take_none}
use Rattle.csv_tables.proofs.image.record_at.Goals.{in-Some+in_ok-push_field, in_default}
use Rattle.csv_tables.proofs.image.record_at.Goals as goal
use Rattle.csv_tables.specs.Held.{held_of}

pub loop-column-preserved : goal.loop-column-preserved
loop-column-preserved c =
    let s = c.args.rows.now in
    let i = c.loop-column.invariant in
    let here = field_here c.args.at s.width c.loop-column.column (held_of s.fields) c.loop-column-test.true in
    elim c.match-get.branch [
      | in-Some+in_ok-push_field w ↦
          (let e : slice_get (record_at s c.args.at) c.loop-column.column ≡ Some w.in-Some.field.now = sym (w.in-Some.ensures.value ∙ here) in
          rw w.row-is record {
            none_open = w.in_ok-push_field.ensures.partial;
            same = w.in_ok-push_field.ensures.fields ∙ ap (λ (p : List ℕ). fields_of c.loop-column.row ++ (p ++ w.in-Some.field.now) ∷ []) i.none_open
                ∙ ap (λ l. l ++ w.in-Some.field.now ∷ []) i.same ∙ sym (take_some (record_at s c.args.at) c.loop-column.column w.in-Some.field.now e);
          })
      | in_default w ↦
          (let e : slice_get (record_at s c.args.at) c.loop-column.column ≡ None = sym (w.in_default.ensures.value ∙ here) in
          rw w.row-is record {
            none_open = i.none_open;
            same = i.same ∙ sym (take_none (record_at s c.args.at) c.loop-column.column e);
          })
    ]
