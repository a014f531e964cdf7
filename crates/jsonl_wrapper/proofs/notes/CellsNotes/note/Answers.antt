use Rattle.std.proofs.Common.{◌≡◌, ◌≤◌, ◌∙◌, List, length, map, unwrap_or, ap, sym, subst, refl, true, true≢false, arith}
use Rattle.std.specs.Vec.{with_items}
use Rattle.std.proofs.lemmas.List.{with_items_is}
use Rattle.med_value.specs.Datum.{datum, NoValue}
use Rattle.med_value.specs.declared.value.Value.{Value}
use Rattle.json_members.specs.Scalars.{seen_of}
use Rattle.jsonl_wrapper.specs.Fields.{reader_of}
use Rattle.jsonl_wrapper.specs.Notes.{cell_seen, at_member}
use Rattle.jsonl_wrapper.proofs.NoteLaws.{cells_after}
use Rattle.jsonl_wrapper.proofs.notes.CellsNotes.note.Goals as goal

pub returns-in-Ok : goal.returns-in-Ok
returns-in-Ok c = λ begun ms d e is.
    let fields = c.args.self.now.fields.now in
    let value = c.deref_mut.ensures.value in
    let many : length c.put_member.new.cells ≡ c.args.self.now.cells.len = omega (arith, c.deref_mut.ensures.len) in
    let items = with_items_is c.args.self.now.cells c.put_member.new.cells many in
    cells_after begun c.args.self.now (record c.args.self.now { cells = with_items c.args.self.now.cells c.put_member.new.cells }) ms d
    c.args.name.now (seen_of c.args.scalar) e is refl
    (λ short. (
      short,
      λ le. ap (map datum) items ∙ c.in-Ok.ensures (subst (λ (xs : List Value). length fields ≤ length xs) (sym value) le)
          ∙ ap (λ (xs : List Value). at_member c.args.name.now (λ kind. unwrap_or (cell_seen (seen_of c.args.scalar) kind) NoValue)
          (map reader_of fields) (map datum xs)) value,
    ))

pub returns-in-Err : goal.returns-in-Err
returns-in-Err c = λ begun ms d e is.
    cells_after begun c.args.self.now
    (record c.args.self.now { cells = with_items c.args.self.now.cells c.put_member.new.cells; is_short = true }) ms d
    c.args.name.now (seen_of c.args.scalar) e is refl (λ short. absurd (true≢false short))
