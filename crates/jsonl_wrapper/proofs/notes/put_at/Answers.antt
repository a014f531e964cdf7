use Rattle.std.proofs.Common.{◌≡◌, ◌∙◌, true, map, slice_set, bytes_eq, string_bytes, ap, rules}
use Rattle.med_value.specs.Datum.{Datum, datum}
use Rattle.jsonl_wrapper.proofs.NoteLaws.{map_set}
use Rattle.jsonl_wrapper.proofs.notes.put_at.Goals as goal

pub returns-in_ok-cells : goal.returns-in_ok-cells
returns-in_ok-cells c =
    let cells = c.args.cells.now in
    let e : bytes_eq (string_bytes c.args.field.now.member) c.args.name.now ≡ true = search rules in
    rw e (map_set datum cells c.args.at c.in_ok-cells.field-0
    ∙ ap (λ (v : Datum). slice_set (map datum cells) c.args.at v) c.in_ok-cells.ensures)
