use Rattle.std.proofs.Common.{◌≡◌, ◌<◌, ◌∙◌, true, ap, map, length, arith, rules}
use Rattle.med_value.specs.Datum.{Tuple, cell}
use Rattle.jsonl_wrapper.specs.Wholes.{is_whole, whole_is}
use Rattle.jsonl_wrapper.proofs.WholeLaws.{slot_of, whole_there}
use Rattle.jsonl_wrapper.proofs.known.known_cell.Goals as goal

pub returns-in-Int : goal.returns-in-Int
returns-in-Int c =
    let t = c.args.table.now in
    let less : c.args.column < length t.fields.items = omega arith in
    let whole : is_whole c.index.result.now.kind ≡ true = ap is_whole c.in-Int.is in
    let slot : c.count_wholes-slot.result ≡ slot_of t c.args.column = search rules in
    c.whole_at.ensures ∙ ap (cell (map whole_is c.kept_wholes.result.now)) slot
    ∙ ap (λ (vs : Tuple). cell vs (slot_of t c.args.column)) c.kept_wholes.ensures
    ∙ whole_there t c.args.at c.args.column c.index.result.now less c.index.ensures whole
