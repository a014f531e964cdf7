use Rattle.std.proofs.Common.{◌<◌, ◌∙◌, length, map, flat_map, ap, arith}
use Rattle.std.proofs.lemmas.Result.{err_from_is_err_and}
use Rattle.med_syntax.specs.WriteView.{row_tree}
use Rattle.med_write.specs.Form.{trees_of}
use Rattle.bind_names.proofs.Causes.{tells_first}
use Rattle.bind_names.proofs.Parts.{drop_read}
use Rattle.bind_write.specs.Meaning.{row_meant}
use Rattle.bind_write.specs.Typing.{row_type_causes}
use Rattle.bind_write.proofs.Rows.{same_at}
use Rattle.bind_write.proofs.values.check_each_types.Goals as goal

pub check_row_types-requires : goal.check_row_types-requires
check_row_types-requires c =
    let lt : c.loop-place.place < length c.args.rows.now = omega arith in
    same_at trees_of row_meant row_tree c.args.resolved.now c.args.rows.now c.loop-place.place c.index-resolved-place.result c.index-rows-place.result c.requires lt c.index-rows-place.is c.index-resolved-place.is

pub returns-in_err-check_row_types : goal.returns-in_err-check_row_types
returns-in_err-check_row_types c =
    let lt : c.loop-place.place < length c.args.rows.now = omega arith in
    let x = c.index-rows-place.result in
    let at = drop_read c.args.rows.now c.loop-place.place x lt c.index-rows-place.is in
    let p = err_from_is_err_and c.from_residual.result c.from_residual.ensures.1 in
    rw (p.1, p.2) (tells_first _ (row_type_causes (row_tree x)) _ _ (c.loop-place.invariant ∙ ap (λ xs. flat_map row_type_causes (map row_tree xs)) at) c.in_err-check_row_types.ensures)
