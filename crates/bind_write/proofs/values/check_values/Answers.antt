use Rattle.std.proofs.Common.{◌<◌, length, map, option_map, ap, sym, ◌∙◌, arith}
use Rattle.std.proofs.lemmas.Result.{err_from_is_err_and}
use Rattle.med_value.specs.Column.{column_of}
use Rattle.tri_expr.specs.Tree.{tree}
use Rattle.med_syntax.specs.WriteView.{names_tree}
use Rattle.bind_names.proofs.Causes.{tells_first, tells_same, next_causes}
use Rattle.bind_write.specs.Meaning.{places_meant}
use Rattle.bind_write.specs.Typing.{column_causes, row_types, type_at}
use Rattle.bind_write.proofs.PartCells.{placed_step}
use Rattle.bind_write.proofs.values.check_values.Goals as goal

pub returns-in_err-check_column : goal.returns-in_err-check_column
returns-in_err-check_column c =
    let lt : c.loop-place.place < length c.args.columns.now = omega arith in
    let p = err_from_is_err_and c.from_residual.result c.from_residual.ensures.1 in
    let x = c.index-columns-place.result in
    let all = places_meant (option_map names_tree c.args.names.now) (map column_of c.args.columns.now) in
    let step = placed_step c.args.columns.now all (row_types (map tree c.args.values.now)) c.loop-place.place x c.place_of.result lt c.index-columns-place.is c.place_of.ensures in
    rw (p.1, p.2) (tells_first _ (column_causes (column_of x) (type_at (row_types (map tree c.args.values.now)) c.place_of.result)) _ _ (c.loop-place.invariant ∙ step)
    (tells_same _ _ _ (ap (column_causes (column_of x)) c.kind_in.ensures) c.in_err-check_column.ensures))

pub loop-place-preserved : goal.loop-place-preserved
loop-place-preserved c =
    let lt : c.loop-place.place < length c.args.columns.now = omega arith in
    let x = c.index-columns-place.result in
    let all = places_meant (option_map names_tree c.args.names.now) (map column_of c.args.columns.now) in
    let step = placed_step c.args.columns.now all (row_types (map tree c.args.values.now)) c.loop-place.place x c.place_of.result lt c.index-columns-place.is c.place_of.ensures in
    next_causes _ (column_causes (column_of x) (type_at (row_types (map tree c.args.values.now)) c.place_of.result)) _ (c.loop-place.invariant ∙ step)
    (ap (column_causes (column_of x)) (sym c.kind_in.ensures) ∙ c.in_ok-check_column.ensures)
