use Rattle.std.proofs.Common.{◌≡◌, map, flat_map, option_map, drop}
use Rattle.med_value.specs.Column.{column_of}
use Rattle.med_syntax.specs.WriteView.{names_tree}
use Rattle.bind_types.specs.Kinds.{types_in}
use Rattle.bind_write.specs.Typing.{row_fit_causes}
use Rattle.bind_write.proofs.querying.check_answer.Given as goal

abbrev pub invariant-loop-row : goal.invariant-loop-row
invariant-loop-row l =
    let f = row_fit_causes (map column_of l.columns) (option_map names_tree l.names) in
    flat_map f (map types_in l.kinds) ≡ flat_map f (map types_in (drop l.row-index l.kinds))
