use Rattle.std.proofs.Common.{List, ◌≡◌, map, flat_map, option_map, drop}
use Rattle.med_value.specs.Column.{column_of}
use Rattle.med_syntax.specs.WriteView.{names_tree}
use Rattle.tri_expr.specs.Tree.{Tree}
use Rattle.med_write.specs.Form.{trees_of}
use Rattle.bind_write.specs.Typing.{row_fit_causes, row_types}
use Rattle.bind_write.proofs.values.check_each.Given as goal

abbrev pub invariant-loop-row : goal.invariant-loop-row
invariant-loop-row l =
    let f = λ (ts : List Tree). row_fit_causes (map column_of l.columns) (option_map names_tree l.names) (row_types ts) in
    flat_map f (map trees_of l.rows) ≡ flat_map f (map trees_of (drop l.row-index l.rows))
