use Rattle.std.proofs.Common.{◌≡◌, map, option_map, drop}
use Rattle.med_value.specs.Column.{column_of}
use Rattle.tri_expr.specs.Tree.{tree}
use Rattle.med_syntax.specs.WriteView.{names_tree}
use Rattle.bind_write.specs.Meaning.{places_meant}
use Rattle.bind_write.specs.Typing.{cells_causes, row_types, type_at}
use Rattle.bind_write.proofs.values.check_values.Given as goal

abbrev pub invariant-loop-place : goal.invariant-loop-place
invariant-loop-place l =
    let given = map (type_at (row_types (map tree l.values))) (places_meant (option_map names_tree l.names) (map column_of l.columns)) in
    cells_causes (map column_of l.columns) given ≡ cells_causes (map column_of (drop l.place l.columns)) (drop l.place given)
