use Rattle.std.proofs.Common.{◌≡◌, map, option_map, drop}
use Rattle.med_value.specs.Column.{column_of}
use Rattle.med_syntax.specs.WriteView.{names_tree}
use Rattle.bind_write.specs.Meaning.{places_meant}
use Rattle.bind_write.specs.Typing.{cells_causes, type_at}
use Rattle.bind_write.proofs.places.check_kinds.Given as goal

abbrev pub invariant-loop-place : goal.invariant-loop-place
invariant-loop-place l =
    let given = map (type_at l.kinds) (places_meant (option_map names_tree l.names) (map column_of l.columns)) in
    cells_causes (map column_of l.columns) given ≡ cells_causes (map column_of (drop l.place l.columns)) (drop l.place given)
