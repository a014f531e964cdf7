use Rattle.std.proofs.Common.{◌≡◌, ◌++◌, map, option_map, drop}
use Rattle.med_value.specs.Column.{column_of}
use Rattle.med_syntax.specs.WriteView.{names_tree}
use Rattle.bind_write.specs.Meaning.{places_meant}
use Rattle.bind_write.proofs.places.places_for.Given as goal

abbrev pub invariant-loop-place : goal.invariant-loop-place
invariant-loop-place l =
    let all = places_meant (option_map names_tree l.names) (map column_of l.columns) in
    l.out.items ++ drop l.place all ≡ all
