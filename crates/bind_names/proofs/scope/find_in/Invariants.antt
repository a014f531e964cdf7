use Rattle.std.proofs.Common.{◌≡◌, ◌+◌, map, drop}
use Rattle.med_value.specs.Column.{column_of}
use Rattle.bind_names.specs.Scope.{places_from}
use Rattle.bind_names.specs.Telling.{with_places}
use Rattle.bind_names.proofs.scope.find_in.Given as goal

abbrev pub invariant-loop-place : goal.invariant-loop-place
invariant-loop-place l =
    with_places l.fn.found (places_from l.at (map column_of l.columns) l.name) ≡ with_places l.found (places_from (l.at + l.place) (map column_of (drop l.place l.columns)) l.name)
