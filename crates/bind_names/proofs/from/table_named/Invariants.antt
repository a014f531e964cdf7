use Rattle.std.proofs.Common.{◌≡◌, map, drop}
use Rattle.bind_names.specs.Scope.{table_shape, place_from}
use Rattle.bind_names.proofs.from.table_named.Given as goal

abbrev pub invariant-loop-place : goal.invariant-loop-place
invariant-loop-place l = place_from 0 (map table_shape l.tables) l.name ≡ place_from l.place (map table_shape (drop l.place l.tables)) l.name
