use Rattle.std.proofs.Common.{◌≡◌, ◌++◌, map, take, drop}
use Rattle.csv_tables.specs.Held.{moved}
use Rattle.csv_tables.proofs.flat_fields.move_places.Given as goal

abbrev pub invariant-loop-place : goal.invariant-loop-place
invariant-loop-place l = l.places ≡ map (moved l.from l.to) (take l.place-index l.initial.places) ++ drop l.place-index l.initial.places
