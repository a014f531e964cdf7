use Rattle.std.proofs.Common.{◌≡◌, map, string_bytes, drop}
use Rattle.bind_write.specs.Meaning.{name_place}
use Rattle.bind_write.proofs.columns.name_place.Given as goal

abbrev pub invariant-loop-place : goal.invariant-loop-place
invariant-loop-place l = name_place 0 (map string_bytes l.names) l.name ≡ name_place l.place (map string_bytes (drop l.place l.names)) l.name
