use Rattle.std.proofs.Common.{◌≡◌, map, string_bytes, drop}
use Rattle.med_catalog.specs.Options.{repeats}
use Rattle.bind_write.proofs.columns.check_once.Given as goal

abbrev pub invariant-loop-place : goal.invariant-loop-place
invariant-loop-place l = repeats (map string_bytes l.names) ≡ repeats (map string_bytes (drop l.place l.names))
