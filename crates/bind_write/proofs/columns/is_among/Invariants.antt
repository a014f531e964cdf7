use Rattle.std.proofs.Common.{◌≡◌, map, string_bytes, drop, bytes_eq}
use Rattle.std.specs.List.{list_any}
use Rattle.bind_write.proofs.columns.is_among.Given as goal

abbrev pub invariant-loop-other : goal.invariant-loop-other
invariant-loop-other l = list_any (bytes_eq l.name) (map string_bytes l.names) ≡ list_any (bytes_eq l.name) (map string_bytes (drop l.other-index l.names))
