use Rattle.std.proofs.Common.{◌≡◌, map, drop, bytes_eq, string_bytes}
use Rattle.std.specs.List.{list_any}
use Rattle.med_world.proofs.leases.is_among.Given as goal

abbrev pub invariant-loop-leased : goal.invariant-loop-leased
invariant-loop-leased l = list_any (bytes_eq l.table) (map string_bytes l.tables) ≡ list_any (bytes_eq l.table) (map string_bytes (drop l.leased-index l.tables))
