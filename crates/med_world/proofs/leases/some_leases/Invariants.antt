use Rattle.std.proofs.Common.{◌≡◌, map, drop}
use Rattle.std.specs.List.{list_any}
use Rattle.med_world.specs.Open.{opened, leases_table}
use Rattle.med_world.proofs.leases.some_leases.Given as goal

abbrev pub invariant-loop-cursor : goal.invariant-loop-cursor
invariant-loop-cursor l = list_any (leases_table l.table) (map opened l.cursors) ≡ list_any (leases_table l.table) (map opened (drop l.cursor-index l.cursors))
