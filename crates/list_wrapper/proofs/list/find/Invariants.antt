use Rattle.std.proofs.Common.{◌≡◌, ◌-◌, drop, length, map}
use Rattle.list_wrapper.specs.Scans.{table_listed}
use Rattle.list_wrapper.specs.Lists.{entry_of}
use Rattle.list_wrapper.proofs.list.find.Given as goal

abbrev pub invariant-loop-at : goal.invariant-loop-at
invariant-loop-at l = entry_of (map table_listed l.tables.items) l.name ≡ entry_of (map table_listed (drop l.at l.tables.items)) l.name

abbrev pub decreases-loop-at : goal.decreases-loop-at
decreases-loop-at l = length l.tables.items - l.at
