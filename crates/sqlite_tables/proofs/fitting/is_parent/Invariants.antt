use Rattle.std.proofs.Common.{◌≡◌, length}
use Rattle.std.specs.List.{list_any}
use Rattle.sqlite_tables.specs.Fitting.{refers_to}
use Rattle.sqlite_tables.proofs.fitting.is_parent.Given as goal

abbrev pub invariant-loop-table : goal.invariant-loop-table
invariant-loop-table l = list_any (refers_to l.name) l.initial.left ≡ list_any (refers_to l.name) l.left

abbrev pub decreases-loop-table : goal.decreases-loop-table
decreases-loop-table l = length l.left
