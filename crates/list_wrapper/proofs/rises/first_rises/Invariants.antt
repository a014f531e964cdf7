use Rattle.std.proofs.Common.{◌-◌, length}
use Rattle.wrapper_parts.specs.KeepingRise.{RiseUpTo}
use Rattle.list_wrapper.specs.Scans.{keys_of}
use Rattle.list_wrapper.proofs.rises.first_rises.Given as goal

abbrev pub invariant-loop-at : goal.invariant-loop-at
invariant-loop-at l = RiseUpTo (keys_of l.rows.items) l.low l.at

abbrev pub decreases-loop-at : goal.decreases-loop-at
decreases-loop-at l = length l.rows.items - l.at
