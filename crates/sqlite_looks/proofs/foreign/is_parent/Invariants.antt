use Rattle.std.proofs.Common.{◌≡◌, length}
use Rattle.sqlite_looks.specs.Free.{is_parent}
use Rattle.sqlite_looks.proofs.foreign.is_parent.Given as goal

abbrev pub invariant-loop-child : goal.invariant-loop-child
invariant-loop-child l = is_parent l.tables l.tree l.initial.left ≡ is_parent l.tables l.tree l.left

abbrev pub decreases-loop-child : goal.decreases-loop-child
decreases-loop-child l = length l.left
