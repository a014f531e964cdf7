use Rattle.std.proofs.Common.{◌≡◌, length}
use Rattle.std.specs.List.{list_any}
use Rattle.sqlite_looks.specs.Free.{leads_to}
use Rattle.sqlite_looks.proofs.foreign.lead_to.Given as goal

abbrev pub invariant-loop-reference : goal.invariant-loop-reference
invariant-loop-reference l = list_any (leads_to l.tables l.tree) l.initial.left ≡ list_any (leads_to l.tables l.tree) l.left

abbrev pub decreases-loop-reference : goal.decreases-loop-reference
decreases-loop-reference l = length l.left
