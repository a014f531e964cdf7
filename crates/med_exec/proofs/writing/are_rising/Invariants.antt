use Rattle.std.proofs.Common.{◌≡◌, map, length}
use Rattle.med_exec.specs.Rising.{rise_from}
use Rattle.med_exec.proofs.writing.are_rising.Given as goal

abbrev pub invariant-loop-row : goal.invariant-loop-row
invariant-loop-row l = rise_from l.last (map (λ r. r.id.number) l.left) ≡ rise_from l.initial.last (map (λ r. r.id.number) l.initial.left)

abbrev pub decreases-loop-row : goal.decreases-loop-row
decreases-loop-row l = length l.left
