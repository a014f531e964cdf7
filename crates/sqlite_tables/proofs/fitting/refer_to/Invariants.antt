use Rattle.std.proofs.Common.{◌≡◌, length}
use Rattle.std.specs.List.{list_any}
use Rattle.sqlite_schema.specs.Names.{same_name}
use Rattle.sqlite_tables.proofs.fitting.refer_to.Given as goal

abbrev pub invariant-loop-reference : goal.invariant-loop-reference
invariant-loop-reference l = list_any (λ r. same_name r.parent l.name) l.initial.left ≡ list_any (λ r. same_name r.parent l.name) l.left

abbrev pub decreases-loop-reference : goal.decreases-loop-reference
decreases-loop-reference l = length l.left
