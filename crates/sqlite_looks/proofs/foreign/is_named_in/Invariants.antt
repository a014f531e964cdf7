use Rattle.std.proofs.Common.{◌≡◌, find, length}
use Rattle.sqlite_schema.specs.Names.{same_name}
use Rattle.sqlite_looks.specs.Free.{is_in}
use Rattle.sqlite_looks.proofs.foreign.is_named_in.Given as goal

abbrev pub invariant-loop-table : goal.invariant-loop-table
invariant-loop-table l =
    is_in l.tree (find (λ t. same_name t.name l.name) l.initial.left) ≡ is_in l.tree (find (λ t. same_name t.name l.name) l.left)

abbrev pub decreases-loop-table : goal.decreases-loop-table
decreases-loop-table l = length l.left
