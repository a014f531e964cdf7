use Rattle.std.proofs.Common.{◌≡◌, length, map}
use Rattle.med_syntax.specs.Prelude.{all_in_range, chain_in_range, chain_tree}
use Rattle.sql_print.proofs.numbers.are_chains_in_range.Given as goal

abbrev pub invariant-loop-left : goal.invariant-loop-left
invariant-loop-left l = all_in_range chain_in_range (map chain_tree l.chains) ≡ all_in_range chain_in_range (map chain_tree l.left)

abbrev pub decreases-loop-left : goal.decreases-loop-left
decreases-loop-left l = length l.left
