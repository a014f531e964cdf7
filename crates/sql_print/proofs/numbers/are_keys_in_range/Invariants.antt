use Rattle.std.proofs.Common.{◌≡◌, length, map}
use Rattle.med_syntax.specs.Prelude.{all_in_range, key_in_range, key_tree}
use Rattle.sql_print.proofs.numbers.are_keys_in_range.Given as goal

abbrev pub invariant-loop-left : goal.invariant-loop-left
invariant-loop-left l = all_in_range key_in_range (map key_tree l.keys) ≡ all_in_range key_in_range (map key_tree l.left)

abbrev pub decreases-loop-left : goal.decreases-loop-left
decreases-loop-left l = length l.left
