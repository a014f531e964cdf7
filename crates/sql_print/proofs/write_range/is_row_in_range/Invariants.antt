use Rattle.std.proofs.Common.{◌≡◌, length, map}
use Rattle.med_syntax.specs.Prelude.{all_in_range, in_range, expr_tree}
use Rattle.sql_print.proofs.write_range.is_row_in_range.Given as goal

abbrev pub invariant-loop-left : goal.invariant-loop-left
invariant-loop-left l = all_in_range in_range (map expr_tree l.row) ≡ all_in_range in_range (map expr_tree l.left)

abbrev pub decreases-loop-left : goal.decreases-loop-left
decreases-loop-left l = length l.left
