use Rattle.std.proofs.Common.{◌≡◌, length}
use Rattle.med_syntax.specs.Prelude.{all_in_range, item_in_range, items_tree}
use Rattle.sql_print.proofs.numbers.are_items_in_range.Given as goal

abbrev pub invariant-loop-left : goal.invariant-loop-left
invariant-loop-left l = all_in_range item_in_range (items_tree l.items) ≡ all_in_range item_in_range (items_tree l.left)

abbrev pub decreases-loop-left : goal.decreases-loop-left
decreases-loop-left l = length l.left
