use Rattle.std.proofs.Common.{◌≡◌, length, map}
use Rattle.med_syntax.specs.Prelude.{all_in_range, set_tree}
use Rattle.write_parser.specs.WriteCauses.{set_in_range}
use Rattle.sql_print.proofs.write_range.are_sets_in_range.Given as goal

abbrev pub invariant-loop-left : goal.invariant-loop-left
invariant-loop-left l = all_in_range set_in_range (map set_tree l.sets) ≡ all_in_range set_in_range (map set_tree l.left)

abbrev pub decreases-loop-left : goal.decreases-loop-left
decreases-loop-left l = length l.left
