use Rattle.std.proofs.Common.{◌≡◌, length, map}
use Rattle.med_syntax.specs.Prelude.{all_in_range, row_tree}
use Rattle.write_parser.specs.WriteCauses.{row_in_range}
use Rattle.sql_print.proofs.write_range.are_rows_in_range.Given as goal

abbrev pub invariant-loop-left : goal.invariant-loop-left
invariant-loop-left l = all_in_range row_in_range (map row_tree l.rows) ≡ all_in_range row_in_range (map row_tree l.left)

abbrev pub decreases-loop-left : goal.decreases-loop-left
decreases-loop-left l = length l.left
