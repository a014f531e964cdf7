use Rattle.std.proofs.Common.{map, rules}
use Rattle.std.specs.String.{string_bytes}
use Rattle.med_syntax.specs.WriteView.{row_tree}
use Rattle.sql_print.specs.WritePrinting.{row_written}
use Rattle.sql_print.proofs.WritingParts.{others_next}
use Rattle.sql_print.proofs.write_lists.write_other_rows.Goals as goal

pub loop-row-preserved : goal.loop-row-preserved
loop-row-preserved c =
    others_next row_written (string_bytes c.args.out.now) (string_bytes c.loop-row.out) (string_bytes c.write_fixed.new.out) (string_bytes c.write_row.new.out) (row_tree c.in-Some.row.now) (map row_tree c.in-Some.rest.now) (map row_tree c.args.rows.now)
    (search rules) c.in_ok-write_fixed.ensures c.in_ok-write_row.ensures
