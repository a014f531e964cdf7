use Rattle.std.proofs.Common.{map}
use Rattle.med_syntax.specs.WriteView.{row_tree}
use Rattle.sql_print.specs.WritePrinting.{row_written}
use Rattle.sql_print.specs.QueryPrinting.{others_written}
use Rattle.sql_print.proofs.Writing.{then_if}
use Rattle.sql_print.proofs.write_lists.write_row_list.Goals as goal

pub returns : goal.returns
returns c = then_if c.write_other_rows.result _ _ _ (row_written (row_tree c.args.first.now)) (others_written row_written (map row_tree c.args.others.now)) c.in_ok-write_row.ensures c.write_other_rows.ensures
