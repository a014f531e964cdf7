use Rattle.std.proofs.Common.{map}
use Rattle.med_syntax.specs.Prelude.{spelling, expr_tree}
use Rattle.sql_print.specs.QueryPrinting.{others_written}
use Rattle.sql_print.proofs.Writing.{then_if}
use Rattle.sql_print.proofs.write_lists.write_value_list.Goals as goal

pub returns : goal.returns
returns c = then_if c.write_other_values.result _ _ _ (spelling (expr_tree c.args.first.now)) (others_written spelling (map expr_tree c.args.others.now)) c.in_ok-write.ensures c.write_other_values.ensures
