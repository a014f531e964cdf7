use Rattle.std.proofs.Common.{map}
use Rattle.sql_print.specs.QueryPrinting.{group_written, others_written}
use Rattle.med_syntax.specs.QueryView.{group_tree}
use Rattle.sql_print.proofs.Writing.{then_if}
use Rattle.sql_print.proofs.query_keys.write_group_list.Goals as goal

pub returns : goal.returns
returns c = then_if c.write_other_groups.result _ _ _ (group_written (group_tree c.args.first.now)) (others_written group_written (map group_tree c.args.others.now)) c.in_ok-write_group.ensures c.write_other_groups.ensures
