use Rattle.std.proofs.Common.{map}
use Rattle.sql_print.specs.QueryPrinting.{item_written, others_written}
use Rattle.med_syntax.specs.QueryView.{item_tree}
use Rattle.sql_print.proofs.Writing.{then_if}
use Rattle.sql_print.proofs.query_items.write_item_list.Goals as goal

pub returns : goal.returns
returns c = then_if c.write_other_items.result _ _ _ (item_written (item_tree c.args.first.now)) (others_written item_written (map item_tree c.args.others.now)) c.in_ok-write_item.ensures c.write_other_items.ensures
