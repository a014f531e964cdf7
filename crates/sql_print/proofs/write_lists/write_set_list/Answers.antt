use Rattle.std.proofs.Common.{map}
use Rattle.med_syntax.specs.WriteView.{set_tree}
use Rattle.sql_print.specs.WritePrinting.{set_written}
use Rattle.sql_print.specs.QueryPrinting.{others_written}
use Rattle.sql_print.proofs.Writing.{then_if}
use Rattle.sql_print.proofs.write_lists.write_set_list.Goals as goal

pub returns : goal.returns
returns c = then_if c.write_other_sets.result _ _ _ (set_written (set_tree c.args.first.now)) (others_written set_written (map set_tree c.args.others.now)) c.in_ok-write_set.ensures c.write_other_sets.ensures
