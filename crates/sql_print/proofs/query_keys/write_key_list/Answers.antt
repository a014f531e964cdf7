use Rattle.std.proofs.Common.{map}
use Rattle.sql_print.specs.QueryPrinting.{key_written, others_written}
use Rattle.med_syntax.specs.QueryView.{key_tree}
use Rattle.sql_print.proofs.Writing.{then_if}
use Rattle.sql_print.proofs.query_keys.write_key_list.Goals as goal

pub returns : goal.returns
returns c = then_if c.write_other_keys.result _ _ _ (key_written (key_tree c.args.first.now)) (others_written key_written (map key_tree c.args.others.now)) c.in_ok-write_key.ensures c.write_other_keys.ensures
