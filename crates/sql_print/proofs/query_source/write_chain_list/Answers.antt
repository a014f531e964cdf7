use Rattle.std.proofs.Common.{map}
use Rattle.sql_print.specs.QueryPrinting.{chain_written, others_written}
use Rattle.med_syntax.specs.QueryView.{chain_tree}
use Rattle.sql_print.proofs.Writing.{then_if}
use Rattle.sql_print.proofs.query_source.write_chain_list.Goals as goal

pub returns : goal.returns
returns c = then_if c.write_other_chains.result _ _ _ (chain_written (chain_tree c.args.first.now)) (others_written chain_written (map chain_tree c.args.others.now)) c.in_ok-write_chain.ensures c.write_other_chains.ensures
