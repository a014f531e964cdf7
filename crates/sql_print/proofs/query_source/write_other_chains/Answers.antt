use Rattle.std.proofs.Common.{map, rules}
use Rattle.std.specs.String.{string_bytes}
use Rattle.med_syntax.specs.QueryView.{chain_tree}
use Rattle.sql_print.proofs.WritingParts.{chains_next}
use Rattle.sql_print.proofs.query_source.write_other_chains.Goals as goal

pub loop-chain-preserved : goal.loop-chain-preserved
loop-chain-preserved c =
    chains_next (string_bytes c.args.out.now) (string_bytes c.loop-chain.out) (string_bytes c.write_comma.new.out) (string_bytes c.write_chain.new.out) (chain_tree c.in-Some.chain.now) (map chain_tree c.in-Some.rest.now) (map chain_tree c.args.chains.now)
    (search rules) c.in_ok-write_comma.ensures c.in_ok-write_chain.ensures
