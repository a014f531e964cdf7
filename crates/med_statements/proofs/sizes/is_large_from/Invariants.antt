use Rattle.std.proofs.Common.{◌≡◌, nat_lt, map, drop}
use Rattle.med_query.specs.Form.{chain_form}
use Rattle.sql_meaning.specs.Sizes.{entries_in}
use Rattle.med_statements.proofs.sizes.is_large_from.Given as goal

-- what is left has to fit into the room that is left
abbrev pub invariant-loop-chain : goal.invariant-loop-chain
invariant-loop-chain l = nat_lt l.room (entries_in (map chain_form (drop l.chain-index l.chains))) ≡ nat_lt 8 (entries_in (map chain_form l.chains))
