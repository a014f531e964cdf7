use Rattle.std.proofs.Common.{◌≡◌, map, flat_map, drop}
use Rattle.med_query.specs.Form.{chain_form}
use Rattle.bind_types.specs.Typing.{chain_causes}
use Rattle.bind_types.proofs.forms.check_from.Given as goal

abbrev pub invariant-loop-chain : goal.invariant-loop-chain
invariant-loop-chain l = flat_map chain_causes (map chain_form l.chains) ≡ flat_map chain_causes (map chain_form (drop l.chain-index l.chains))
