use Rattle.std.proofs.Common.{◌≡◌, map, drop, flat_map}
use Rattle.med_syntax.specs.QueryView.{chain_tree}
use Rattle.bind_names.specs.Scope.{table_shape}
use Rattle.bind_types.specs.Typing.{chain_type_causes}
use Rattle.bind_types.proofs.checks.check_from.Given as goal

abbrev pub invariant-loop-chain : goal.invariant-loop-chain
invariant-loop-chain l =
    flat_map (chain_type_causes (map table_shape l.tables)) (map chain_tree l.chains) ≡ flat_map (chain_type_causes (map table_shape l.tables)) (map chain_tree (drop l.chain-index l.chains))
