use Rattle.std.proofs.Common.{◌≡◌, map, drop, flat_map}
use Rattle.med_syntax.specs.QueryView.{key_tree}
use Rattle.bind_names.specs.Scope.{scope_of}
use Rattle.bind_types.specs.Kinds.{written_key_causes}
use Rattle.bind_types.proofs.checks.check_keys.Given as goal

abbrev pub invariant-loop-key : goal.invariant-loop-key
invariant-loop-key l =
    flat_map (written_key_causes (scope_of l.scope)) (map key_tree l.keys) ≡ flat_map (written_key_causes (scope_of l.scope)) (map key_tree (drop l.key-index l.keys))
