use Rattle.std.proofs.Common.{◌≡◌, ◌++◌, map, drop}
use Rattle.med_syntax.specs.QueryView.{key_tree}
use Rattle.med_query.specs.Form.{direction_of}
use Rattle.bind_names.specs.Meaning.{key_direction}
use Rattle.bind_query.proofs.keys.directions.Given as goal

abbrev pub invariant-loop-key : goal.invariant-loop-key
invariant-loop-key l = map direction_of l.out.items ++ map key_direction (map key_tree (drop l.key-index l.keys)) ≡ map key_direction (map key_tree l.keys)
