use Rattle.std.proofs.Common.{◌≡◌, ◌++◌, map, flat_map, drop}
use Rattle.med_syntax.specs.QueryView.{key_tree}
use Rattle.tri_expr.specs.Tree.{tree}
use Rattle.bind_names.specs.Prelude.{scope_of, key_name_causes, key_meant}
use Rattle.bind_query.specs.Shown.{output_of}
use Rattle.bind_query.proofs.keys.keys.Given as goal

abbrev pub invariant-loop-written : goal.invariant-loop-written
invariant-loop-written l = record {
  causes : flat_map (key_name_causes (scope_of l.scope) l.distinct (map output_of l.outputs)) (map key_tree l.keys) ≡ flat_map (key_name_causes (scope_of l.scope) l.distinct (map output_of l.outputs)) (map key_tree (drop l.written-index l.keys));
  keys : map tree l.out.items ++ map (key_meant (scope_of l.scope) (map output_of l.outputs)) (map key_tree (drop l.written-index l.keys)) ≡ map (key_meant (scope_of l.scope) (map output_of l.outputs)) (map key_tree l.keys);
}
