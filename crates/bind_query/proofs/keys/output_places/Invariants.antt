use Rattle.std.proofs.Common.{◌≡◌, ◌++◌, map, flat_map, drop}
use Rattle.med_syntax.specs.QueryView.{key_tree}
use Rattle.bind_names.specs.Prelude.{place_name_causes, key_place}
use Rattle.bind_query.specs.Shown.{output_of}
use Rattle.bind_query.proofs.keys.output_places.Given as goal

abbrev pub invariant-loop-written : goal.invariant-loop-written
invariant-loop-written l = record {
  causes : flat_map (place_name_causes (map output_of l.outputs)) (map key_tree l.keys) ≡ flat_map (place_name_causes (map output_of l.outputs)) (map key_tree (drop l.written-index l.keys));
  places : l.out.items ++ map (key_place (map output_of l.outputs)) (map key_tree (drop l.written-index l.keys)) ≡ map (key_place (map output_of l.outputs)) (map key_tree l.keys);
}
