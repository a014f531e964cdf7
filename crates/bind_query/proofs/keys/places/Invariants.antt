use Rattle.std.proofs.Common.{◌≡◌, ◌++◌, map, flat_map, drop}
use Rattle.med_syntax.specs.QueryView.{group_tree}
use Rattle.bind_names.specs.Prelude.{scope_of, group_name_causes, group_place}
use Rattle.bind_query.proofs.keys.places.Given as goal

abbrev pub invariant-loop-group : goal.invariant-loop-group
invariant-loop-group l = record {
  causes : flat_map (group_name_causes (scope_of l.scope)) (map group_tree l.groups) ≡ flat_map (group_name_causes (scope_of l.scope)) (map group_tree (drop l.group-index l.groups));
  places : l.out.items ++ map (group_place (scope_of l.scope)) (map group_tree (drop l.group-index l.groups)) ≡ map (group_place (scope_of l.scope)) (map group_tree l.groups);
}
