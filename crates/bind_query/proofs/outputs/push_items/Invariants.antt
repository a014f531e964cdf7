use Rattle.std.proofs.Common.{◌≡◌, ◌++◌, map, drop, flat_map}
use Rattle.med_syntax.specs.QueryView.{item_tree}
use Rattle.bind_names.specs.Prelude.{scope_of, item_name_causes, item_outputs}
use Rattle.bind_query.specs.Shown.{output_of}
use Rattle.bind_query.proofs.outputs.push_items.Given as goal

abbrev pub invariant-loop-item : goal.invariant-loop-item
invariant-loop-item l = record {
  causes : flat_map (item_name_causes (scope_of l.scope)) (map item_tree l.items) ≡ flat_map (item_name_causes (scope_of l.scope)) (map item_tree (drop l.item-index l.items));
  added : map output_of l.out.items ++ flat_map (item_outputs (scope_of l.scope)) (map item_tree (drop l.item-index l.items)) ≡ map output_of l.initial.out.items ++ flat_map (item_outputs (scope_of l.scope)) (map item_tree l.items);
}
