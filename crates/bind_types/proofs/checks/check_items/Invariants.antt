use Rattle.std.proofs.Common.{◌≡◌, map, drop, flat_map}
use Rattle.med_syntax.specs.QueryView.{item_tree}
use Rattle.bind_names.specs.Scope.{scope_of}
use Rattle.bind_types.specs.Typing.{item_type_causes}
use Rattle.bind_types.proofs.checks.check_items.Given as goal

abbrev pub invariant-loop-item : goal.invariant-loop-item
invariant-loop-item l =
    flat_map (item_type_causes (scope_of l.scope)) (map item_tree l.items) ≡ flat_map (item_type_causes (scope_of l.scope)) (map item_tree (drop l.item-index l.items))
