use Rattle.std.proofs.Common.{◌≡◌, map, flat_map, drop}
use Rattle.med_syntax.specs.ExprView.{expr_tree}
use Rattle.bind_names.specs.Scope.{scope_of}
use Rattle.bind_types.specs.Typing.{type_causes}
use Rattle.bind_types.proofs.values.type_values.Given as goal

abbrev pub invariant-loop-value : goal.invariant-loop-value
invariant-loop-value l =
    let f = type_causes (scope_of l.scope) in
    flat_map f (map expr_tree l.values) ≡ flat_map f (map expr_tree (drop l.value-index l.values))
