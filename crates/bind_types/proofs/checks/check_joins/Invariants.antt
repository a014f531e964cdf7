use Rattle.std.proofs.Common.{◌≡◌, [], ◌∷◌, map, drop}
use Rattle.med_syntax.specs.QueryView.{join_tree}
use Rattle.bind_names.specs.Scope.{scope_of, table_shape, visible}
use Rattle.bind_types.specs.Typing.{joins_type_causes}
use Rattle.bind_types.proofs.checks.check_joins.Given as goal

abbrev pub invariant-loop-join : goal.invariant-loop-join
invariant-loop-join l =
    joins_type_causes (map table_shape l.tables) (visible l.fn.first ∷ []) (map join_tree l.joins)
    ≡ joins_type_causes (map table_shape l.tables) (scope_of l.seen.items) (map join_tree (drop l.join-index l.joins))
