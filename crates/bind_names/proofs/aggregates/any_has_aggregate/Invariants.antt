use Rattle.std.proofs.Common.{◌≡◌, map, drop}
use Rattle.std.specs.List.{list_any}
use Rattle.tri_expr.specs.Tree.{tree}
use Rattle.bind_names.specs.Aggregates.{has_aggregate}
use Rattle.bind_names.proofs.aggregates.any_has_aggregate.Given as goal

abbrev pub invariant-loop-e : goal.invariant-loop-e
invariant-loop-e l = list_any has_aggregate (map tree l.es) ≡ list_any has_aggregate (map tree (drop l.e-index l.es))
