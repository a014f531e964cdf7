use Rattle.std.proofs.Common.{◌≡◌, map, drop}
use Rattle.tri_expr.specs.Tree.{tree, trees}
use Rattle.bind_names.specs.Aggregates.{some_have_aggregate}
use Rattle.bind_names.proofs.aggregates.+has_aggregate.Given as goal

abbrev pub invariant-some_have_aggregate-loop-part : goal.invariant-some_have_aggregate-loop-part
invariant-some_have_aggregate-loop-part l = some_have_aggregate (trees (map tree l.parts)) ≡ some_have_aggregate (trees (map tree (drop l.part-index l.parts)))
