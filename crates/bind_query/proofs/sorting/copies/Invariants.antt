use Rattle.std.proofs.Common.{◌≡◌, ◌++◌, map, drop}
use Rattle.tri_expr.specs.Tree.{tree}
use Rattle.bind_query.proofs.sorting.copies.Given as goal

abbrev pub invariant-loop-e : goal.invariant-loop-e
invariant-loop-e l = map tree l.out.items ++ map tree (drop l.e-index l.es) ≡ map tree l.es
