use Rattle.std.proofs.Common.{◌≡◌, ◌++◌, map, drop}
use Rattle.tri_expr.specs.Tree.{tree}
use Rattle.bind_types.specs.TreeTypes.{tree_type}
use Rattle.bind_types.proofs.kinds.kinds_of_all.Given as goal

abbrev pub invariant-loop-value : goal.invariant-loop-value
invariant-loop-value l = l.out.items ++ map (tree_type l.kinds) (map tree (drop l.value-index l.values)) ≡ map (tree_type l.kinds) (map tree l.values)
