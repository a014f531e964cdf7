use Rattle.std.proofs.Common.{◌≡◌, ◌++◌, map, option_map, drop}
use Rattle.tri_expr.specs.Tree.{tree}
use Rattle.bind_types.specs.TreeTypes.{tree_type}
use Rattle.bind_write.proofs.kinds.cell_kinds.Given as goal

abbrev pub invariant-loop-cell : goal.invariant-loop-cell
invariant-loop-cell l =
    l.out.items ++ map (option_map (tree_type l.kinds)) (map (option_map tree) (drop l.cell-index l.cells))
    ≡ map (option_map (tree_type l.kinds)) (map (option_map tree) l.cells)
