use Rattle.std.proofs.Common.{◌≡◌, ◌++◌, map, drop}
use Rattle.tri_expr.specs.Tree.{tree}
use Rattle.bind_names.specs.Meaning.{item_at}
use Rattle.bind_query.proofs.sorting.items_in.Given as goal

abbrev pub invariant-loop-place : goal.invariant-loop-place
invariant-loop-place l = map tree l.out.items ++ map (item_at (map tree l.items)) (drop l.place-index l.places) ≡ map (item_at (map tree l.items)) l.places
