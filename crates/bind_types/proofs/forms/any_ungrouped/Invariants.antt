use Rattle.std.proofs.Common.{◌≡◌, map, drop}
use Rattle.std.specs.List.{list_any}
use Rattle.tri_expr.specs.Tree.{tree}
use Rattle.bind_names.specs.Aggregates.{is_ungrouped}
use Rattle.bind_types.proofs.forms.any_ungrouped.Given as goal

abbrev pub invariant-loop-e : goal.invariant-loop-e
invariant-loop-e l = list_any (is_ungrouped l.keys) (map tree l.shown) ≡ list_any (is_ungrouped l.keys) (map tree (drop l.e-index l.shown))
