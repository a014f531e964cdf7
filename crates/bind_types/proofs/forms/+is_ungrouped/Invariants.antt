use Rattle.std.proofs.Common.{◌≡◌, map, drop}
use Rattle.tri_expr.specs.Tree.{tree, trees}
use Rattle.bind_names.specs.Aggregates.{some_ungrouped}
use Rattle.bind_types.proofs.forms.+is_ungrouped.Given as goal

abbrev pub invariant-some_ungrouped-loop-part : goal.invariant-some_ungrouped-loop-part
invariant-some_ungrouped-loop-part l = some_ungrouped l.keys (trees (map tree l.parts)) ≡ some_ungrouped l.keys (trees (map tree (drop l.part-index l.parts)))
