use Rattle.std.proofs.Common.{◌≡◌, map, drop}
use Rattle.std.specs.List.{list_any}
use Rattle.tri_expr.specs.Prelude.{tree, is_risky_tree}
use Rattle.bind_types.proofs.forms.any_fault.Given as goal

abbrev pub invariant-loop-conjunct : goal.invariant-loop-conjunct
invariant-loop-conjunct l = list_any is_risky_tree (map tree l.conjuncts) ≡ list_any is_risky_tree (map tree (drop l.conjunct-index l.conjuncts))
