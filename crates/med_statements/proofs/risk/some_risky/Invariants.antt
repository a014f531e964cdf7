use Rattle.std.proofs.Common.{◌≡◌, map, drop}
use Rattle.std.specs.List.{list_any}
use Rattle.tri_expr.specs.Prelude.{tree, is_risky_tree}
use Rattle.med_statements.proofs.risk.some_risky.Given as goal

abbrev pub invariant-loop-expression : goal.invariant-loop-expression
invariant-loop-expression l = list_any is_risky_tree (map tree l.expressions) ≡ list_any is_risky_tree (map tree (drop l.expression-index l.expressions))
