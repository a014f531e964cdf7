use Rattle.std.proofs.Common.{◌∷◌, ◌++◌, List, [], map, subst}
use Rattle.std.specs.String.{string_bytes}
use Rattle.med_syntax.specs.declared.expr.Expr.{Expr}
use Rattle.med_syntax.specs.Terminal as t
use Rattle.med_syntax.specs.Prelude.{spelling, expr_tree, row_tree}
use Rattle.expr_writer.specs.ExprPrinting.{Wrote}
use Rattle.sql_print.specs.QueryPrinting.{list_written}
use Rattle.sql_print.proofs.Writing.{then_if, more_if}
use Rattle.sql_print.proofs.write_lists.write_row.Goals as goal

pub returns : goal.returns
returns c =
    more_if c.write_fixed-2.result _ _ _ t.LeftParen (list_written spelling (row_tree c.args.row.now) ++ t.RightParen ∷ []) c.in_ok-write_fixed.ensures
    (then_if c.write_fixed-2.result _ _ _ (list_written spelling (row_tree c.args.row.now)) (t.RightParen ∷ [])
    (subst (λ (xs : List Expr). Wrote (string_bytes c.write_fixed.new.out) (string_bytes c.write_values.new.out) (list_written spelling (map expr_tree xs))) c.deref.ensures.value c.in_ok-write_values.ensures)
    c.write_fixed-2.ensures)
