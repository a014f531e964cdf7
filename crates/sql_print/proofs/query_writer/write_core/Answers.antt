use Rattle.std.proofs.Common.{◌++◌, List, codes, subst}
use Rattle.std.specs.String.{string_bytes}
use Rattle.med_syntax.specs.Terminal as t
use Rattle.expr_writer.specs.ExprPrinting.{Wrote}
use Rattle.sql_print.proofs.Writing.{then_if, more_if}
use Rattle.med_syntax.specs.declared.statement.Item.{Item}
use Rattle.sql_print.specs.QueryPrinting.{item_written, list_written, quantifier_written, clauses_written}
use Rattle.med_syntax.specs.Prelude.{CoreTree, items_tree, core_tree}
use Rattle.sql_print.proofs.query_writer.write_core.Goals as goal

pub returns : goal.returns
returns c =
    let q : CoreTree = core_tree c.args.core.now in
    more_if c.write_clauses.result _ _ _ (t.Reserved (codes "select")) (quantifier_written q.distinct ++ (list_written item_written q.items ++ clauses_written q)) c.in_ok-write_keyword.ensures
    (then_if c.write_clauses.result _ _ _ (quantifier_written q.distinct) (list_written item_written q.items ++ clauses_written q) c.in_ok-write_quantifier.ensures
    (then_if c.write_clauses.result _ _ _ (list_written item_written q.items) (clauses_written q)
    (subst (λ (xs : List Item). Wrote (string_bytes c.write_quantifier.new.out) (string_bytes c.write_items.new.out) (list_written item_written (items_tree xs))) c.deref.ensures.value c.in_ok-write_items.ensures)
    c.write_clauses.ensures))
