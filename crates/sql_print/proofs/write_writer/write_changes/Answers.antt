use Rattle.std.proofs.Common.{◌++◌, List, codes, map, subst}
use Rattle.std.specs.String.{string_bytes}
use Rattle.med_syntax.specs.Terminal as t
use Rattle.expr_writer.specs.ExprPrinting.{Wrote}
use Rattle.sql_print.specs.QueryPrinting.{list_written}
use Rattle.sql_print.proofs.Writing.{then_if, more_if}
use Rattle.med_syntax.specs.declared.write.SetClause.{SetClause}
use Rattle.med_syntax.specs.Prelude.{UpdateTree, set_tree, update_tree}
use Rattle.sql_print.specs.WritePrinting.{set_written, where_written}
use Rattle.sql_print.proofs.write_writer.write_changes.Goals as goal

pub returns : goal.returns
returns c =
    let u : UpdateTree = update_tree c.args.update.now in
    more_if c.write_condition.result _ _ _ (t.Reserved (codes "set")) (list_written set_written u.sets ++ where_written u.condition) c.in_ok-write_keyword.ensures
    (then_if c.write_condition.result _ _ _ (list_written set_written u.sets) (where_written u.condition)
    (subst (λ (xs : List SetClause). Wrote (string_bytes c.write_keyword.new.out) (string_bytes c.write_sets.new.out) (list_written set_written (map set_tree xs))) c.deref.ensures.value c.in_ok-write_sets.ensures)
    c.write_condition.ensures)
