use Rattle.std.proofs.Common.{◌++◌, List, subst, map}
use Rattle.std.specs.String.{string_bytes}
use Rattle.expr_writer.specs.ExprPrinting.{Wrote}
use Rattle.sql_print.proofs.Writing.{then_if}
use Rattle.med_syntax.specs.declared.statement.Core.{Core}
use Rattle.sql_print.specs.QueryPrinting.{core_written, unions_written, tail_written}
use Rattle.med_syntax.specs.Prelude.{SelectTree, core_tree, select_tree}
use Rattle.sql_print.proofs.query_writer.write_select.Goals as goal

pub returns : goal.returns
returns c =
    let q : SelectTree = select_tree c.args.select.now in
    then_if c.write_tail.result _ _ _ (core_written q.core) (unions_written q.others ++ tail_written q) c.in_ok-write_core.ensures
    (then_if c.write_tail.result _ _ _ (unions_written q.others) (tail_written q)
    (subst (λ (xs : List Core). Wrote (string_bytes c.write_core.new.out) (string_bytes c.write_unions.new.out) (unions_written (map core_tree xs))) c.deref.ensures.value c.in_ok-write_unions.ensures)
    c.write_tail.ensures)
