use Rattle.std.proofs.Common.{◌∷◌, ◌++◌, codes}
use Rattle.med_syntax.specs.Terminal as t
use Rattle.sql_print.specs.QueryPrinting.{entry_written}
use Rattle.sql_print.proofs.Writing.{then_if, more_if}
use Rattle.med_syntax.specs.Prelude.{DeleteTree, delete_tree}
use Rattle.sql_print.specs.WritePrinting.{where_written}
use Rattle.sql_print.proofs.write_writer.write_delete.Goals as goal

pub returns : goal.returns
returns c =
    let d : DeleteTree = delete_tree c.args.delete.now in
    more_if c.write_condition.result _ _ _ (t.Reserved (codes "delete")) (t.Reserved (codes "from") ∷ (entry_written d.entry ++ where_written d.condition)) c.in_ok-write_keyword.ensures
    (more_if c.write_condition.result _ _ _ (t.Reserved (codes "from")) (entry_written d.entry ++ where_written d.condition) c.in_ok-write_keyword-2.ensures
    (then_if c.write_condition.result _ _ _ (entry_written d.entry) (where_written d.condition) c.in_ok-write_entry.ensures c.write_condition.ensures))
