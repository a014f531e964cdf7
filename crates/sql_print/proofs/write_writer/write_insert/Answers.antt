use Rattle.sql_print.proofs.Writing.{then_if}
use Rattle.med_syntax.specs.Prelude.{InsertTree, insert_tree}
use Rattle.sql_print.specs.WritePrinting.{target_written, given_written}
use Rattle.sql_print.proofs.write_writer.write_insert.Goals as goal

pub returns : goal.returns
returns c =
    let i : InsertTree = insert_tree c.args.insert.now in
    then_if c.write_given.result _ _ _ (target_written i.table i.columns) (given_written i.given) c.in_ok-write_target.ensures c.write_given.ensures
