use Rattle.med_write.proofs.RowSteps.{same_row_fault}
use Rattle.med_write.proofs.making.inserted_values.Goals as goal

pub returns-in-Ok-clause-err : goal.returns-in-Ok-clause-err
returns-in-Ok-clause-err c = same_row_fault c.whole_row.result c.args.columns.now _ _ (rw c.new.ensures.items at c.in-Ok.ensures.ok) c.whole_row.ensures.err
