use Rattle.med_write.proofs.RowsOut.{out_change_nothing}
use Rattle.med_write.proofs.law.rows_out_change_nothing.Goals as goal

pub returns : goal.returns
returns c = out_change_nothing
