use Rattle.med_exec.proofs.WrittenRows.{as_written, rows_written}
use Rattle.med_exec.proofs.write_law.writes_are_of_the_standard.Goals as goal

pub returns : goal.returns
returns c = record { changes = as_written; rows = rows_written }
