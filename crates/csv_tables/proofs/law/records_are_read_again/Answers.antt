use Rattle.csv_tables.proofs.Again.{again, marked}
use Rattle.csv_tables.proofs.Images.{rows_again}
use Rattle.csv_tables.proofs.law.records_are_read_again.Goals as goal

pub returns : goal.returns
returns c = record { again = again; marked = marked; rows = rows_again }
