use Rattle.csv_tables.specs.ReadAgain.{header_under}
use Rattle.csv_tables.proofs.Images.{rows_left_again, no_cause_left}
use Rattle.csv_tables.proofs.law.written_tables_are_read_again.Goals as goal

pub returns : goal.returns
returns c = record {
  rows = λ shape entry. rows_left_again shape (header_under shape entry);
  no_cause = λ shape entry. no_cause_left shape (header_under shape entry);
}
