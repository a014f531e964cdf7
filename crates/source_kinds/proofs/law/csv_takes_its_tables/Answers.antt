use Rattle.source_kinds.proofs.CsvTakes.{csv_takes}
use Rattle.source_kinds.proofs.law.csv_takes_its_tables.Goals as goal

pub returns-clause-all : goal.returns-clause-all
returns-clause-all c = csv_takes

pub returns-clause-new : goal.returns-clause-new
returns-clause-new c s shelf new = csv_takes s new.kind
