use Rattle.csv_tables.proofs.Images.{content_table, table_left, read_left}
use Rattle.csv_tables.proofs.law.tables_stay_tables.Goals as goal

pub returns : goal.returns
returns c = record { bound = content_table; kept = table_left; read = read_left }
