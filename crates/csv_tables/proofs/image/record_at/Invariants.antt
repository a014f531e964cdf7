use Rattle.std.proofs.Common.{◌≡◌, [], take}
use Rattle.csv.specs.Records.{fields_of, partial_of}
use Rattle.csv_tables.specs.Tables.{record_at}
use Rattle.csv_tables.proofs.image.record_at.Given as goal

abbrev pub invariant-loop-column : goal.invariant-loop-column
invariant-loop-column l = record {
  none_open : partial_of l.row ≡ [];
  same : fields_of l.row ≡ take l.column (record_at l.rows l.at);
}
