use Rattle.std.proofs.Common.{◌-◌, ◌++◌, ℕ, List, take, drop}
use Rattle.csv_tables.specs.CsvRecords.{csv_text}
use Rattle.csv_tables.specs.Tables.{records_of}
use Rattle.csv_tables.specs.Rewriting.{HasWritten}
use Rattle.csv_tables.proofs.image.write_rows.Given as goal

abbrev pub invariant-loop-at : goal.invariant-loop-at
invariant-loop-at l = (text : List ℕ) → HasWritten text l.initial.wtr → HasWritten (text ++ csv_text (take (l.at - l.from) (drop l.from (records_of l.rows)))) l.wtr
