use Rattle.std.proofs.Common.{◌≡◌, ◌++◌, ◌-◌, [], drop, length}
use Rattle.csv.specs.Records.{fields_of, partial_of}
use Rattle.csv_tables.specs.Held.{ended}
use Rattle.csv_tables.proofs.content.push_fields.Given as goal

abbrev pub invariant-loop-field : goal.invariant-loop-field
invariant-loop-field l = record {
  none_open : partial_of l.fields ≡ [];
  same : fields_of l.fields ++ ended (drop l.at (fields_of l.row)) ≡ fields_of l.initial.fields ++ ended (fields_of l.row);
}

abbrev pub decreases-loop-field : goal.decreases-loop-field
decreases-loop-field l = length (fields_of l.row) - l.at
