use Rattle.std.proofs.Common.{◌≡◌, ◌++◌, ◌-◌, [], drop, length}
use Rattle.std.specs.String.{string_bytes}
use Rattle.csv.specs.Records.{fields_of, partial_of}
use Rattle.csv_tables.specs.Cells.{is_readable}
use Rattle.csv_tables.specs.Held.{ended}
use Rattle.csv_tables.proofs.content.take_fields.Given as goal

abbrev pub invariant-loop-field : goal.invariant-loop-field
invariant-loop-field l = record {
  none_open : partial_of l.fields ≡ [];
  same : fields_of l.fields ++ ended (drop l.at (fields_of l.row)) ≡ fields_of l.initial.fields ++ ended (fields_of l.row);
  readable : is_readable (string_bytes l.layout.null) l.layout.kinds.items (fields_of l.row)
      ≡ is_readable (string_bytes l.layout.null) (drop l.at l.layout.kinds.items) (drop l.at (fields_of l.row));
}

abbrev pub decreases-loop-field : goal.decreases-loop-field
decreases-loop-field l = length (fields_of l.row) - l.at
