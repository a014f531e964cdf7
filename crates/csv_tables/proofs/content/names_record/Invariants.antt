use Rattle.std.proofs.Common.{◌≡◌, [], map, take}
use Rattle.std.specs.String.{string_bytes}
use Rattle.csv.specs.Records.{fields_of, partial_of}
use Rattle.csv_tables.proofs.content.names_record.Given as goal

abbrev pub invariant-loop-name : goal.invariant-loop-name
invariant-loop-name l = record {
  none_open : partial_of l.row ≡ [];
  same : fields_of l.row ≡ map string_bytes (take l.name-index l.names);
}
