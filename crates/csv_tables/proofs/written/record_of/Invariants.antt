use Rattle.std.proofs.Common.{◌≡◌, [], true, false, map, take}
use Rattle.std.specs.List.{list_all, list_any}
use Rattle.csv.specs.Records.{fields_of, partial_of}
use Rattle.med_value.specs.Datum.{datum}
use Rattle.csv_tables.specs.Cells.{line_of, reads_as_null}
use Rattle.csv_tables.specs.Rewriting.{is_storable}
use Rattle.csv_tables.proofs.written.record_of.Given as goal

abbrev pub invariant-loop-value : goal.invariant-loop-value
invariant-loop-value l = record {
  none_open : partial_of l.fields ≡ [];
  same : fields_of l.fields ≡ line_of l.null (map datum (take l.value-index l.row.cells.items));
  clear : list_any (reads_as_null l.null) (map datum (take l.value-index l.row.cells.items)) ≡ false;
  held : list_all is_storable (map datum (take l.value-index l.row.cells.items)) ≡ true;
}
