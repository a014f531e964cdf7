use Rattle.std.proofs.Common.{◌≡◌, ◌≤◌, ◌+◌, ◌++◌, [], ℕ, true, List, length, map}
use Rattle.std.specs.List.{list_all}
use Rattle.csv.specs.Records.{fields_of, partial_of}
use Rattle.csv_tables.specs.CsvRecords.{Record, is_whole}
use Rattle.csv_tables.specs.Rewriting.{Gathers}
use Rattle.csv_tables.proofs.middle.with_fresh.Given as goal

abbrev pub invariant-loop-line : goal.invariant-loop-line
invariant-loop-line l = record {
  none_open : partial_of l.gathered.fields ≡ [];
  few : l.gathered.count + length l.line-iterator.rest.items ≤ 1000000;
  done : (width : ℕ) (rows : List Record) → Gathers width rows l.initial.gathered → list_all (is_whole width) (map fields_of l.initial.line-iterator.rest.items) ≡ true
      → (done : List Record) × Gathers width done l.gathered × (list_all (is_whole width) (map fields_of l.line-iterator.rest.items) ≡ true)
      × (done ++ map fields_of l.line-iterator.rest.items ≡ rows ++ map fields_of l.initial.line-iterator.rest.items);
}
