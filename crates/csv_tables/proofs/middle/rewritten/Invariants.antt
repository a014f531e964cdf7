use Rattle.std.proofs.Common.{◌≡◌, ◌≤◌, ◌++◌, ◌+◌, ℕ, true, List, drop}
use Rattle.std.specs.List.Sorted.{IsStrictlySortedBy}
use Rattle.std.specs.Ordering.{nat_cmp}
use Rattle.std.specs.Map.{keys_of}
use Rattle.csv_tables.specs.CsvRecords.{Record}
use Rattle.csv_tables.specs.Tables.{records_of}
use Rattle.csv_tables.specs.Rewriting.{is_wide, Gathers}
use Rattle.csv_tables.proofs.Changes.{Behind, fate_in, left_from}
use Rattle.csv_tables.proofs.middle.rewritten.Given as goal

abbrev pub invariant-loop-id : goal.invariant-loop-id
invariant-loop-id l = record {
  few : l.from + l.gathered.count ≤ l.at;
  within : l.at ≤ l.rows.count;
  behind : Behind l.at l.id-iterator;
  sorted : IsStrictlySortedBy nat_cmp (keys_of l.id-iterator);
  wide : (place : ℕ) → is_wide l.rows.width (fate_in l.id-iterator place) ≡ true;
  done : (done : List Record) × Gathers l.rows.width done l.gathered
      × (done ++ left_from l.id-iterator l.at (drop l.at (records_of l.rows)) ≡ left_from l.initial.id-iterator l.from (drop l.from (records_of l.rows)));
}
