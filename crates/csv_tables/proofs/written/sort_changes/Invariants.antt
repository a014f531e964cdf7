use Rattle.std.proofs.Common.{◌≡◌, ◌++◌, true, ℕ, List, length, map, flat_map, replicate}
use Rattle.std.specs.List.{list_all, list_any}
use Rattle.std.specs.String.{string_bytes}
use Rattle.csv.specs.Records.{fields_of}
use Rattle.fdw_api.specs.Writes.{inserted, row_of_change_fits}
use Rattle.csv_tables.specs.Cells.{line_of}
use Rattle.csv_tables.specs.CsvRecords.{Record, is_whole}
use Rattle.csv_tables.specs.Shapes.{read_row, hides_value}
use Rattle.wrapper_parts.specs.declared.fates.Fate.TheVariants.{Keep}
use Rattle.wrapper_parts.specs.Staged.{change_is}
use Rattle.csv_tables.specs.Tables.{shape_is}
use Rattle.csv_tables.specs.Rewriting.{AllWide, fates_of, rows_left}
use Rattle.csv_tables.proofs.written.sort_changes.Given as goal

abbrev pub invariant-loop-change : goal.invariant-loop-change
invariant-loop-change l = record {
  fit : list_all (row_of_change_fits l.layout.kinds.items) (map change_is l.change-iterator.rest.items) ≡ true;
  fates : (count : ℕ) (rows : List Record) → rows_left (shape_is l.layout) rows (fates_of l.changed count) (map change_is l.change-iterator.rest.items)
      ≡ rows_left (shape_is l.layout) rows (replicate count Keep) (map change_is l.initial.change-iterator.rest.items);
  fresh : map (read_row (shape_is l.layout)) (map fields_of l.fresh.items) ++ flat_map (inserted (line_of (string_bytes l.layout.null))) (map change_is l.change-iterator.rest.items)
      ≡ flat_map (inserted (line_of (string_bytes l.layout.null))) (map change_is l.initial.change-iterator.rest.items);
  wide : AllWide (length l.layout.kinds.items) l.changed;
  fresh_wide : list_all (is_whole (length l.layout.kinds.items)) (map fields_of l.fresh.items) ≡ true;
  clear : list_any (hides_value (string_bytes l.layout.null)) (map change_is l.initial.change-iterator.rest.items)
      ≡ list_any (hides_value (string_bytes l.layout.null)) (map change_is l.change-iterator.rest.items);
}
