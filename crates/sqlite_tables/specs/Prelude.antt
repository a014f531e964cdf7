-- The names of this crate, and those of sqlite_looks on pages, that the crates above cite most. Declares nothing.
pub use Rattle.sqlite_looks.specs.Pages.{in_range, key_of, paged, range_of}
pub use Rattle.sqlite_tables.specs.Cells.{cell_of, greatest, id_of, is_paged, is_row, key_in, least, page_cells, row_in, rows_in}
pub use Rattle.sqlite_tables.specs.Fitting.{is_of_shape}
pub use Rattle.sqlite_tables.specs.Layouts.{
  Layout,
  further_columns,
  further_kinds,
  is_key,
  is_key_column,
  key_column,
  kinds_in,
  layout_at,
  layout_count,
  layouts,
  orders,
  people,
  place_in,
  place_of,
  places,
  types_match,
}
pub use Rattle.sqlite_tables.specs.Lookups.{IsLookup, has_value, rows_with}
pub use Rattle.sqlite_tables.specs.Readings.{plain_rows, sqlite_reading}
pub use Rattle.sqlite_tables.specs.Refusing.{OnlyBy}
pub use Rattle.sqlite_tables.specs.Shapes.{AreTexts, orders_table, people_table}
pub use Rattle.sqlite_tables.specs.Steady.{IsCleanAfter, IsSteady}
pub use Rattle.sqlite_tables.specs.Surveys.{causes_of}
pub use Rattle.sqlite_tables.specs.Tables.{IsKnown, IsSure, ReadsOnly, behind, entries_at, entries_of, entry_of, rest_of, rows_of}
pub use Rattle.sqlite_tables.specs.Tables.{tree_found, tree_of}
pub use Rattle.sqlite_tables.specs.Reporting.{FailsToCount, FailsToRead, IsFailureOf, IsReportedPage, IsSourceFor, IsUnfit}
pub use Rattle.sqlite_tables.specs.Texts.{
  IsDeleteFrom,
  IsInsertInto,
  IsPageOf,
  IsTableAt,
  IsUnread,
  ShowsAgain,
  kind_for,
  page_size,
  parameter_shown,
  parameters_of,
  stored_kind,
}
