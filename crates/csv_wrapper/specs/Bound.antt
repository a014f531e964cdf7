-- As what a CSV table is bound.
use Rattle.std.specs.Prelude.{ℕ, true, List}
use Rattle.std.specs.String.{string_bytes}
use Rattle.fdw_api.specs.Prelude.{as_they_come, BoxTable}
use Rattle.csv_tables.specs.declared.table.CsvTable.{CsvTable}
use Rattle.csv_tables.specs.Cells.{line_of}
use Rattle.csv_tables.specs.Shapes.{Shape, csv_image}
use Rattle.csv_tables.specs.Tables.{shape_is}
use Rattle.csv_wrapper.specs.CsvKind.{csv_refusals}

-- a bound table allows every scan: what it is asked to take over it takes over
abbrev pub bound_by : List ℕ → Shape → BoxTable
bound_by remote shape = record {
  remote = remote;
  kinds = shape.kinds;
  allows = λ spec. true;
  allows_plain = λ wanted offered. mathlib.Core.Path.refl;
  allows_whole = λ spec allowed. mathlib.Core.Path.refl;
  line = line_of shape.null;
  image = csv_image shape;
  arrangement = as_they_come;
  refuses = csv_refusals shape;
}

abbrev pub bound_of : CsvTable → BoxTable
bound_of t = bound_by (string_bytes t.remote) (shape_is t.layout)
