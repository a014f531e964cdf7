use Rattle.std.proofs.Common.{◌≡◌, map, drop}
use Rattle.med_value.specs.Column.{column_of}
use Rattle.bind_write.specs.Naming.{is_column}
use Rattle.bind_write.proofs.columns.is_column.Given as goal

abbrev pub invariant-loop-column : goal.invariant-loop-column
invariant-loop-column l = is_column (map column_of l.columns) l.name ≡ is_column (map column_of (drop l.column-index l.columns)) l.name
