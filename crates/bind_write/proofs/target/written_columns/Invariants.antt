use Rattle.std.proofs.Common.{◌≡◌, ◌++◌, map, drop}
use Rattle.med_value.specs.Column.{column_of}
use Rattle.bind_write.specs.Meaning.{written_column}
use Rattle.bind_write.proofs.target.written_columns.Given as goal

abbrev pub invariant-loop-column : goal.invariant-loop-column
invariant-loop-column l = l.out.items ++ map written_column (map column_of (drop l.column-index l.columns)) ≡ map written_column (map column_of l.columns)
