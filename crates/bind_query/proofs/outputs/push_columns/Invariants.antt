use Rattle.std.proofs.Common.{◌≡◌, ◌+◌, ◌++◌, map, drop}
use Rattle.med_value.specs.Column.{column_of}
use Rattle.bind_names.specs.Meaning.{columns_from}
use Rattle.bind_query.specs.Shown.{output_of}
use Rattle.bind_query.proofs.outputs.push_columns.Given as goal

abbrev pub invariant-loop-place : goal.invariant-loop-place
invariant-loop-place l =
    map output_of l.out.items ++ columns_from (l.at + l.place) (map column_of (drop l.place l.columns)) ≡ map output_of l.initial.out.items ++ columns_from l.at (map column_of l.columns)
