use Rattle.std.proofs.Common.{◌≡◌, ◌++◌, map, drop}
use Rattle.med_value.specs.Column.{column_of}
use Rattle.bind_types.specs.TreeTypes.{column_kinds}
use Rattle.bind_types.proofs.kinds.push_kinds.Given as goal

abbrev pub invariant-loop-column : goal.invariant-loop-column
invariant-loop-column l =
    l.out.items ++ column_kinds (map column_of (drop l.column-index l.columns)) ≡ l.fn.out.items ++ column_kinds (map column_of l.columns)
