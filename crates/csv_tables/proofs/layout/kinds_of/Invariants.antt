use Rattle.std.proofs.Common.{◌≡◌, map, take}
use Rattle.fdw_api.specs.Kinds.{column_of, kinds_of}
use Rattle.csv_tables.proofs.layout.kinds_of.Given as goal

abbrev pub invariant-loop-column : goal.invariant-loop-column
invariant-loop-column l = l.kinds.items ≡ kinds_of (map column_of (take l.column-index l.columns))
