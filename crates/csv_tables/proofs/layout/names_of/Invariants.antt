use Rattle.std.proofs.Common.{◌≡◌, map, take}
use Rattle.std.specs.String.{string_bytes}
use Rattle.fdw_api.specs.Kinds.{column_of}
use Rattle.csv_tables.proofs.layout.names_of.Given as goal

abbrev pub invariant-loop-column : goal.invariant-loop-column
invariant-loop-column l = map string_bytes l.names.items ≡ map (λ c. c.name) (map column_of (take l.column-index l.columns))
