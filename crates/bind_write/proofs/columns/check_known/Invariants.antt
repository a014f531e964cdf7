use Rattle.std.proofs.Common.{◌≡◌, map, flat_map, string_bytes, drop}
use Rattle.med_value.specs.Column.{column_of}
use Rattle.bind_write.specs.Naming.{column_unknown}
use Rattle.bind_write.proofs.columns.check_known.Given as goal

abbrev pub invariant-loop-name : goal.invariant-loop-name
invariant-loop-name l =
    flat_map (column_unknown (map column_of l.columns)) (map string_bytes l.names)
    ≡ flat_map (column_unknown (map column_of l.columns)) (map string_bytes (drop l.name-index l.names))
