use Rattle.std.proofs.Common.{◌≡◌, ◌++◌, map, option_map, string_bytes, slice_get, drop}
use Rattle.std.specs.Option.{option_and_then}
use Rattle.med_value.specs.Column.{Column, column_of}
use Rattle.tri_expr.specs.Tree.{tree}
use Rattle.bind_write.specs.Meaning.{name_place}
use Rattle.bind_write.proofs.updating.cells_for.Given as goal

abbrev pub invariant-loop-column : goal.invariant-loop-column
invariant-loop-column l =
    let f = λ (c : Column). option_and_then (slice_get (map tree l.values)) (name_place 0 (map string_bytes l.names) c.name) in
    map (option_map tree) l.out.items ++ map f (map column_of (drop l.column-index l.columns)) ≡ map f (map column_of l.columns)
