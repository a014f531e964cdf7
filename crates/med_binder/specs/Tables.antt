-- The tables of a catalogue, as the names of a statement are found in them.
use Rattle.std.specs.Prelude.{List, map, bytes_eq}
use Rattle.std.specs.List.{IsDistinct}
use Rattle.bind_names.specs.Scope.{TableShape}
use Rattle.med_catalog.specs.Objects.{TableObject, Objects}

-- the tables by their names and columns
abbrev pub shape_of : TableObject → TableShape
shape_of t = record { name = t.name; columns = t.columns }

abbrev pub shapes : Objects → List TableShape
shapes o = map shape_of o.tables

-- no two tables have one name
abbrev pub AreNamedOnce : Objects → Type 0
AreNamedOnce o = IsDistinct bytes_eq (map (λ (t : TableObject). t.name) o.tables)
