-- What a column definition means: its name as bytes, its type, and whether NULL may not stand in it.
use Rattle.std.specs.Prelude.{ℕ, Bool, List}
use Rattle.std.specs.String.{string_bytes}
use Rattle.med_value.specs.declared.value.ColType.{ColType}
use Rattle.med_value.specs.declared.value.ColumnDef.{ColumnDef}

pub record Column : Type 0 where
  pub name : List ℕ
  pub kind : ColType
  pub not_null : Bool

abbrev pub column_of : ColumnDef → Column
column_of c = record { name = string_bytes c.name; kind = c.kind; not_null = c.not_null }
