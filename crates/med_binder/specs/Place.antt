-- Where the table of an entry is.
use Rattle.std.specs.Prelude.{ℕ}
use Rattle.med_binder.specs.declared.bound.BoundEntry.{BoundEntry}

-- the table of an entry: the place of its source, and its number there
pub record Place : Type 0 where
  pub source : ℕ
  pub table : ℕ

abbrev pub entry_place : BoundEntry → Place
entry_place e = record { source = e.source; table = e.table.number }
