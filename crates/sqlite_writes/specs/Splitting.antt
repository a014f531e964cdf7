-- The changes of a write split into the keys of the rows that go and the rows that come.
use Rattle.std.specs.Prelude.{◌≡◌, ℕ, ℤ, Bool, true, ◌&&◌, List, [], ◌∷◌, map, flat_map, nat_eq}
use Rattle.std.specs.List.{list_all, list_any, IsDistinct}
use Rattle.std.specs.Int.{w64, cast_signed}
use Rattle.std.specs.Ordering.{is_ge, is_le, int_cmp}
use Rattle.std.specs.Str.{is_utf8}
use Rattle.sqlite.specs.Order.{Row as SqlRow}
use Rattle.sqlite.specs.View.{IsShaped}
use Rattle.sqlite_trees.specs.declared.store.Shape.TheVariants as shape
use Rattle.med_value.specs.Datum.{Datum, NoValue, Whole, Chars, Logic, Tuple, cell}
use Rattle.med_value.specs.declared.cause.Cause.TheVariants.{NotNull}
use Rattle.fdw_api.specs.Prelude.{Change, Inserts, Updates, Deletes, id_is_there}
use Rattle.fdw_api.specs.declared.interface.Fault.{Fault}
use Rattle.fdw_api.specs.declared.interface.Fault.TheVariants.{NoMemory, Source, Refused}
use Rattle.sqlite_tables.specs.Prelude.{Layout, rows_in, least, greatest}
use Rattle.sqlite_writes.specs.Rewriting.{has_place}
use Rattle.sqlite_writes.specs.Writable.{IsWritten}
use Rattle.sqlite_writes.specs.Kinds.{lacks_key}

-- the id of the old row that a change names
abbrev pub id_of_change : Change → List ℕ
id_of_change (Inserts x) = []
id_of_change (Updates id x) = id ∷ []
id_of_change (Deletes id) = id ∷ []

-- the row that a change writes
abbrev pub row_of_change : Change → List Tuple
row_of_change (Inserts x) = x ∷ []
row_of_change (Updates id x) = x ∷ []
row_of_change (Deletes id) = []

abbrev pub ids_named : List Change → List ℕ
ids_named = flat_map id_of_change

-- the key whose 64 bits an id is
abbrev pub key_for : ℕ → ℤ
key_for id = cast_signed w64 id

-- the keys of the rows that go: of the updated and the deleted ones
abbrev pub keys_gone : List Change → List ℤ
keys_gone changes = map key_for (ids_named changes)

-- the rows that come: the inserted ones, and those in the place of updated ones
abbrev pub rows_come : List Change → List Tuple
rows_come = flat_map row_of_change

-- no two changes name one row
abbrev pub IsNamedOnce : List Change → Type 0
IsNamedOnce changes = IsDistinct nat_eq (ids_named changes)

-- a row that a program can hold: a key of 64 bits, and texts in UTF-8
abbrev pub is_key : Datum → Bool
is_key NoValue = true
is_key (Whole n) = is_ge (int_cmp n least) && is_le (int_cmp n greatest)
is_key (Chars t) = true
is_key (Logic b) = true

abbrev pub is_readable : Datum → Bool
is_readable NoValue = true
is_readable (Whole n) = true
is_readable (Chars t) = is_utf8 t
is_readable (Logic b) = true

abbrev pub is_holdable : Tuple → Bool
is_holdable cells = is_key (cell cells 0) && list_all is_readable cells

-- changes of a table that holds these entries: its rows can be written, the changes name rows that are there, each once, and each new row
-- is of the table's types, with a key
pub record AreChanges (l : Layout) (entries : List SqlRow) (changes : List Change) : Type 0 where
  pub written : IsWritten l
  pub ordered : IsShaped shape.Table entries
  pub once : IsNamedOnce changes
  pub there : list_all (id_is_there (rows_in l entries)) changes ≡ true
  pub placed : list_all (has_place l) (rows_come changes) ≡ true
  pub holdable : list_all is_holdable (rows_come changes) ≡ true

-- out of memory, or 23502, and then a change writes a row without a key
abbrev pub IsKeyless : List Change → Fault → Type 0
IsKeyless changes NoMemory = Unit {0}
IsKeyless changes Source = ⊥
IsKeyless changes (Refused c) = (c ≡ NotNull) × (list_any lacks_key changes ≡ true)
