-- Tables by their names.
use Rattle.std.proofs.Common.{◌≡◌, ℕ, ◌+◌, ◌<◌, true, false, List, Some, length, map, drop, get_or, refl, bytes_eq}
use Rattle.std.specs.String.{string_bytes}
use Rattle.std.proofs.lemmas.List.{drop_more}
use Rattle.list_wrapper.specs.declared.held_tables.Table.{Table}
use Rattle.list_wrapper.specs.Lists.{entry_of}
use Rattle.list_wrapper.specs.Scans.{table_listed, stored}

-- at a table of the name
pub entry_here : (tables : List Table) (name : List ℕ) (i : ℕ) (x : Table) → i < length tables → x ≡ get_or tables i x → bytes_eq (string_bytes x.name) name ≡ true → entry_of (map table_listed (drop i tables)) name ≡ Some (stored x)
entry_here tables name i x lt e is = rw (drop_more tables i x lt, ← e, is) refl

-- past a table of another name
pub entry_past : (tables : List Table) (name : List ℕ) (i : ℕ) (x : Table) → i < length tables → x ≡ get_or tables i x → bytes_eq (string_bytes x.name) name ≡ false → entry_of (map table_listed (drop i tables)) name ≡ entry_of (map table_listed (drop (i + 1) tables)) name
entry_past tables name i x lt e is = rw (drop_more tables i x lt, ← e, is) refl
