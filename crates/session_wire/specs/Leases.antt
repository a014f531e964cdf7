-- Tables that stand as they stood while a cursor that reads them is open.
use Rattle.std.specs.Prelude.{◌≡◌, ◌⊎◌, ℕ, true, false, List, [], ◌∷◌, Some, Contains, bytes_eq}
use Rattle.med_syntax.specs.Tree.{Name}
use Rattle.fdw_api.specs.Kinds.{Held}
use Rattle.med_catalog.specs.Objects.{TableObject}
use Rattle.sql_meaning.specs.Prelude.{World, Leased, Cursor, Session, cells_of, reads_table, cursor_named}
use Rattle.session_wire.specs.Worlds.{Scene}
use Rattle.session_wire.specs.Exchanges.{Exchange}
use Rattle.session_wire.specs.Fetching.{EndsCursor}

-- the first of the tables that has this name has these rows
abbrev pub HasRowsIn : Name → List Held → List TableObject → List (List Held) → Type 0
HasRowsIn name held [] rows = ⊥
HasRowsIn name held (t ∷ ts) [] = ⊥
HasRowsIn name held (t ∷ ts) (r ∷ rs) =
    ((bytes_eq name t.name ≡ true) × (r ≡ held)) ⊎ ((bytes_eq name t.name ≡ false) × HasRowsIn name held ts rs)

-- the world has a foreign table of this name, with these rows
abbrev pub TableHasRows : World → Name → List Held → Type 0
TableHasRows w name held = HasRowsIn name held w.catalog.tables w.rows

-- none of the lines ends the session's cursor of this name
abbrev pub NoneEnds : ℕ → Name → List Exchange → Type 0
NoneEnds sid name [] = Unit {0}
NoneEnds sid name (e ∷ es) = (EndsCursor sid name e → ⊥) × NoneEnds sid name es

-- the session is open, and has a cursor of this name
pub record HasCursor (w : World) (sid : ℕ) (name : Name) : Type 0 where
  pub session : Session
  pub at : w.sessions sid ≡ Some session
  pub cursor : Cursor
  pub is : cursor_named name session ≡ Some cursor

-- none of the lines ends the session's cursor of this name, and after them it is there: it was open all the while
pub record StaysOpen (sid : ℕ) (name : Name) (es : List Exchange) (new : Scene) : Type 0 where
  pub none : NoneEnds sid name es
  pub there : HasCursor new.world sid name

-- If the cursor stays open, each foreign table that it reads stands with the rows with which it stood.
abbrev pub KeepsRows : Scene → List Exchange → Scene → ℕ → Cursor → Type 0
KeepsRows old es new sid c =
    StaysOpen sid c.name es new → (table : Name) (rows : List Held) → reads_table table c ≡ true → TableHasRows old.world table rows
    → TableHasRows new.world table rows

-- So it does, and these are the rows that the cursor reads, whatever they were read from.
abbrev pub KeepsLeased : Scene → List Exchange → Scene → ℕ → Cursor → Type 0
KeepsLeased old es new sid c =
    StaysOpen sid c.name es new → (l : Leased) (rows : List Held) → Contains c.reads l → TableHasRows old.world l.table rows
    → TableHasRows new.world l.table rows × (l.rows ≡ cells_of rows)
