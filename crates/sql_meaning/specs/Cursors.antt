-- Cursors of a world: by name, and what a FETCH gives (SQL:2016, <declare cursor>, <fetch statement>, <close statement>).
use Rattle.std.specs.Prelude.{◌≡◌, ◌<◌, ◌⊎◌, ℕ, zero, suc, Bool, false, not, List, [], ◌∷◌, ◌++◌, length, map, flat_map, find, filter, cond, Option, None, bytes_eq}
use Rattle.med_value.specs.Datum.{Tuple}
use Rattle.med_syntax.specs.Prelude.{Name, CountTree, some_rows, all_rows}
use Rattle.med_query.specs.Query.{Table, Core, Query, Tables, IsAnswer}
use Rattle.sql_meaning.specs.World.{Leased, Cursor, Session}

-- the rows of each entry of the cursor's query, as they stood at DECLARE
abbrev pub rows_leased : List Leased → Tables
rows_leased [] k = []
rows_leased (l ∷ ls) zero = l.rows
rows_leased (l ∷ ls) (suc k) = rows_leased ls k

-- ---- by name

abbrev pub is_cursor : Name → Cursor → Bool
is_cursor name c = bytes_eq c.name name

-- the session's cursor of this name
abbrev pub cursor_named : Name → Session → Option Cursor
cursor_named name s = find (is_cursor name) s.cursors

-- the session with one more cursor
abbrev pub with_cursor : Session → Cursor → Session
with_cursor s c = record s { cursors = s.cursors ++ c ∷ [] }

-- the session without the cursor of this name
abbrev pub without_cursor : Session → Name → Session
without_cursor s name = record s { cursors = filter (λ c. not (is_cursor name c)) s.cursors }

-- the cursor has handed out these rows too
abbrev pub handing : Cursor → List Tuple → Cursor
handing c rows = record c { handed = c.handed ++ rows }

-- that of this name has
abbrev pub hand_out : Name → List Tuple → Cursor → Cursor
hand_out name rows c = cond (is_cursor name c) (handing c rows) c

abbrev pub with_handed : Session → Name → List Tuple → Session
with_handed s name rows = record s { cursors = map (hand_out name rows) s.cursors }

-- ---- FETCH

-- so many rows are as many as were asked for, or fewer where no more are left; where ALL were asked for, none are left
abbrev pub IsEnough : CountTree → List Tuple → List Tuple → Type 0
IsEnough (some_rows n) rows left = (length rows ≡ n) ⊎ ((length rows < n) × (left ≡ []))
IsEnough all_rows rows left = left ≡ []

-- The rows that a FETCH gives: behind those that were handed out before, they begin one answer over the tables as at DECLARE.
pub record Fetches (c : Cursor) (asked : CountTree) (rows : List Tuple) : Type 0 where
  pub left : List Tuple
  pub answers : IsAnswer c.query (rows_leased c.reads) ((c.handed ++ rows) ++ left)
  pub enough : IsEnough asked rows left

-- ---- FETCHes of one cursor

-- how many rows a FETCH asked for, and those that it gave
pub record Fetched : Type 0 where
  pub asked : CountTree
  pub rows : List Tuple

-- each goes on behind the rows of those before it
abbrev pub AreFetched : Cursor → List Fetched → Type 0
AreFetched c [] = Unit {0}
AreFetched c (f ∷ fs) = Fetches c f.asked f.rows × AreFetched (handing c f.rows) fs

-- fewer rows were given than were asked for, or ALL were asked for
abbrev pub IsLast : CountTree → List Tuple → Type 0
IsLast (some_rows n) rows = length rows < n
IsLast all_rows rows = Unit {0}

-- the rows that they gave, joined
abbrev pub rows_fetched : List Fetched → List Tuple
rows_fetched fs = flat_map (λ (f : Fetched). f.rows) fs

-- ---- the plainest queries

-- SELECT items FROM one table, and no more: every row is shown, from the first on. LIMIT it may have.
pub record IsBareQuery (q : Query) : Type 0 where
  pub core : Core
  pub alone : q.cores ≡ core ∷ []
  pub table : ℕ
  pub from : core.from ≡ Table table ∷ []
  pub all_kept : core.where_ ≡ []
  pub ungrouped : core.group ≡ None
  pub all_rows : core.distinct ≡ false
  pub keys : core.keys ≡ []
  pub unordered : q.directions ≡ []
  pub at_first : q.offset ≡ 0
