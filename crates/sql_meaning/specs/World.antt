-- The world of the SQL meaning: the catalogue, sources, the rows of the foreign tables, and open sessions with their cursors. No box, scan
-- or memory is in it.
use Rattle.std.specs.Prelude.{◌≡◌, ◌≢◌, ℕ, zero, suc, Bool, true, false, ◌||◌, List, [], ◌∷◌, ◌++◌, Option, Some, None, IsSome, find, bytes_eq, map, cond, if◌then◌else◌}
use Rattle.std.specs.List.{list_any}
use Rattle.med_value.specs.Prelude.{Tuple, session_count}
use Rattle.med_syntax.specs.Tree.{Name}
use Rattle.med_query.specs.Query.{Query}
use Rattle.fdw_api.specs.Prelude.{Kind, Holding, Held, set_at}
use Rattle.med_catalog.specs.Objects.{ServerObject, TableObject, Objects, no_objects, server_named}
use Rattle.med_catalog.specs.declared.kind.SourceKind.{SourceKind}

-- ---- sources

-- A source stands, with what its kind means and what it stores under each remote name. It is shared where others may write it too: it
-- stands, and nothing is known of what it holds. Or it was dropped and holds nothing.
pub data SourceState : Type 0 where
  standing : Kind → (Name → Holding) → SourceState
  shared : Kind → SourceState
  dropped : SourceState

-- A source (the external data that a foreign server of ISO/IEC 9075-9 manages). Dropped, it keeps its name and its place.
pub record Source : Type 0 where
  pub name : Name
  pub kind : SourceKind
  pub state : SourceState

-- ---- cursors

-- a table that a cursor reads: its name, and its rows as they stood at DECLARE
pub record Leased : Type 0 where
  pub table : Name
  pub rows : List Tuple

-- A cursor (SQL:2016, <declare cursor>) of the session that has it: its name, its output names, its query, the tables that it reads, one
-- for each entry of FROM of each core, whether the source of one of them is shared, and the rows that it has handed out.
pub record Cursor : Type 0 where
  pub name : Name
  pub names : List Name
  pub query : Query
  pub reads : List Leased
  pub shared : Bool
  pub handed : List Tuple

-- a session that is open: its user and its cursors, which end with it
pub record Session : Type 0 where
  pub user : Name
  pub cursors : List Cursor

-- ---- the world

-- Sources stand in the order in which they came. Each foreign table of the catalogue has its rows, in the order of the tables; the order of
-- the rows of a table means nothing. The rows of a table whose source is shared mean nothing at all.
pub record World : Type 0 where
  pub catalog : Objects
  pub sources : List Source
  pub rows : List (List Held)
  pub sessions : ℕ → Option Session

abbrev pub IsOpen : World → ℕ → Type 0
IsOpen w sid = IsSome (w.sessions sid)

-- ---- tables

-- the cells of rows, without what they were read from
abbrev pub cells_of : List Held → List Tuple
cells_of rows = map (λ h. h.cells) rows

-- the rows of the table in each place; none past the end
abbrev pub rows_of_place : List (List Held) → ℕ → List Tuple
rows_of_place [] place = []
rows_of_place (r ∷ rs) zero = cells_of r
rows_of_place (r ∷ rs) (suc place) = rows_of_place rs place

-- the rows of the first table of this name; none where there is no such table
abbrev pub rows_named : Name → List TableObject → List (List Held) → List Held
rows_named name [] rows = []
rows_named name (t ∷ ts) [] = []
rows_named name (t ∷ ts) (r ∷ rs) = cond (bytes_eq name t.name) r (rows_named name ts rs)

-- of a list with one place for each table: what is left where the first table of this name goes
abbrev pub beside_without : {X : Type 0} → Name → List TableObject → List X → List X
beside_without name [] xs = xs
beside_without name (t ∷ ts) [] = []
beside_without name (t ∷ ts) (x ∷ xs) = cond (bytes_eq name t.name) xs (x ∷ beside_without name ts xs)

-- the rows of all tables where that one has these
abbrev pub rows_with : Name → List Held → List TableObject → List (List Held) → List (List Held)
rows_with name now [] rows = rows
rows_with name now (t ∷ ts) [] = []
rows_with name now (t ∷ ts) (r ∷ rs) = cond (bytes_eq name t.name) (now ∷ rs) (r ∷ rows_with name now ts rs)

-- ---- sources by name

-- the source of this name
abbrev pub source_named : Name → List Source → Option Source
source_named name sources = find (λ (s : Source). bytes_eq s.name name) sources

-- the source of this name stands, with this kind and these holdings, and is not shared
pub record IsStanding (w : World) (source : Name) (kind : Kind) (holdings : Name → Holding) : Type 0 where
  pub at : Source
  pub is : source_named source w.sources ≡ Some at
  pub state : at.state ≡ standing kind holdings

-- a server has taken the source of this name
abbrev pub is_taken : Objects → Name → Bool
is_taken o source = list_any (λ (s : ServerObject). bytes_eq source s.source) o.servers

-- A source that was not dropped serves the server that has taken it, and is free where none has.
pub record IsFree (w : World) (source : Name) (handler : SourceKind) : Type 0 where
  pub at : Source
  pub is : source_named source w.sources ≡ Some at
  pub of_kind : at.kind ≡ handler
  pub there : at.state ≢ dropped
  pub untaken : is_taken w.catalog source ≡ false

-- the source of this server stands, with this kind and these holdings, and is not shared
pub record Serves (w : World) (server : Name) (kind : Kind) (holdings : Name → Holding) : Type 0 where
  pub at : ServerObject
  pub is : server_named w.catalog server ≡ Some at
  pub stands : IsStanding w at.source kind holdings

-- ---- sources that are shared

abbrev pub is_shared_state : SourceState → Bool
is_shared_state (standing kind holdings) = false
is_shared_state (shared kind) = true
is_shared_state dropped = false

-- a source that is there, that of a server, and that of the server of this name
abbrev pub is_shared_source : Option Source → Bool
is_shared_source None = false
is_shared_source (Some s) = is_shared_state s.state

abbrev pub has_shared : List Source → Option ServerObject → Bool
has_shared sources None = false
has_shared sources (Some s) = is_shared_source (source_named s.source sources)

abbrev pub is_shared_server : World → Name → Bool
is_shared_server w server = has_shared w.sources (server_named w.catalog server)

-- a table whose source is shared, if there is the table: nothing is known of its rows
abbrev pub is_shared : World → Option TableObject → Bool
is_shared w None = false
is_shared w (Some t) = is_shared_server w t.server

-- ---- leases

-- a cursor, a session, or any session reads the table of this name
abbrev pub reads_table : Name → Cursor → Bool
reads_table name c = list_any (λ (l : Leased). bytes_eq name l.table) c.reads

abbrev pub leases : Name → Option Session → Bool
leases name None = false
leases name (Some s) = list_any (reads_table name) s.cursors

-- of one of the sessions 1 to n this is true
abbrev pub any_session : (ℕ → Bool) → ℕ → Bool
any_session p zero = false
any_session p (suc n) = p (suc n) || any_session p n

abbrev pub is_leased : World → Name → Bool
is_leased w name = any_session (λ sid. leases name (w.sessions sid)) session_count

-- ---- changes of sources and sessions

abbrev pub with_state : Name → (SourceState → SourceState) → List Source → List Source
with_state name f [] = []
with_state name f (s ∷ ss) = cond (bytes_eq s.name name) (record s { state = f s.state } ∷ ss) (s ∷ with_state name f ss)

-- the source of this name is dropped
abbrev pub drop_source : Name → List Source → List Source
drop_source name = with_state name (λ s. dropped)

-- that of a server, if there is the server
abbrev pub drop_source_of : Option ServerObject → List Source → List Source
drop_source_of None sources = sources
drop_source_of (Some s) sources = drop_source s.source sources

-- what stands under one remote name is this
abbrev pub holding_at : Name → Holding → (Name → Holding) → Name → Holding
holding_at remote now f r = if bytes_eq r remote then now else f r

abbrev pub holds_at : Name → Holding → SourceState → SourceState
holds_at remote now (standing kind f) = standing kind (holding_at remote now f)
holds_at remote now (shared kind) = shared kind
holds_at remote now dropped = dropped

-- the session is this one, or closed, and its cursors gone with it
abbrev pub with_session : World → ℕ → Option Session → World
with_session w sid session = record w { sessions = set_at w.sessions sid session }

abbrev pub new_session : Name → Session
new_session user = record { user = user; cursors = [] }

-- every session closed, and every cursor with it
abbrev pub without_sessions : World → World
without_sessions w = record w { sessions = λ sid. None }

-- one more source
abbrev pub with_source : World → Name → SourceKind → SourceState → World
with_source w name kind state = record w { sources = w.sources ++ record { name = name; kind = kind; state = state } ∷ [] }

-- a catalogue of this owner's with nothing in it, no source, and every session closed
abbrev pub empty_world : Name → World
empty_world owner = record { catalog = no_objects owner; sources = []; rows = []; sessions = λ sid. None }
