-- The direct meaning of a request: from a world to a reply and a world.
use Rattle.std.specs.Prelude.{◌≡◌, ℕ, Bool, true, false, List, [], ◌∷◌, ◌++◌, map, codes, Option, Some, None, IsPermutation}
use Rattle.med_value.specs.Datum.{Tuple}
use Rattle.med_value.specs.declared.cause.Cause.{Cause}
use Rattle.med_value.specs.declared.cause.Cause.TheVariants.{LimitExceeded, OutOfMemory, SourceFault}
use Rattle.med_syntax.specs.Prelude.{EntryTree, SelectTree, select, DdlTree, create_wrapper, create_server, create_mapping, create_table, drop_wrapper, drop_server, drop_table, drop_mapping, WriteTree, insert, update, delete, CountTree, CursorTree, declare, fetch, close, Name}
use Rattle.med_query.specs.Query.{IsAnswer}
use Rattle.fdw_api.specs.Kinds.{Kind, Entry, Holding, Known, Unknown, Held, Reading}
use Rattle.bind_names.specs.Scope.{query_entries}
use Rattle.med_write.specs.Writing.{count_of, rows_after}
use Rattle.bind_write.specs.Meaning.{target_of}
use Rattle.med_catalog.specs.Prelude.{TableObject, server_named, ObjectChange, new_table, no_server, no_table, changed, Asks}
use Rattle.med_parser.specs.CommandTree.{CommandTree, on_data, on_rows, on_cursors, on_objects}
use Rattle.sql_meaning.specs.Cursors.{cursor_named, with_cursor, without_cursor, with_handed, Fetches}
use Rattle.sql_meaning.specs.Picks.{Pick}
use Rattle.sql_meaning.specs.Requests.{AskedLine, opening, sql, bye}
use Rattle.sql_meaning.specs.World.{World, Leased, Cursor, Session, cells_of, rows_named, is_shared_server, beside_without, rows_with, drop_source_of, with_state, holds_at, with_session, new_session}
use Rattle.sql_meaning.specs.Causes.{query_of, meant_over, entries_in, reads_shared, Reads, write_over, rows_held, writes_shared, IsTarget, IsStatementOf, IsPickOf, IsTold, NoneStands, NoneBeforeState, NoneBeforeRun, RestsOnShared, MayShow}
use Rattle.sql_meaning.specs.Replies.{Reply, done, answered, refused, rows_tag}

-- What befell one request: a growth was refused; it is a FETCH and had asked its cursor for a row; a source failed; a box has given all its
-- ticket numbers.
pub record Trouble : Type 0 where
  pub memory : Bool
  pub asked : Bool
  pub source : Bool
  pub numbers : Bool

-- only statements and OPEN take memory
abbrev pub TakesMemory : AskedLine → Type 0
TakesMemory (opening user) = Unit {0}
TakesMemory (sql text) = Unit {0}
TakesMemory bye = ⊥

-- ---- what statements do

-- a query answers its output names, and an answer over the rows of the entries of its cores: any rows where it reads a shared source
abbrev pub Answers : World → SelectTree → Reply → Type 0
Answers w q reply =
    let m = meant_over w q in
    (rows : List Tuple) × (reads_shared w q ≡ false → IsAnswer (query_of m) (entries_in w q) rows) × (reply ≡ answered (codes "SELECT") m.names rows)

-- the world with other objects
abbrev pub with_catalog : World → ObjectChange → World
with_catalog w change = record w { catalog = changed change w.catalog }

-- the rows of a new table: those that its source's kind reads from the entry, against which no cause stands; any where it is shared
pub data HasRows (w : World) (p : Pick) (t : TableObject) (rows : List Held) : Type 0 where
  as_read : (reading : Reading) → Reads w t p.entry reading → reading.causes ≡ [] → rows ≡ reading.rows → HasRows w p t rows
  any_rows : is_shared_server w t.server ≡ true → HasRows w p t rows

-- A new table has its rows; a table that goes takes its rows along; a server that goes drops its source. Other changes are of the
-- catalogue alone.
abbrev pub Changes : World → Pick → ObjectChange → World → Type 0
Changes w p (new_table t) new =
    (rows : List Held) × HasRows w p t rows × (new ≡ record (with_catalog w (new_table t)) { rows = w.rows ++ rows ∷ [] })
Changes w p (no_table name) new = new ≡ record (with_catalog w (no_table name)) { rows = beside_without name w.catalog.tables w.rows }
Changes w p (no_server name) new =
    new ≡ record (with_catalog w (no_server name)) { sources = drop_source_of (server_named w.catalog name) w.sources }
Changes w p change new = new ≡ with_catalog w change

-- what stands under a remote name after a write: the image of the rows; what was unknown stays unknown
abbrev pub holding_after : (Option Entry → Option Entry) → Holding → Holding
holding_after image (Known e) = Known (image e)
holding_after image Unknown = Unknown

-- The table is as after the write of n rows, its rows in any order, and its source holds their image. All else is as it was.
pub record Writes (w : World) (p : Pick) (t : WriteTree) (n : ℕ) (new : World) : Type 0 where
  pub table : TableObject
  pub kind : Kind
  pub holdings : Name → Holding
  pub target : IsTarget w t table kind holdings
  pub count : n ≡ count_of (write_over w t) (cells_of (rows_held w t)) p.answer
  pub rows : List Held
  pub same : IsPermutation (rows_after (kind.line table.columns table.settings) (write_over w t) p.answer (rows_held w t)) rows
  pub is : new ≡ record w {
    rows = rows_with (target_of t) rows w.catalog.tables w.rows;
    sources = with_state target.serves.at.source
        (holds_at table.remote (holding_after (λ e. kind.image table.columns table.settings e rows) (holdings table.remote))) w.sources;
  }

-- the tag of a write of n rows
abbrev pub write_tag : WriteTree → ℕ → List ℕ
write_tag (insert i) n = rows_tag (codes "INSERT 0") n
write_tag (update u) n = rows_tag (codes "UPDATE") n
write_tag (delete d) n = rows_tag (codes "DELETE") n

-- A write of n rows changes the world so; where the source of its table is shared the world stays, as it says nothing of that table.
pub data WritesIn (w : World) (p : Pick) (t : WriteTree) (n : ℕ) (new : World) : Type 0 where
  is_written : Writes w p t n new → WritesIn w p t n new
  is_unseen : writes_shared w t ≡ true → new ≡ w → WritesIn w p t n new

-- a write is answered by its tag
abbrev pub RowsDo : World → Pick → WriteTree → Reply → World → Type 0
RowsDo w p t reply new = (n : ℕ) × (reply ≡ done (write_tag t n)) × WritesIn w p t n new

-- the tag of a statement on objects
abbrev pub ddl_tag : DdlTree → List ℕ
ddl_tag (create_wrapper name handler) = codes "CREATE FOREIGN DATA WRAPPER"
ddl_tag (create_server s) = codes "CREATE SERVER"
ddl_tag (create_mapping m) = codes "CREATE USER MAPPING"
ddl_tag (create_table t) = codes "CREATE FOREIGN TABLE"
ddl_tag (drop_wrapper if_exists name) = codes "DROP FOREIGN DATA WRAPPER"
ddl_tag (drop_server if_exists name) = codes "DROP SERVER"
ddl_tag (drop_table if_exists name) = codes "DROP FOREIGN TABLE"
ddl_tag (drop_mapping if_exists user server) = codes "DROP USER MAPPING"

-- the tables that a query reads, one for each entry of FROM of each core, as they stand
abbrev pub leased_now : World → SelectTree → List Leased
leased_now w q =
    map (λ (e : EntryTree). record { table = e.table; rows = cells_of (rows_named e.table w.catalog.tables w.rows) }) (query_entries q)

-- the cursor that DECLARE opens
abbrev pub new_cursor : World → Name → SelectTree → Cursor
new_cursor w name q =
    let m = meant_over w q in
    record { name = name; names = m.names; query = query_of m; reads = leased_now w q; shared = reads_shared w q; handed = [] }

-- DECLARE opens a cursor over the tables as they stand. FETCH is answered by the output names and rows, which the cursor has then handed
-- out: any rows where a source is shared. CLOSE ends the cursor.
abbrev pub Turns : World → ℕ → Session → CursorTree → Reply → World → Type 0
Turns w sid s (declare name (select q)) reply new =
    (reply ≡ done (codes "DECLARE CURSOR")) × (new ≡ with_session w sid (Some (with_cursor s (new_cursor w name q))))
Turns w sid s (fetch asked name) reply new =
    (c : Cursor) × (cursor_named name s ≡ Some c) × ((rows : List Tuple) × (c.shared ≡ false → Fetches c asked rows)
    × (reply ≡ answered (codes "FETCH") c.names rows) × (new ≡ with_session w sid (Some (with_handed s name rows))))
Turns w sid s (close name) reply new =
    (reply ≡ done (codes "CLOSE CURSOR")) × (new ≡ with_session w sid (Some (without_cursor s name)))

-- by the statement
abbrev pub TreeDoes : World → ℕ → Session → Pick → CommandTree → Reply → World → Type 0
TreeDoes w sid s p (on_data (select q)) reply new = Answers w q reply × (new ≡ w)
TreeDoes w sid s p (on_rows t) reply new = RowsDo w p t reply new
TreeDoes w sid s p (on_cursors t) reply new = Turns w sid s t reply new
TreeDoes w sid s p (on_objects d) reply new =
    (reply ≡ done (ddl_tag d)) × ((change : ObjectChange) × Asks w.catalog s.user d change × Changes w p change new)

-- what a request for which no cause stands is answered, and what it changes
abbrev pub Does : World → ℕ → Pick → AskedLine → Reply → World → Type 0
Does w sid p (opening user) reply new = (reply ≡ done (codes "OPEN")) × (new ≡ with_session w sid (Some (new_session user)))
Does w sid p (sql text) reply new =
    (s : Session) × (tree : CommandTree) × IsStatementOf w sid (sql text) s tree × TreeDoes w sid s p tree reply new
Does w sid p bye reply new = (reply ≡ done (codes "BYE")) × (new ≡ with_session w sid None)

-- ---- trouble

-- what a statement leaves that a source's fault refuses: a FETCH takes its cursor away, any other leaves all as it was
abbrev pub Loses : World → ℕ → Session → CommandTree → World → Type 0
Loses w sid s (on_cursors (fetch asked name)) new = new ≡ with_session w sid (Some (without_cursor s name))
Loses w sid s other new = new ≡ w

-- ticket numbers may be used up in it: it is no FETCH
abbrev pub MayBegin : CommandTree → Type 0
MayBegin (on_cursors (fetch asked name)) = ⊥
MayBegin other = Unit {0}

-- One request in a world, under the trouble that befell it. What a case does not name stays as it was.
pub data Step (w : World) (sid : ℕ) (request : AskedLine) (t : Trouble) (reply : Reply) (new : World) : Type 0 where
  -- a cause of the least phase in which one stands is told
  is_refused : (p : Pick) (c : Cause) → IsPickOf w sid request p → IsTold w sid p request c → reply ≡ refused c → new ≡ w
      → Step w sid request t reply new
  -- no cause stands
  is_done : (p : Pick) → IsPickOf w sid request p → NoneStands w sid p request → Does w sid p request reply new
      → Step w sid request t reply new
  -- 53200 may take the place of any answer where a growth was refused
  lacks_memory : t.memory ≡ true → t.asked ≡ false → TakesMemory request → reply ≡ refused OutOfMemory → new ≡ w
      → Step w sid request t reply new
  -- a FETCH that had asked its cursor for a row then loses it
  fetch_lacks_memory : t.memory ≡ true → t.asked ≡ true → (s : Session) (asked : CountTree) (name : Name)
      → IsStatementOf w sid request s (on_cursors (fetch asked name)) → reply ≡ refused OutOfMemory
      → new ≡ with_session w sid (Some (without_cursor s name)) → Step w sid request t reply new
  -- HV000 that of any answer where a source failed, and 54000 where ticket numbers are used up, unless a cause of phases 1 to 4 stands
  source_fails : t.source ≡ true → (s : Session) (tree : CommandTree) → IsStatementOf w sid request s tree → NoneBeforeState w sid request
      → reply ≡ refused SourceFault → Loses w sid s tree new → Step w sid request t reply new
  numbers_end : t.numbers ≡ true → (s : Session) (tree : CommandTree) → IsStatementOf w sid request s tree → NoneBeforeState w sid request
      → MayBegin tree → reply ≡ refused LimitExceeded → new ≡ w → Step w sid request t reply new
  -- over a shared source a cause may be told that this may show, unless one of phases 1 to 5 stands
  shared_shows : (s : Session) (tree : CommandTree) (c : Cause) → IsStatementOf w sid request s tree → RestsOnShared w s tree
      → MayShow tree c → NoneBeforeRun w sid request → reply ≡ refused c → new ≡ w → Step w sid request t reply new
