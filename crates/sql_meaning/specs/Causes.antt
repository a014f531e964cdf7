-- The causes of refusal that stand for a request in a world: a set of causes, with no order of checks.
use Rattle.std.specs.Prelude.{◌≡◌, ◌<◌, ◌≤◌, ◌⊎◌, ℕ, zero, suc, Bool, true, false, List, [], ◌∷◌, map, flat_map, length, Option, Some, None, IsSome, Contains, IsPermutation, slice_get}
use Rattle.std.specs.List.{list_any}
use Rattle.med_value.specs.Prelude.{phase_of, cursor_limit}
use Rattle.med_value.specs.declared.cause.Cause.{Cause}
use Rattle.med_value.specs.declared.cause.Cause.TheVariants.{Protocol, NoConnection, LimitExceeded, UnableToConnect, InUse, NotNull, DuplicateCursor, InvalidCursorName, FeatureNotSupported, SourceFault}
use Rattle.med_syntax.specs.Prelude.{Name, SelectTree, select, DdlTree, CursorTree, declare, fetch, close, GivenTree, values, rows_of, WriteTree, insert, update, delete}
use Rattle.tri_expr.specs.declared.expr.Fault.{Fault as Wrong}
use Rattle.tri_expr.specs.Verdict.{fault_list}
use Rattle.med_query.specs.Prelude.{Query, Tables, query_by, is_risky_form, IsShownCause, wrong_cause}
use Rattle.fdw_api.specs.Prelude.{Kind, Entry, Holding, Held, Reading, is_late, is_of_run, Picks}
use Rattle.med_parser.specs.CommandCauses.{SyntaxCauses}
use Rattle.bind_names.specs.Meaning.{Meant}
use Rattle.med_write.specs.declared.write.WrittenColumn.{WrittenColumn}
use Rattle.med_write.specs.Form.{WriteForm}
use Rattle.med_write.specs.Writing.{rows_written, write_faults, write_lacks, changes_of}
use Rattle.bind_write.specs.Meaning.{target_of, columns_in, written_column, write_meant}
use Rattle.bind_write.specs.Naming.{WriteNames}
use Rattle.bind_write.specs.Typing.{WriteTypes}
use Rattle.med_catalog.specs.Prelude.{TableObject, table_named, ObjectChange, new_server, new_table, Asks, DdlCauses, phase}
use Rattle.med_binder.specs.Prelude.{shapes, meant_by, QueryNames, QueryTypes}
use Rattle.med_parser.specs.CommandTree.{CommandTree, on_data, on_rows, on_cursors, on_objects}
use Rattle.med_parser.specs.CommandGrammar.{HasCommand}
use Rattle.sql_meaning.specs.Picks.{Pick, PicksAnswer, IsNumbering, as_given}
use Rattle.sql_meaning.specs.Requests.{AskedLine, opening, sql, bye, IsUser}
use Rattle.sql_meaning.specs.World.{World, Session, IsOpen, cells_of, rows_of_place, rows_named, IsFree, Serves, is_shared_server, is_shared, is_leased}
use Rattle.sql_meaning.specs.Cursors.{cursor_named}
use Rattle.sql_meaning.specs.Sizes.{is_large_form}

-- Phase 1, the frame. 08P01: OPEN of a session that is open, or with a user who is none by the protocol.
-- 08003: a statement or BYE of a session that is not open.
abbrev pub FrameCauses : World → ℕ → AskedLine → Cause → Type 0
FrameCauses w sid (opening user) c = (c ≡ Protocol) × (IsOpen w sid ⊎ (IsUser user → ⊥))
FrameCauses w sid (sql text) c = (c ≡ NoConnection) × (IsOpen w sid → ⊥)
FrameCauses w sid bye c = (c ≡ NoConnection) × (IsOpen w sid → ⊥)

-- ---- a query

-- the query, over the entries of FROM of its cores, which are counted from 0 (SQL:2016, <query expression>)
abbrev pub query_of : Meant → Query
query_of m = query_by m.form

-- an entry of FROM has the rows of the table in its place (SQL:2016, <from clause>)
abbrev pub entry_tables : List ℕ → Tables → Tables
entry_tables [] db k = []
entry_tables (p ∷ ps) db zero = db p
entry_tables (p ∷ ps) db (suc k) = entry_tables ps db k

-- what it means over the world's tables, and the rows of the entries of its cores
abbrev pub meant_over : World → SelectTree → Meant
meant_over w q = meant_by w.catalog q

abbrev pub entries_in : World → SelectTree → Tables
entries_in w q = entry_tables (meant_over w q).entries (rows_of_place w.rows)

-- Phase 5: 54000 where it has more than 8 cores, or FROM of one of them more than 8 entries.
abbrev pub QueryState : World → SelectTree → Cause → Type 0
QueryState w q c = (is_large_form (meant_over w q).form ≡ true) × (c ≡ LimitExceeded)

-- the source of one of the tables that it reads is shared
abbrev pub reads_shared : World → SelectTree → Bool
reads_shared w q = list_any (λ place. is_shared w (slice_get w.catalog.tables place)) (meant_over w q).entries

-- Phase 6: the faults that the query shows over the rows of its entries, and 54000 where it groups too many of them. None stands where
-- it reads a shared source.
abbrev pub QueryRun : World → SelectTree → Cause → Type 0
QueryRun w q c = (reads_shared w q ≡ false) × IsShownCause (query_of (meant_over w q)) (entries_in w q) c

abbrev pub SelectCauses : World → Name → SelectTree → Cause → Type 0
SelectCauses w user q c = QueryNames w.catalog user q c ⊎ (QueryTypes w.catalog q c ⊎ (QueryState w q c ⊎ QueryRun w q c))

-- ---- a statement on objects

-- what the kind of the table's source reads from this entry under the table's remote name
pub record Reads (w : World) (t : TableObject) (entry : Option Entry) (reading : Reading) : Type 0 where
  pub kind : Kind
  pub holdings : Name → Holding
  pub serves : Serves w t.server kind holdings
  pub read : reading ≡ kind.reads t.columns t.settings entry

-- Phases 5 and 6, as sources show them: HV00N where a server's source is not a free one of its kind, and what stands against the entry that
-- a table is bound to.
abbrev pub SourceCauses : World → Pick → ObjectChange → Cause → Type 0
SourceCauses w p (new_server s) c = (c ≡ UnableToConnect) × (IsFree w s.source s.kind → ⊥)
SourceCauses w p (new_table t) c = (reading : Reading) × Reads w t p.entry reading × Contains reading.causes c
SourceCauses w p other c = ⊥

-- Phases 3 to 6: those that the catalogue and the leases show, and those of the sources.
abbrev pub ObjectCauses : World → Name → Pick → DdlTree → Cause → Type 0
ObjectCauses w user p d c =
    DdlCauses w.catalog (is_leased w) user d c ⊎ ((change : ObjectChange) × Asks w.catalog user d change × SourceCauses w p change c)

-- ---- a write

-- this holds of the query of an INSERT that has one; no other write has one
abbrev pub OfGiven : (SelectTree → Type 0) → GivenTree → Type 0
OfGiven P (values rows) = ⊥
OfGiven P (rows_of q) = P q

abbrev pub OfQuery : (SelectTree → Type 0) → WriteTree → Type 0
OfQuery P (insert i) = OfGiven P i.given
OfQuery P (update u) = ⊥
OfQuery P (delete d) = ⊥

-- Phase 5: 55006 where the table is leased, and 54000 where an INSERT's query is larger than it may be.
abbrev pub WriteState : World → WriteTree → Cause → Type 0
WriteState w t c = ((c ≡ InUse) × (is_leased w (target_of t) ≡ true)) ⊎ OfQuery (λ q. QueryState w q c) t

-- what the write means over the world's tables, what it knows of the columns of its table, and the rows of that
abbrev pub write_over : World → WriteTree → WriteForm
write_over w t = write_meant (shapes w.catalog) t

abbrev pub columns_over : World → WriteTree → List WrittenColumn
columns_over w t = map written_column (columns_in (shapes w.catalog) (target_of t))

abbrev pub rows_held : World → WriteTree → List Held
rows_held w t = rows_named (target_of t) w.catalog.tables w.rows

-- the source of the table that is written is shared
abbrev pub writes_shared : World → WriteTree → Bool
writes_shared w t = is_shared w (table_named w.catalog (target_of t))

-- the table that is written, and what its source is, which is not shared
pub record IsTarget (w : World) (t : WriteTree) (table : TableObject) (kind : Kind) (holdings : Name → Holding) : Type 0 where
  pub there : table_named w.catalog (target_of t) ≡ Some table
  pub serves : Serves w table.server kind holdings

-- What the kind of the table's source refuses of all changes together, where each cell that is written has a value: repeated keys, what a
-- record or line cannot take, and sizes.
pub record IsRefused (w : World) (p : Pick) (t : WriteTree) (c : Cause) : Type 0 where
  pub table : TableObject
  pub kind : Kind
  pub holdings : Name → Holding
  pub target : IsTarget w t table kind holdings
  pub valued : flat_map fault_list (rows_written (write_over w t) (cells_of (rows_held w t)) p.answer) ≡ []
  pub stands : Contains ((kind.refuses table.columns table.settings).causes p.entry p.rows (changes_of (write_over w t) p.answer p.read)) c

-- Phase 6: 22003 and 22012 for a fault of WHERE on a row of the table, or of a cell that is written; 23502 for NULL in a NOT NULL column of
-- a row that is written; what the source's kind refuses; and what stands against the run of an INSERT's query. Of a table whose source is
-- shared only the last can stand.
pub data WriteRun (w : World) (p : Pick) (t : WriteTree) (c : Cause) : Type 0 where
  has_fault : writes_shared w t ≡ false → (f : Wrong) → Contains (write_faults (write_over w t) (cells_of (rows_held w t)) p.answer) f
      → c ≡ wrong_cause f → WriteRun w p t c
  lacks_value : writes_shared w t ≡ false → write_lacks (columns_over w t) (write_over w t) (cells_of (rows_held w t)) p.answer ≡ true
      → c ≡ NotNull → WriteRun w p t c
  is_refused : IsRefused w p t c → WriteRun w p t c
  query_shows : OfQuery (λ q. QueryRun w q c) t → WriteRun w p t c

-- Phases 3 to 6: names and rights, types, state, and the run.
abbrev pub RowCauses : World → Name → Pick → WriteTree → Cause → Type 0
RowCauses w user p t c = WriteNames w.catalog user t c ⊎ (WriteTypes w.catalog t c ⊎ (WriteState w t c ⊎ WriteRun w p t c))

-- ---- a cursor

-- Phases 3 to 6 of DECLARE: 42P03 where the session has a cursor of this name; what stands against its query, and against the run of that;
-- 0A000 where an expression of the query may fault; 54000 where the session has 16 cursors.
pub data DeclareCauses (w : World) (s : Session) (name : Name) (q : SelectTree) (c : Cause) : Type 0 where
  exists : c ≡ DuplicateCursor → IsSome (cursor_named name s) → DeclareCauses w s name q c
  of_query : SelectCauses w s.user q c → DeclareCauses w s name q c
  is_risky : c ≡ FeatureNotSupported → is_risky_form (meant_over w q).form ≡ true → DeclareCauses w s name q c
  too_many : c ≡ LimitExceeded → cursor_limit ≤ length s.cursors → DeclareCauses w s name q c

-- Of FETCH and CLOSE: 34000 where the session has no cursor of this name.
abbrev pub CursorCauses : World → Session → CursorTree → Cause → Type 0
CursorCauses w s (declare name (select q)) c = DeclareCauses w s name q c
CursorCauses w s (fetch asked name) c = (c ≡ InvalidCursorName) × (cursor_named name s ≡ None)
CursorCauses w s (close name) c = (c ≡ InvalidCursorName) × (cursor_named name s ≡ None)

-- ---- a statement

-- Phases 3 to 6, by the statement.
abbrev pub TreeCauses : World → Session → Pick → CommandTree → Cause → Type 0
TreeCauses w s p (on_data (select q)) c = SelectCauses w s.user q c
TreeCauses w s p (on_rows t) c = RowCauses w s.user p t c
TreeCauses w s p (on_cursors t) c = CursorCauses w s t c
TreeCauses w s p (on_objects d) c = ObjectCauses w s.user p d c

-- the session is open, and the request is a statement with this tree
abbrev pub IsStatementOf : World → ℕ → AskedLine → Session → CommandTree → Type 0
IsStatementOf w sid (opening user) s tree = ⊥
IsStatementOf w sid (sql text) s tree = (w.sessions sid ≡ Some s) × HasCommand text tree
IsStatementOf w sid bye s tree = ⊥

-- Of a statement: phase 2, its syntax, and what its tree shows.
abbrev pub StatementCauses : World → ℕ → Pick → AskedLine → Cause → Type 0
StatementCauses w sid p (opening user) c = ⊥
StatementCauses w sid p (sql text) c =
    SyntaxCauses text c ⊎ ((s : Session) × (tree : CommandTree) × IsStatementOf w sid (sql text) s tree × TreeCauses w s p tree c)
StatementCauses w sid p bye c = ⊥

abbrev pub Stands : World → ℕ → Pick → AskedLine → Cause → Type 0
Stands w sid p request c = FrameCauses w sid request c ⊎ StatementCauses w sid p request c

-- ---- what may be picked

-- the entry that a new table's source may hold under its remote name
abbrev pub PicksEntry : World → TableObject → Pick → Type 0
PicksEntry w t p = (kind : Kind) (holdings : Name → Holding) → Serves w t.server kind holdings → Picks (holdings t.remote) p.entry

-- what is open of a write; of rows of which nothing is known, anything
pub record PicksWrite (w : World) (t : WriteTree) (p : Pick) : Type 0 where
  pub entry : (table : TableObject) → table_named w.catalog (target_of t) ≡ Some table → PicksEntry w table p
  pub rows : writes_shared w t ≡ false → IsNumbering (rows_held w t) p.rows
  pub read : IsPermutation (map as_given p.rows) p.read
  pub answer : (q : SelectTree) → OfQuery (λ r. r ≡ q) t → reads_shared w q ≡ false
      → PicksAnswer (query_of (meant_over w q)) (entries_in w q) p.answer

-- no cause of names, rights, types or state stands against the write
abbrev pub IsWritable : World → Name → WriteTree → Type 0
IsWritable w user t = (c : Cause) → (WriteNames w.catalog user t c ⊎ (WriteTypes w.catalog t c ⊎ WriteState w t c)) → ⊥

-- nothing is open of a write against which one does
abbrev pub IsRowPick : World → Name → WriteTree → Pick → Type 0
IsRowPick w user t p = IsWritable w user t → PicksWrite w t p

abbrev pub IsPick : World → Session → CommandTree → Pick → Type 0
IsPick w s (on_data q) p = Unit {0}
IsPick w s (on_rows t) p = IsRowPick w s.user t p
IsPick w s (on_cursors t) p = Unit {0}
IsPick w s (on_objects d) p = (t : TableObject) → Asks w.catalog s.user d (new_table t) → PicksEntry w t p

-- no cause of syntax stands against the text
abbrev pub IsWellFormed : AskedLine → Type 0
IsWellFormed (opening user) = Unit {0}
IsWellFormed (sql text) = (c : Cause) → SyntaxCauses text c → ⊥
IsWellFormed bye = Unit {0}

-- of a request: nothing is open but of its statement, once its text is well formed
abbrev pub IsPickOf : World → ℕ → AskedLine → Pick → Type 0
IsPickOf w sid request p =
    (s : Session) (tree : CommandTree) → IsStatementOf w sid request s tree → IsWellFormed request → IsPick w s tree p

-- ---- which is told

-- a cause of the least phase in which one stands
pub record IsTold (w : World) (sid : ℕ) (p : Pick) (request : AskedLine) (c : Cause) : Type 0 where
  pub stands : Stands w sid p request c
  pub least : (d : Cause) → Stands w sid p request d → phase c ≤ phase d

abbrev pub NoneStands : World → ℕ → Pick → AskedLine → Type 0
NoneStands w sid p request = (c : Cause) → Stands w sid p request c → ⊥

-- no cause of phases 1 to 4 stands, whatever is picked, and none of phases 1 to 5
abbrev pub NoneBeforeState : World → ℕ → AskedLine → Type 0
NoneBeforeState w sid request = (p : Pick) (c : Cause) → Stands w sid p request c → 4 < phase c

abbrev pub NoneBeforeRun : World → ℕ → AskedLine → Type 0
NoneBeforeRun w sid request = (p : Pick) (c : Cause) → Stands w sid p request c → 5 < phase c

-- ---- what rests on a shared source

-- The statement reads or writes a table whose source is shared, or makes one.
abbrev pub RestsOnShared : World → Session → CommandTree → Type 0
RestsOnShared w s (on_data (select q)) = reads_shared w q ≡ true
RestsOnShared w s (on_rows t) = (writes_shared w t ≡ true) ⊎ OfQuery (λ q. reads_shared w q ≡ true) t
RestsOnShared w s (on_cursors (declare name (select q))) = reads_shared w q ≡ true
RestsOnShared w s (on_cursors other) = ⊥
RestsOnShared w s (on_objects d) = (t : TableObject) × Asks w.catalog s.user d (new_table t) × (is_shared_server w t.server ≡ true)

-- What such a source may show against it: a cause of the run; against a table that is made also one of state; and of a write, that its
-- rows cannot be told apart or are not of their columns' types, by HV000.
abbrev pub MayShow : CommandTree → Cause → Type 0
MayShow (on_rows t) c = (is_of_run (phase_of c) ≡ true) ⊎ (c ≡ SourceFault)
MayShow (on_objects d) c = is_late (phase_of c) ≡ true
MayShow other c = is_of_run (phase_of c) ≡ true
