-- What an engine shows, when its calls may be made, and when a world agrees with it.
use Rattle.std.specs.Prelude.{◌≡◌, ◌<◌, ◌≤◌, ◌-◌, ◌^◌, ℕ, zero, suc, Bool, true, false, List, [], ◌∷◌, ◌++◌, map, length, Option, Some, None, cond, min, slice_get, slice_set, Contains, IsPermutation, bytes_eq, IsSome}
use Rattle.std.specs.List.{IsDistinct}
use Rattle.med_value.specs.declared.cause.Cause.{Cause}
use Rattle.med_syntax.specs.Prelude.{Name, SelectTree, select, TableTree, CountTree, some_rows, all_rows, declare, fetch}
use Rattle.fdw_api.specs.Prelude.{Column, Kind, Held, held, kinds_of, Scan, BoxState, BoxTable, IsIdle, is_honest, table_of, scan_of, rows_of, Binds, Unbinds, IsSoundBox}
use Rattle.med_binder.specs.Prelude.{Place, Attached, ArePlaces, meant_by}
use Rattle.med_exec.specs.Prelude.{BoxAt, ChangesAt, SlotShows, HasFailed, IsUsedUp, pulled_at, PullsAtMost, PullsNone, many_in}
use Rattle.med_exec.specs.Rests.{held as scans_held, IsRunning}
use Rattle.med_exec.specs.declared.running.Run.{Run}
use Rattle.med_planner.specs.Plain.{IsPlainForm}
use Rattle.med_value.specs.Limits.{session_count, source_limit}
use Rattle.sql_meaning.specs.Prelude.{AskedLine, sql, IsSid, IsUser, World, Cursor, Session, Source, SourceState, standing, shared, dropped, with_session, without_sessions, beside_without, cursor_named, IsBareQuery, Trouble, Step, Reply, done, answered, refused, reply_text}
use Rattle.med_catalog.specs.declared.kind.SourceKind.{SourceKind}
use Rattle.med_catalog.specs.Prelude.{ServerObject, TableObject, Objects, server_named, table_settings, column_settings, Stands, create_table_rows, AreDeclared, ObjectChange, new_table, no_server, no_table, changed}
use Rattle.med_parser.specs.CommandTree.{CommandTree, on_data, on_cursors}
use Rattle.med_parser.specs.CommandGrammar.{HasCommand}
use Rattle.med_world.specs.Counted.{ReadsTables}
use Rattle.med_world.specs.Fetching.{HasRisen, PullsFetched}
use Rattle.med_world.specs.Open.{Opened, Seated, leases_table, any_leases}
use Rattle.med_world.specs.Selecting.{PullsAgreed}
use Rattle.med_world.specs.Starting.{OpensEach}
use Rattle.med_world.specs.Seats.{seat_of, asked_of, opened_at, IsOpenAt, AreSoundSeats, SeatAgrees}

-- a source as it was added: its name, and its kind
pub record Label : Type 0 where
  pub name : Name
  pub kind : SourceKind

-- what an engine shows, and what its boxes show: each foreign table of the catalogue has its place in `bound`, and session n stands in
-- place n - 1 of `seats`
pub record Shown : Type 0 where
  pub catalog : Objects
  pub labels : List Label
  pub boxes : List (Option BoxState)
  pub bound : List Attached
  pub seats : List (Option Seated)

-- a table is leased: an open cursor of some session reads it
abbrev pub leased : Shown → Name → Bool
leased e = any_leases e.seats

-- no scan is live and nothing is staged
pub record IsAtRest (s : BoxState) : Type 0 where
  pub no_scan : (q : ℕ) → scan_of s q ≡ None
  pub no_staging : s.ledger.staged ≡ None

-- this holds of each box that is there
abbrev pub EachBox : (BoxState → Type 0) → List (Option BoxState) → Type 0
EachBox P boxes = (slot : ℕ) (s : BoxState) → slice_get boxes slot ≡ Some (Some s) → P s

-- ---- what the catalogue keeps

-- No two servers have one name or one source, no two tables one name, and each table has its server.
pub record AreSound (o : Objects) : Type 0 where
  pub owner : IsUser o.owner
  pub server_names : IsDistinct bytes_eq (map (λ (s : ServerObject). s.name) o.servers)
  pub sources_once : IsDistinct bytes_eq (map (λ (s : ServerObject). s.source) o.servers)
  pub table_names : IsDistinct bytes_eq (map (λ (t : TableObject). t.name) o.tables)
  pub served : (t : TableObject) → Contains o.tables t → IsSome (server_named o t.server)

-- ---- what an engine keeps

-- the source's label stands in this place
abbrev pub IsNamedAt : List Label → ℕ → Name → Type 0
IsNamedAt labels place name = (l : Label) × (slice_get labels place ≡ Some l) × (l.name ≡ name)

-- the source of the server of this name stands in this place
pub record IsServerAt (e : Shown) (server : Name) (place : ℕ) : Type 0 where
  pub at : ServerObject
  pub is : server_named e.catalog server ≡ Some at
  pub source : IsNamedAt e.labels place at.source

-- the source of a server is there, and of the server's kind
pub record IsStandingAt (e : Shown) (s : ServerObject) (place : ℕ) : Type 0 where
  pub label : Label
  pub there : slice_get e.labels place ≡ Some label
  pub named : label.name ≡ s.source
  pub of_kind : label.kind ≡ s.kind
  pub box : BoxState
  pub box_there : slice_get e.boxes place ≡ Some (Some box)

-- what a kind says of writes to a table of these columns and options is said of the bound table
pub record IsWrittenAs (kind : Kind) (t : TableObject) (bound : BoxTable) : Type 0 where
  pub line : bound.line ≡ kind.line t.columns t.settings
  pub image : bound.image ≡ kind.image t.columns t.settings
  pub arrangement : bound.arrangement ≡ kind.arrangement t.columns t.settings
  pub refuses : bound.refuses ≡ kind.refuses t.columns t.settings

-- the table of the catalogue is bound there: in the box of its server's source, for its remote name, its columns and its options
pub record IsBoundAs (e : Shown) (t : TableObject) (a : Attached) : Type 0 where
  pub server : IsServerAt e t.server a.source
  pub box : BoxState
  pub there : slice_get e.boxes a.source ≡ Some (Some box)
  pub bound : BoxTable
  pub is : table_of box a.number ≡ Some bound
  pub remote : bound.remote ≡ t.remote
  pub kinds : bound.kinds ≡ kinds_of t.columns
  pub writes : IsWrittenAs box.nature.kind t bound

-- the box has bound this table, and it is one of these
pub record IsAmong (bound : List Attached) (slot number : ℕ) : Type 0 where
  pub place : ℕ
  pub at : Attached
  pub there : slice_get bound place ≡ Some at
  pub source_is : at.source ≡ slot
  pub number_is : at.number ≡ number

-- A box of a source of this kind objects to no table that the catalogue lets pass: the rules of names, options and types are the kind's.
abbrev pub TakesAs : SourceKind → BoxState → Type 0
TakesAs kind s =
    (o : Objects) (t : TableTree) (columns : List Column) → AreDeclared t.columns columns
    → ((c : Cause) → Stands (create_table_rows o kind t) c → ⊥)
    → s.nature.kind.objections columns (table_settings kind t.options ++ column_settings 1 t.columns) ≡ []

-- each box takes what its source's kind does
abbrev pub EachTakes : List Label → List (Option BoxState) → Type 0
EachTakes labels boxes =
    (place : ℕ) (l : Label) (s : BoxState) → slice_get labels place ≡ Some l → slice_get boxes place ≡ Some (Some s) → TakesAs l.kind s

-- ---- scans that open cursors hold

-- the cursor leases the table of this number of the slot's box
pub record LeasesNumber (tables : List TableObject) (bound : List Attached) (c : Opened) (slot number : ℕ) : Type 0 where
  pub place : ℕ
  pub table : TableObject
  pub at : Attached
  pub there : slice_get tables place ≡ Some table
  pub is_bound : slice_get bound place ≡ Some at
  pub source_is : at.source ≡ slot
  pub number_is : at.number ≡ number
  pub leases : leases_table table.name c ≡ true

-- an open cursor holds the scan of this number of the slot's box, and leases the table that it is of
pub record IsOwned (e : Shown) (slot number table : ℕ) : Type 0 where
  pub place : ℕ
  pub cursor : Opened
  pub is_open : IsOpenAt e.seats place cursor
  pub holds : Contains (scans_held cursor.run slot) number
  pub leased : LeasesNumber e.catalog.tables e.bound cursor slot table

-- two open cursors that hold one scan are one: of one session, and of one name
abbrev pub AreHeldOnce : List (Option Seated) → Type 0
AreHeldOnce seats =
    (j k : ℕ) (c d : Opened) (slot number : ℕ) → IsOpenAt seats j c → IsOpenAt seats k d
    → Contains (scans_held c.run slot) number → Contains (scans_held d.run slot) number → (j ≡ k) × (c.name ≡ d.name)

-- nothing is staged
abbrev pub IsUnstaged : BoxState → Type 0
IsUnstaged s = s.ledger.staged ≡ None

-- Between requests the scans that are live in the boxes are those that open cursors hold, each held once, and each of a table that its
-- cursor leases. Each cursor's run is good for its next row, and nothing is staged.
pub record KeepsScans (e : Shown) : Type 0 where
  pub unstaged : EachBox IsUnstaged e.boxes
  pub running : (place : ℕ) (c : Opened) → IsOpenAt e.seats place c → IsRunning c.run e.boxes
  pub owned : (slot number : ℕ) (s : BoxState) (scan : Scan) → slice_get e.boxes slot ≡ Some (Some s) → scan_of s number ≡ Some scan
      → IsOwned e slot number scan.table
  pub once : AreHeldOnce e.seats

-- What each call of an engine asks, and keeps.
pub record IsSound (e : Shown) : Type 0 where
  pub objects : AreSound e.catalog
  pub places : length e.boxes ≡ length e.labels
  pub sources : length e.labels ≤ source_limit
  pub sessions : length e.seats ≡ session_count
  pub seated : AreSoundSeats e.seats
  pub source_names : IsDistinct bytes_eq (map (λ (l : Label). l.name) e.labels)
  pub scans : KeepsScans e
  pub sound_boxes : EachBox IsSoundBox e.boxes
  pub takes : EachTakes e.labels e.boxes
  pub servers_stand : (s : ServerObject) → Contains e.catalog.servers s → (place : ℕ) × IsStandingAt e s place
  pub many : length e.bound ≡ length e.catalog.tables
  pub tables_bound : (k : ℕ) (t : TableObject) (a : Attached) → slice_get e.catalog.tables k ≡ Some t → slice_get e.bound k ≡ Some a
      → IsBoundAs e t a
  pub bound_attached : (slot number : ℕ) (s : BoxState) (b : BoxTable) → slice_get e.boxes slot ≡ Some (Some s) → table_of s number ≡ Some b
      → IsAmong e.bound slot number
  pub bound_once : (j k : ℕ) (a b : Attached) → slice_get e.bound j ≡ Some a → slice_get e.bound k ≡ Some b
      → a.source ≡ b.source → a.number ≡ b.number → j ≡ k

-- ---- a world that agrees

-- what a world has of a source: it is shared where its box is not honest
abbrev pub state_of : Option BoxState → SourceState
state_of None = dropped
state_of (Some s) = cond s.nature.honest (standing s.nature.kind s.content.holdings) (shared s.nature.kind)

abbrev pub sources_of : List Label → List (Option BoxState) → List Source
sources_of [] boxes = []
sources_of (l ∷ ls) [] = []
sources_of (l ∷ ls) (b ∷ bs) = record { name = l.name; kind = l.kind; state = state_of b } ∷ sources_of ls bs

-- the rows of a table are those that its box shows, in any order, where that is honest
abbrev pub AreRowsOf : List (Option BoxState) → Attached → List Held → Type 0
AreRowsOf boxes a rows = BoxAt boxes a.source (λ s. is_honest s → IsPermutation (map held (rows_of s a.number)) rows)

abbrev pub RowsAgree : List (Option BoxState) → List Attached → List (List Held) → Type 0
RowsAgree boxes [] [] = Unit {0}
RowsAgree boxes (a ∷ more) (r ∷ rs) = AreRowsOf boxes a r × RowsAgree boxes more rs
RowsAgree boxes [] (r ∷ rs) = ⊥
RowsAgree boxes (a ∷ more) [] = ⊥

-- An engine stands for a world.
pub record Agrees (e : Shown) (w : World) : Type 0 where
  pub catalog : w.catalog ≡ e.catalog
  pub sources : w.sources ≡ sources_of e.labels e.boxes
  pub rows : RowsAgree e.boxes e.bound w.rows
  pub sessions : (sid : ℕ) → IsSid sid → SeatAgrees e.boxes w (seat_of e.seats sid) (w.sessions sid)
  pub scans : KeepsScans e

-- ---- from state to state

-- What trouble may be told of a request between these states: that a source failed or that numbers are used up only where a box shows
-- it. Whether memory was refused, no box shows.
pub record Befell (old new : List (Option BoxState)) (t : Trouble) : Type 0 where
  pub source : t.source ≡ true → SlotShows old new HasFailed
  pub numbers : t.numbers ≡ true → SlotShows old new IsUsedUp

-- a box keeps its nature, and what it counts goes up alone, to 2^64 - 1
pub record Rises (old new : BoxState) : Type 0 where
  pub nature : new.nature ≡ old.nature
  pub next : old.ledger.next ≤ new.ledger.next
  pub end : old.ledger.next ≡ 2 ^ 64 - 1 → new.ledger.next ≡ 2 ^ 64 - 1
  pub pulled : min old.ledger.pulled (2 ^ 64 - 1) ≤ new.ledger.pulled
  pub faults : min old.ledger.faults (2 ^ 64 - 1) ≤ new.ledger.faults

-- what becomes of a box: it rises, or it was dropped, and was idle as it went
abbrev pub Fares : BoxState → Option BoxState → Type 0
Fares s None = (last : BoxState) × Rises s last × IsIdle last
Fares s (Some t) = Rises s t

-- no box comes, one goes only idle and for good, and what each counts goes up alone
pub record EachRises (old new : List (Option BoxState)) : Type 0 where
  pub stays : (slot : ℕ) (s : BoxState) → slice_get old slot ≡ Some (Some s)
      → (after : Option BoxState) × (slice_get new slot ≡ Some after) × Fares s after
  pub stood : (slot : ℕ) (t : BoxState) → slice_get new slot ≡ Some (Some t)
      → (s : BoxState) × (slice_get old slot ≡ Some (Some s)) × Rises s t
  pub gone : (slot : ℕ) → slice_get old slot ≡ Some None → slice_get new slot ≡ Some None

-- for the table of each entry of its FROM one scan was begun, and no other
pub record ReadsOnce (e : Shown) (q : SelectTree) (new : List (Option BoxState)) : Type 0 where
  pub places : List Place
  pub are : ArePlaces e.bound (meant_by e.catalog q).entries places
  pub reads : ReadsTables places e.boxes new

-- For SELECT besides no more rows were given than is asked for by what the boxes agreed to.
pub record AnswersOnce (e : Shown) (q : SelectTree) (new : List (Option BoxState)) : Type 0 where
  pub once : ReadsOnce e q new
  pub pulls : PullsAgreed (meant_by e.catalog q).form once.places e.boxes new

-- For DECLARE a query was begun once, and is that of the session's cursor of this name. Of one with FROM whose rows can be shown as they
-- are joined no row was asked for, and the scans that the cursor holds are one for each entry, under just the restrictions that it is
-- offered.
pub record BeginsOnce (e : Shown) (sid : ℕ) (name : Name) (q : SelectTree) (new : Shown) : Type 0 where
  pub once : ReadsOnce e q new.boxes
  pub plain : IsPlainForm (meant_by e.catalog q).form → 0 < length (meant_by e.catalog q).entries → PullsNone e.boxes new.boxes
  pub at : Opened
  pub there : opened_at new.seats sid name ≡ Some at
  pub opens : OpensEach e.catalog q once.places at.run new.boxes

-- no box but one gave a row, and that no more than so many: the box of a table that the session's cursor of this name leases
pub record GivesFew (e : Shown) (sid : ℕ) (name : Name) (most : ℕ) (new : List (Option BoxState)) : Type 0 where
  pub slot : ℕ
  pub few : PullsAtMost (many_in slot most) e.boxes new
  pub own : pulled_at e.boxes slot < pulled_at new slot → (at : Opened) → opened_at e.seats sid name ≡ Some at
      → (number : ℕ) × LeasesNumber e.catalog.tables e.bound at slot number

-- no more than so many rows were given, all of a table of the cursor; where all were asked for, any number by any box
abbrev pub GivesWithin : Shown → ℕ → Name → CountTree → List (Option BoxState) → Type 0
GivesWithin e sid name (some_rows n) new = GivesFew e sid name n new
GivesWithin e sid name all_rows new = Unit {0}

-- in each world where the session's cursor of this name is over all rows of one table
abbrev pub IsBareCursor : Shown → ℕ → Name → Type 0
IsBareCursor e sid name =
    (w : World) × (s : Session) × (c : Cursor) × Agrees e w × (w.sessions sid ≡ Some s) × (cursor_named name s ≡ Some c)
    × IsBareQuery c.query

-- A FETCH asked the session's cursor of this name for a row no more often than for so many rows, each time counted, and no other cursor;
-- its run goes on behind them. Of a cursor over all rows of one table, no more than so many rows of it were given.
pub record AsksCursor (e : Shown) (sid : ℕ) (asked : CountTree) (name : Name) (new : Shown) : Type 0 where
  pub at : Opened
  pub there : opened_at e.seats sid name ≡ Some at
  pub run : Run
  pub goes_on : opened_at new.seats sid name ≡ Some (record at { run = run })
  pub pulls : PullsFetched asked at.run e.boxes (asked_of e.seats sid) run new.boxes (asked_of new.seats sid)
  pub few : IsBareCursor e sid name → GivesWithin e sid name asked new.boxes

-- What a statement with this tree that is answered so asked the boxes for: a SELECT that was answered by rows, a DECLARE that opened its
-- cursor, and a FETCH that gave rows. One that was refused, before its cursor was asked or after, had no more rows given.
abbrev pub TreeAsks : Shown → ℕ → CommandTree → Reply → Shown → Type 0
TreeAsks e sid (on_data (select q)) (answered tag names rows) new = AnswersOnce e q new.boxes
TreeAsks e sid (on_cursors (declare name (select q))) (done tag) new = BeginsOnce e sid name q new
TreeAsks e sid (on_cursors (fetch asked name)) (answered tag names rows) new = AsksCursor e sid asked name new
TreeAsks e sid (on_cursors (fetch asked name)) (refused c) new = IsBareCursor e sid name → GivesWithin e sid name asked new.boxes
TreeAsks e sid tree reply new = Unit {0}

-- what a request that is answered so asked the boxes for
abbrev pub AsksBoxes : Shown → ℕ → AskedLine → Reply → Shown → Type 0
AsksBoxes old sid request reply new =
    (text : List ℕ) (tree : CommandTree) → request ≡ sql text → HasCommand text tree → TreeAsks old sid tree reply new

-- The request is answered by this reply: from each world that agrees before, a step leads to it and to a world that agrees after. That a
-- cursor had been asked for a row may be told only where the session's count of that has risen.
pub record Leads (old : Shown) (sid : ℕ) (request : AskedLine) (reply : Reply) (new : Shown) : Type 0 where
  pub trouble : Trouble
  pub befell : Befell old.boxes new.boxes trouble
  pub asked : trouble.asked ≡ true → HasRisen (asked_of old.seats sid) (asked_of new.seats sid)
  pub rises : EachRises old.boxes new.boxes
  pub asks : AsksBoxes old sid request reply new
  pub step : (w : World) → Agrees old w → (after : World) × Step w sid request trouble reply after × Agrees new after

-- The request is answered by the bytes of a reply.
pub record IsAnswered (old : Shown) (sid : ℕ) (request : AskedLine) (text : List ℕ) (new : Shown) : Type 0 where
  pub reply : Reply
  pub is : text ≡ reply_text sid reply
  pub leads : Leads old sid request reply new

-- The session is closed, and its cursors are gone. Boxes only count what was asked of them, and nothing else changes.
pub record Closes (old : Shown) (sid : ℕ) (new : Shown) : Type 0 where
  pub others : new ≡ record old { seats = new.seats; boxes = new.boxes }
  pub rises : EachRises old.boxes new.boxes
  pub world : (w : World) → Agrees old w → Agrees new (with_session w sid None)

-- every session is
pub record ClosesAll (old new : Shown) : Type 0 where
  pub others : new ≡ record old { seats = new.seats; boxes = new.boxes }
  pub rises : EachRises old.boxes new.boxes
  pub world : (w : World) → Agrees old w → Agrees new (without_sessions w)

-- ---- how the engine makes a change of objects

-- the engine with this change of the catalogue
abbrev pub with_change : Shown → ObjectChange → Shown
with_change e change = record e { catalog = changed change e.catalog }

-- the first table of this name stands in this place
abbrev pub IsFirst : Name → List TableObject → ℕ → Type 0
IsFirst name [] place = ⊥
IsFirst name (t ∷ ts) zero = bytes_eq name t.name ≡ true
IsFirst name (t ∷ ts) (suc place) = (bytes_eq name t.name ≡ false) × IsFirst name ts place

-- A new table is bound in the box of its server's source, and stands last.
pub record BindsTable (old : Shown) (t : TableObject) (new : Shown) : Type 0 where
  pub place : ℕ
  pub server : IsServerAt old t.server place
  pub number : ℕ
  pub binds : ChangesAt old.boxes place (λ a b. Binds a t.remote t.columns t.settings number b) new.boxes
  pub is : new ≡ record (with_change old (new_table t)) {
    boxes = new.boxes;
    bound = old.bound ++ record { source = place; number = number } ∷ [];
  }

-- The table of a name is unbound in its box, and its place is gone.
pub record UnbindsTable (old : Shown) (name : Name) (new : Shown) : Type 0 where
  pub place : ℕ
  pub first : IsFirst name old.catalog.tables place
  pub at : Attached
  pub bound : slice_get old.bound place ≡ Some at
  pub unbinds : ChangesAt old.boxes at.source (λ a b. Unbinds a at.number b) new.boxes
  pub is : new ≡ record (with_change old (no_table name)) { boxes = new.boxes; bound = beside_without name old.catalog.tables old.bound }

-- The source of the server of a name is dropped with its box, which is idle.
pub record DropsBox (old : Shown) (name : Name) (new : Shown) : Type 0 where
  pub place : ℕ
  pub server : IsServerAt old name place
  pub box : BoxState
  pub there : slice_get old.boxes place ≡ Some (Some box)
  pub idle : IsIdle box
  pub is : new ≡ record (with_change old (no_server name)) { boxes = slice_set old.boxes place None }

-- by the change
abbrev pub Alters : Shown → ObjectChange → Shown → Type 0
Alters old (new_table t) new = BindsTable old t new
Alters old (no_table name) new = UnbindsTable old name new
Alters old (no_server name) new = DropsBox old name new
Alters old change new = new ≡ with_change old change
