-- How a session's cursor of one name fares in a step.
use Rattle.std.proofs.Common.{◌≡◌, ◌≢◌, ℕ, ◌⊎◌, Bool, true, false, if◌then◌else◌, List, Option, Some, None, IsSome, nat_eq, refl, ap, sym, ◌∙◌, subst, inl, inr, codes, bytes_eq}
use Rattle.std.proofs.lemmas.Bool.Decides.{eqb_tells}
use Rattle.std.proofs.lemmas.Option.{same_Some}
use Rattle.med_value.specs.declared.cause.Cause.TheVariants.{Protocol, OutOfMemory, SourceFault, LimitExceeded}
use Rattle.med_syntax.specs.Prelude.{Name, select, CursorTree, declare, fetch, close, WriteTree}
use Rattle.med_catalog.specs.Changes.{ObjectChange, nothing, new_wrapper, new_server, new_mapping, new_table, no_wrapper, no_server, no_mapping, no_table}
use Rattle.med_parser.specs.CommandTree.{CommandTree, on_data, on_rows, on_cursors, on_objects}
use Rattle.med_parser.specs.CommandGrammar.{HasCommand}
use Rattle.sql_meaning.specs.Prelude.{AskedLine, opening, sql, bye, World, Cursor, Session, with_session, cursor_named, with_cursor, without_cursor, with_handed, handing, Fetches, Fetched, Pick, Reply, done, reply_text, NoneStands, IsStatementOf}
use Rattle.sql_meaning.specs.Steps.{Trouble, new_cursor, Turns, Changes, TreeDoes, Does, Loses, WritesIn, is_written, is_unseen, shared_shows, Step, is_refused, is_done, lacks_memory, fetch_lacks_memory, source_fails, numbers_end}
use Rattle.med_world.proofs.Lists.{bytes_same, bytes_other, other_bytes}
use Rattle.session_wire.specs.Frames.{IsFrame}
use Rattle.session_wire.proofs.UniqueFrames.{one_frame}
use Rattle.session_wire.specs.Exchanges.{Exchange}
use Rattle.session_wire.specs.Fetching.{EndsCursor, by_close, by_bye, by_declare, GivesRows, PassesBy}
use Rattle.session_wire.proofs.Named.{finds_more, gone, left, handed_else, handed_on}
use Rattle.session_wire.proofs.Replying.{OneTree, refused_passes, other_passes, tree_passes}

-- the session is open, and this is its cursor of the name
abbrev pub Has : World → ℕ → Name → Option Cursor → Type 0
Has w sid name o = (s : Session) × (w.sessions sid ≡ Some s) × (cursor_named name s ≡ o)

-- nothing is said of it, and it is as before or gone; it handed out rows; or it ends
pub data Fares (sid : ℕ) (name : Name) (e : Exchange) (o : Option Cursor) (new : World) : Type 0 where
  passes : (now : Option Cursor) → (now ≡ o) ⊎ (now ≡ None) → PassesBy sid name e → Has new sid name now → Fares sid name e o new
  gives : (c : Cursor) → o ≡ Some c → (f : Fetched) → GivesRows sid name c.names e f → (c.shared ≡ false → Fetches c f.asked f.rows)
      → Has new sid name (Some (handing c f.rows)) → Fares sid name e o new
  ends : EndsCursor sid name e → Fares sid name e o new

-- ---- sessions

pub set_there : (w : World) (sid : ℕ) (x : Option Session) → (with_session w sid x).sessions sid ≡ x
set_there w sid x = split (eqb_tells sid sid)
  where
    split : ((nat_eq sid sid ≡ true) × (sid ≡ sid)) ⊎ ((nat_eq sid sid ≡ false) × (sid ≢ sid)) → (if nat_eq sid sid then x else w.sessions sid) ≡ x
    split (inl h) = ap (λ (b : Bool). if b then x else w.sessions sid) h.0
    split (inr h) = absurd (h.1 refl)

set_else : (w : World) (n sid : ℕ) (x : Option Session) → n ≢ sid → (with_session w n x).sessions sid ≡ w.sessions sid
set_else w n sid x apart = split (eqb_tells sid n)
  where
    split : ((nat_eq sid n ≡ true) × (sid ≡ n)) ⊎ ((nat_eq sid n ≡ false) × (sid ≢ n)) → (if nat_eq sid n then x else w.sessions sid) ≡ w.sessions sid
    split (inl h) = absurd (apart (sym h.1))
    split (inr h) = ap (λ (b : Bool). if b then x else w.sessions sid) h.0

-- a change of objects leaves sessions
changes_leave : (w : World) (p : Pick) (change : ObjectChange) (new : World) → Changes w p change new → new.sessions ≡ w.sessions
changes_leave w p nothing new h = ap (λ (x : World). x.sessions) h
changes_leave w p (new_wrapper x) new h = ap (λ (x : World). x.sessions) h
changes_leave w p (new_server x) new h = ap (λ (x : World). x.sessions) h
changes_leave w p (new_mapping n x) new h = ap (λ (x : World). x.sessions) h
changes_leave w p (new_table t) new h = ap (λ (x : World). x.sessions) h.2
changes_leave w p (no_wrapper n) new h = ap (λ (x : World). x.sessions) h
changes_leave w p (no_server n) new h = ap (λ (x : World). x.sessions) h
changes_leave w p (no_mapping n m) new h = ap (λ (x : World). x.sessions) h
changes_leave w p (no_table n) new h = ap (λ (x : World). x.sessions) h

-- a request of another session
turns_else : (w : World) (n sid : ℕ) (s : Session) (t : CursorTree) (reply : Reply) (new : World) → n ≢ sid → Turns w n s t reply new → new.sessions sid ≡ w.sessions sid
turns_else w n sid s (declare other (select q)) reply new apart h = ap (λ (x : World). x.sessions sid) h.1 ∙ set_else w n sid _ apart
turns_else w n sid s (fetch asked other) reply new apart h = ap (λ (x : World). x.sessions sid) h.2.3 ∙ set_else w n sid _ apart
turns_else w n sid s (close other) reply new apart h = ap (λ (x : World). x.sessions sid) h.1 ∙ set_else w n sid _ apart

written_else : (w : World) (sid : ℕ) (p : Pick) (t : WriteTree) (n : ℕ) (new : World) → WritesIn w p t n new → new.sessions sid ≡ w.sessions sid
written_else w sid p t n new (is_written h) = ap (λ (x : World). x.sessions sid) h.is
written_else w sid p t n new (is_unseen shares same) = ap (λ (x : World). x.sessions sid) same

tree_else : (w : World) (n sid : ℕ) (s : Session) (p : Pick) (tree : CommandTree) (reply : Reply) (new : World) → n ≢ sid → TreeDoes w n s p tree reply new → new.sessions sid ≡ w.sessions sid
tree_else w n sid s p (on_data (select q)) reply new apart h = ap (λ (x : World). x.sessions sid) h.1
tree_else w n sid s p (on_rows t) reply new apart h = written_else w sid p t h.0 new h.2
tree_else w n sid s p (on_cursors t) reply new apart h = turns_else w n sid s t reply new apart h
tree_else w n sid s p (on_objects d) reply new apart h = ap (λ (f : ℕ → Option Session). f sid) (changes_leave w p h.1.0 new h.1.2)

does_else : (w : World) (n sid : ℕ) (p : Pick) (request : AskedLine) (reply : Reply) (new : World) → n ≢ sid → Does w n p request reply new → new.sessions sid ≡ w.sessions sid
does_else w n sid p (opening user) reply new apart h = ap (λ (x : World). x.sessions sid) h.1 ∙ set_else w n sid _ apart
does_else w n sid p (sql text) reply new apart h = tree_else w n sid h.0 p h.1 reply new apart h.3
does_else w n sid p bye reply new apart h = ap (λ (x : World). x.sessions sid) h.1 ∙ set_else w n sid _ apart

loses_else : (w : World) (n sid : ℕ) (s : Session) (tree : CommandTree) (new : World) → n ≢ sid → Loses w n s tree new → new.sessions sid ≡ w.sessions sid
loses_else w n sid s (on_cursors (fetch asked other)) new apart h = ap (λ (x : World). x.sessions sid) h ∙ set_else w n sid _ apart
loses_else w n sid s (on_cursors (declare other q)) new apart h = ap (λ (x : World). x.sessions sid) h
loses_else w n sid s (on_cursors (close other)) new apart h = ap (λ (x : World). x.sessions sid) h
loses_else w n sid s (on_data q) new apart h = ap (λ (x : World). x.sessions sid) h
loses_else w n sid s (on_rows t) new apart h = ap (λ (x : World). x.sessions sid) h
loses_else w n sid s (on_objects d) new apart h = ap (λ (x : World). x.sessions sid) h

step_else : (w : World) (n sid : ℕ) (request : AskedLine) (t : Trouble) (reply : Reply) (new : World) → n ≢ sid → Step w n request t reply new → new.sessions sid ≡ w.sessions sid
step_else w n sid request t reply new apart (is_refused p c pick told is same) = ap (λ (x : World). x.sessions sid) same
step_else w n sid request t reply new apart (is_done p pick none does) = does_else w n sid p request reply new apart does
step_else w n sid request t reply new apart (lacks_memory m a takes is same) = ap (λ (x : World). x.sessions sid) same
step_else w n sid request t reply new apart (fetch_lacks_memory m a s asked name st is same) = ap (λ (x : World). x.sessions sid) same ∙ set_else w n sid _ apart
step_else w n sid request t reply new apart (source_fails f s tree st none is loses) = loses_else w n sid s tree new apart loses
step_else w n sid request t reply new apart (numbers_end f s tree st none may is same) = ap (λ (x : World). x.sessions sid) same
step_else w n sid request t reply new apart (shared_shows s tree c st rests may none is same) = ap (λ (x : World). x.sessions sid) same

-- ---- its own

has_same : (w new : World) (sid : ℕ) (name : Name) (o : Option Cursor) → new.sessions sid ≡ w.sessions sid → Has w sid name o → Has new sid name o
has_same w new sid name o same h = (h.0, same ∙ h.1, h.2)

-- one name or two
name_or : (other name : Name) → (other ≡ name) ⊎ (other ≢ name)
name_or other name = split (bytes_eq other name) refl
  where
    split : (b : Bool) → bytes_eq other name ≡ b → (other ≡ name) ⊎ (other ≢ name)
    split true e = inl (bytes_same other name e)
    split false e = inr (bytes_other other name e)

-- a session without a cursor of a name: this one is as before, or gone
lost : (w new : World) (sid : ℕ) (name other : Name) (e : Exchange) (o : Option Cursor) (s : Session) → Has w sid name o → w.sessions sid ≡ Some s
    → new ≡ with_session w sid (Some (without_cursor s other)) → PassesBy sid name e → Fares sid name e o new
lost w new sid name other e o s h at is by = split (name_or other name)
  where
    one : s ≡ h.0
    one = same_Some s h.0 (sym at ∙ h.1)

    there : new.sessions sid ≡ Some (without_cursor s other)
    there = ap (λ (x : World). x.sessions sid) is ∙ set_there w sid (Some (without_cursor s other))

    split : (other ≡ name) ⊎ (other ≢ name) → Fares sid name e o new
    split (inl same) = passes None (inr refl) by (without_cursor s other, there, ap (λ (n : Name). cursor_named name (without_cursor s n)) same ∙ gone name s.cursors)
    split (inr apart) = passes o (inl refl) by (without_cursor s other, there, left name other apart s.cursors ∙ ap (cursor_named name) one ∙ h.2)

-- what stays passes
stays : (w new : World) (sid : ℕ) (name : Name) (e : Exchange) (o : Option Cursor) → Has w sid name o → new.sessions sid ≡ w.sessions sid → PassesBy sid name e → Fares sid name e o new
stays w new sid name e o h same by = passes o (inl refl) by (has_same w new sid name o same h)

turns_fare : OneTree → (w new : World) (sid : ℕ) (name : Name) (e : Exchange) (o : Option Cursor) (query : List ℕ) (s : Session) (t : CursorTree) (reply : Reply) → Has w sid name o → w.sessions sid ≡ Some s
    → IsFrame e.text sid (sql query) → HasCommand query (on_cursors t) → e.reply ≡ reply_text sid reply → Turns w sid s t reply new → Fares sid name e o new
turns_fare law w new sid name e o query s (declare other (select q)) reply h at frame has told turns = split (name_or other name)
  where
    said : e.reply ≡ reply_text sid (done (codes "DECLARE CURSOR"))
    said = told ∙ ap (reply_text sid) turns.0

    there : new.sessions sid ≡ Some (with_cursor s (new_cursor w other q))
    there = ap (λ (x : World). x.sessions sid) turns.1 ∙ set_there w sid _

    split : (other ≡ name) ⊎ (other ≢ name) → Fares sid name e o new
    split (inl same) = ends (by_declare q (record { asks = (query, frame, subst (λ (n : Name). HasCommand query (on_cursors (declare n (select q)))) same has); told = said }))
    split (inr apart) = passes o (inl refl) (tree_passes law sid name e query (on_cursors (declare other (select q))) frame has apart)
        (with_cursor s (new_cursor w other q), there, finds_more name s.cursors (new_cursor w other q) (other_bytes other name apart) ∙ ap (cursor_named name) (same_Some s h.0 (sym at ∙ h.1)) ∙ h.2)
turns_fare law w new sid name e o query s (fetch asked other) reply h at frame has told turns = split (name_or other name)
  where
    one : s ≡ h.0
    one = same_Some s h.0 (sym at ∙ h.1)

    there : new.sessions sid ≡ Some (with_handed s other turns.2.0)
    there = ap (λ (x : World). x.sessions sid) turns.2.3 ∙ set_there w sid _

    split : (other ≡ name) ⊎ (other ≢ name) → Fares sid name e o new
    split (inl same) =
        let found : cursor_named name s ≡ Some turns.0 = subst (λ (n : Name). cursor_named n s ≡ Some turns.0) same turns.1 in
        gives turns.0 (sym h.2 ∙ ap (cursor_named name) (sym one) ∙ found) (record { asked = asked; rows = turns.2.0 })
        (record { asks = (query, frame, subst (λ (n : Name). HasCommand query (on_cursors (fetch asked n))) same has); told = told ∙ ap (reply_text sid) turns.2.2 })
        turns.2.1
        (with_handed s other turns.2.0, there, ap (λ (n : Name). cursor_named name (with_handed s n turns.2.0)) same ∙ handed_on name turns.2.0 s.cursors turns.0 found)
    split (inr apart) = passes o (inl refl) (tree_passes law sid name e query (on_cursors (fetch asked other)) frame has apart)
        (with_handed s other turns.2.0, there, handed_else name other turns.2.0 apart s.cursors ∙ ap (cursor_named name) one ∙ h.2)
turns_fare law w new sid name e o query s (close other) reply h at frame has told turns = split (name_or other name)
  where
    split : (other ≡ name) ⊎ (other ≢ name) → Fares sid name e o new
    split (inl same) = ends (by_close (query, frame, subst (λ (n : Name). HasCommand query (on_cursors (close n))) same has) (told ∙ ap (reply_text sid) turns.0))
    split (inr apart) = lost w new sid name other e o s h at turns.1 (tree_passes law sid name e query (on_cursors (close other)) frame has apart)

tree_fares : OneTree → (w new : World) (sid : ℕ) (name : Name) (e : Exchange) (o : Option Cursor) (query : List ℕ) (s : Session) (p : Pick) (tree : CommandTree) (reply : Reply) → Has w sid name o → w.sessions sid ≡ Some s
    → IsFrame e.text sid (sql query) → HasCommand query tree → e.reply ≡ reply_text sid reply → TreeDoes w sid s p tree reply new → Fares sid name e o new
tree_fares law w new sid name e o query s p (on_data (select q)) reply h at frame has told does = stays w new sid name e o h (ap (λ (x : World). x.sessions sid) does.1) (tree_passes law sid name e query (on_data (select q)) frame has (λ x. x))
tree_fares law w new sid name e o query s p (on_rows t) reply h at frame has told does = stays w new sid name e o h (written_else w sid p t does.0 new does.2) (tree_passes law sid name e query (on_rows t) frame has (λ x. x))
tree_fares law w new sid name e o query s p (on_cursors t) reply h at frame has told does = turns_fare law w new sid name e o query s t reply h at frame has told does
tree_fares law w new sid name e o query s p (on_objects d) reply h at frame has told does =
    stays w new sid name e o h (ap (λ (f : ℕ → Option Session). f sid) (changes_leave w p does.1.0 new does.1.2)) (tree_passes law sid name e query (on_objects d) frame has (λ x. x))

does_fares : OneTree → (w new : World) (sid : ℕ) (name : Name) (e : Exchange) (o : Option Cursor) (p : Pick) (request : AskedLine) (reply : Reply) → Has w sid name o → IsFrame e.text sid request → e.reply ≡ reply_text sid reply
    → NoneStands w sid p request → Does w sid p request reply new → Fares sid name e o new
does_fares law w new sid name e o p (opening user) reply h frame told none does = absurd (none Protocol (inl (refl, inl (subst (λ (x : Option Session). IsSome x) (sym h.1) refl))))
does_fares law w new sid name e o p (sql text) reply h frame told none does = tree_fares law w new sid name e o text does.0 p does.1 reply h does.2.0 frame does.2.1 told does.3
does_fares law w new sid name e o p bye reply h frame told none does = ends (by_bye frame (told ∙ ap (reply_text sid) does.0))

loses_fares : (w new : World) (sid : ℕ) (name : Name) (e : Exchange) (o : Option Cursor) (s : Session) (tree : CommandTree) → Has w sid name o → w.sessions sid ≡ Some s → Loses w sid s tree new → PassesBy sid name e → Fares sid name e o new
loses_fares w new sid name e o s (on_cursors (fetch asked other)) h at is by = lost w new sid name other e o s h at is by
loses_fares w new sid name e o s (on_cursors (declare other q)) h at is by = stays w new sid name e o h (ap (λ (x : World). x.sessions sid) is) by
loses_fares w new sid name e o s (on_cursors (close other)) h at is by = stays w new sid name e o h (ap (λ (x : World). x.sessions sid) is) by
loses_fares w new sid name e o s (on_data q) h at is by = stays w new sid name e o h (ap (λ (x : World). x.sessions sid) is) by
loses_fares w new sid name e o s (on_rows t) h at is by = stays w new sid name e o h (ap (λ (x : World). x.sessions sid) is) by
loses_fares w new sid name e o s (on_objects d) h at is by = stays w new sid name e o h (ap (λ (x : World). x.sessions sid) is) by

-- a statement's session
open_in : (w : World) (sid : ℕ) (request : AskedLine) (s : Session) (tree : CommandTree) → IsStatementOf w sid request s tree → w.sessions sid ≡ Some s
open_in w sid (opening user) s tree h = absurd h
open_in w sid (sql text) s tree h = h.0
open_in w sid bye s tree h = absurd h

own_fares : OneTree → (w new : World) (sid : ℕ) (name : Name) (e : Exchange) (o : Option Cursor) (request : AskedLine) (t : Trouble) (reply : Reply) → Has w sid name o → IsFrame e.text sid request → e.reply ≡ reply_text sid reply
    → Step w sid request t reply new → Fares sid name e o new
own_fares law w new sid name e o request t reply h frame told (is_refused p c pick is_told is same) =
    stays w new sid name e o h (ap (λ (x : World). x.sessions sid) same) (refused_passes sid name e c (told ∙ ap (reply_text sid) is))
own_fares law w new sid name e o request t reply h frame told (is_done p pick none does) = does_fares law w new sid name e o p request reply h frame told none does
own_fares law w new sid name e o request t reply h frame told (lacks_memory m a takes is same) =
    stays w new sid name e o h (ap (λ (x : World). x.sessions sid) same) (refused_passes sid name e OutOfMemory (told ∙ ap (reply_text sid) is))
own_fares law w new sid name e o request t reply h frame told (fetch_lacks_memory m a s asked other st is same) =
    lost w new sid name other e o s h (open_in w sid request s (on_cursors (fetch asked other)) st) same (refused_passes sid name e OutOfMemory (told ∙ ap (reply_text sid) is))
own_fares law w new sid name e o request t reply h frame told (source_fails f s tree st none is loses) =
    loses_fares w new sid name e o s tree h (open_in w sid request s tree st) loses (refused_passes sid name e SourceFault (told ∙ ap (reply_text sid) is))
own_fares law w new sid name e o request t reply h frame told (numbers_end f s tree st none may is same) =
    stays w new sid name e o h (ap (λ (x : World). x.sessions sid) same) (refused_passes sid name e LimitExceeded (told ∙ ap (reply_text sid) is))
own_fares law w new sid name e o request t reply h frame told (shared_shows s tree c st rests may none is same) =
    stays w new sid name e o h (ap (λ (x : World). x.sessions sid) same) (refused_passes sid name e c (told ∙ ap (reply_text sid) is))

pub step_fares : OneTree → (w new : World) (sid n : ℕ) (name : Name) (e : Exchange) (o : Option Cursor) (request : AskedLine) (t : Trouble) (reply : Reply) → Has w sid name o → IsFrame e.text n request → e.reply ≡ reply_text n reply
    → Step w n request t reply new → Fares sid name e o new
step_fares law w new sid n name e o request t reply h frame told step = split (eqb_tells n sid)
  where
    split : ((nat_eq n sid ≡ true) × (n ≡ sid)) ⊎ ((nat_eq n sid ≡ false) × (n ≢ sid)) → Fares sid name e o new
    split (inl same) =
        own_fares law w new sid name e o request t reply h (subst (λ (k : ℕ). IsFrame e.text k request) same.1 frame)
        (subst (λ (k : ℕ). e.reply ≡ reply_text k reply) same.1 told) (subst (λ (k : ℕ). Step w k request t reply new) same.1 step)
    split (inr apart) =
        stays w new sid name e o h (step_else w n sid request t reply new apart.1 step)
        (other_passes sid name e (λ asked f. apart.1 (one_frame e.text n sid request asked frame f).0))
