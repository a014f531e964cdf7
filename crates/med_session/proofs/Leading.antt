-- What the requests of an engine share: rows are replaced by want of memory.
use Rattle.std.proofs.lemmas.Bool.{false≢true}
use Rattle.std.proofs.Common.{◌≡◌, ℕ, Bool, true, false, String, Global, string_bytes, List, ◌++◌, codes, refl, subst}
use Rattle.med_value.specs.Datum.{Tuple}
use Rattle.med_value.specs.declared.cause.Cause.TheVariants.{OutOfMemory}
use Rattle.med_syntax.specs.Prelude.{Name, StatementTree, select, declare, fetch, close}
use Rattle.med_parser.specs.CommandTree.{CommandTree, on_data, on_rows, on_cursors, on_objects}
use Rattle.med_binder.specs.Looked.{query_in}
use Rattle.sql_meaning.specs.Prelude.{AskedLine, opening, sql, bye, World, Session, Pick, Reply, answered, refused, reply_text}
use Rattle.sql_meaning.specs.Steps.{Trouble, TakesMemory, TreeDoes, Does, Step, is_refused, is_done, lacks_memory, fetch_lacks_memory, source_fails, numbers_end, shared_shows}
use Rattle.med_world.specs.Prelude.{Shown, Agrees, TreeAsks, Leads, IsAnswered, IsRead}
use Rattle.med_statements.specs.declared.selecting.RowSet.{RowSet}
use Rattle.med_statements.specs.Outcomes.{RepliesRows, TellsReply, reply_of}
use Rattle.med_session.specs.Cursors.{IfFetched}
use Rattle.med_statements.specs.declared.replies.Outcome.{Outcome}
use Rattle.med_statements.specs.declared.replies.Outcome.TheVariants as outcome

-- ---- want of memory in place of rows

with_memory : Trouble → Trouble
with_memory t = record { memory = true; asked = false; source = t.source; numbers = t.numbers }

-- of those that answer by rows a query alone has this tag, and leaves all as it was
tree_rows : (w after : World) (sid : ℕ) (s : Session) (p : Pick) (tree : CommandTree) (names : List Name) (rows : List Tuple) → TreeDoes w sid s p tree (answered (codes "SELECT") names rows) after → after ≡ w
tree_rows w after sid s p (on_data (select q)) names rows d = d.1
tree_rows w after sid s p (on_rows t) names rows d = absurd (let e = d.1 in cc)
tree_rows w after sid s p (on_cursors (declare name (select q))) names rows d = absurd (let e = d.0 in cc)
tree_rows w after sid s p (on_cursors (fetch asked name)) names rows d = absurd (let e = d.2.2 in cc)
tree_rows w after sid s p (on_cursors (close name)) names rows d = absurd (let e = d.0 in cc)
tree_rows w after sid s p (on_objects x) names rows d = absurd (let e = d.0 in cc)

does_rows : (w after : World) (sid : ℕ) (p : Pick) (request : AskedLine) (names : List Name) (rows : List Tuple) → Does w sid p request (answered (codes "SELECT") names rows) after → TakesMemory request × (after ≡ w)
does_rows w after sid p (opening user) names rows d = absurd (let e = d.0 in cc)
does_rows w after sid p (sql text) names rows (s, tree, is, d) = (tt, tree_rows w after sid s p tree names rows d)
does_rows w after sid p bye names rows d = absurd (let e = d.0 in cc)

rows_refused : (w : World) (sid : ℕ) (request : AskedLine) (t : Trouble) (names : List Name) (rows : List Tuple) (after : World) (new : Shown) → Step w sid request t (answered (codes "SELECT") names rows) after → Agrees new after
    → (z : World) × Step w sid request (with_memory t) (refused OutOfMemory) z × Agrees new z
unfolding with_memory
rows_refused w sid request t names rows after new (is_refused p c picked told e same) a = absurd (cc)
rows_refused w sid request t names rows after new (is_done p picked none does) a =
    let d = does_rows w after sid p request names rows does in
    (w, lacks_memory refl refl d.0 refl refl, subst (λ (z : World). Agrees new z) d.1 a)
rows_refused w sid request t names rows after new (lacks_memory m asked takes e same) a = absurd (cc)
rows_refused w sid request t names rows after new (fetch_lacks_memory m asked s count name is e same) a = absurd (cc)
rows_refused w sid request t names rows after new (source_fails m s tree is before e loses) a = absurd (cc)
rows_refused w sid request t names rows after new (numbers_end m s tree is before may e same) a = absurd (cc)
rows_refused w sid request t names rows after new (shared_shows s tree c is rests may before e same) a = absurd (cc)

-- a statement that gave rows asked the boxes for no more than it may where it is refused
rows_asked : (e : Shown) (sid : ℕ) (tree : CommandTree) (tag : List ℕ) (names : List Name) (rows : List Tuple) (new : Shown) → TreeAsks e sid tree (answered tag names rows) new → TreeAsks e sid tree (refused OutOfMemory) new
rows_asked e sid (on_data (select q)) tag names rows new a = tt
rows_asked e sid (on_rows t) tag names rows new a = tt
rows_asked e sid (on_cursors (declare name (select q))) tag names rows new a = tt
rows_asked e sid (on_cursors (fetch asked name)) tag names rows new a = a.few
rows_asked e sid (on_cursors (close name)) tag names rows new a = tt
rows_asked e sid (on_objects d) tag names rows new a = tt

-- the rows of a query need not be told: then want of memory is
pub memory_told : (e new : Shown) (sid : ℕ) (request : AskedLine) (names : List Name) (rows : List Tuple) → Leads e sid request (answered (codes "SELECT") names rows) new → Leads e sid request (refused OutOfMemory) new
unfolding with_memory
memory_told e new sid request names rows h = record {
  trouble = with_memory h.trouble;
  befell = record { source = h.befell.source; numbers = h.befell.numbers };
  asked = λ x. absurd (false≢true x);
  rises = h.rises;
  asks = λ text tree is has. rows_asked e sid tree (codes "SELECT") names rows new (h.asks text tree is has);
  step = λ w a. let s = h.step w a in rows_refused w sid request h.trouble names rows s.0 new s.1 s.2;
}

-- ---- what was told, and what was not

pub not_told : (sid : ℕ) (meant : Reply) (b : Bool) (old out : List ℕ) → TellsReply sid meant b old out → b ≡ false → RepliesRows meant × (out ≡ old ++ reply_text sid (refused OutOfMemory))
not_told sid meant true old out t e = absurd cc
not_told sid meant false old out t e = t

-- of a query that is
pub rows_untold : (o : Outcome) → ((name : String Global) (set : RowSet) → o ≡ outcome.Fetched name set → ⊥) → RepliesRows (reply_of o) → (e new : Shown) (sid : ℕ) (request : AskedLine) → Leads e sid request (reply_of o) new → Leads e sid request (refused OutOfMemory) new
rows_untold outcome.Opened other has e new sid request h = absurd has
rows_untold outcome.Closed other has e new sid request h = absurd has
rows_untold (outcome.Changed d) other has e new sid request h = absurd has
rows_untold (outcome.Written word n) other has e new sid request h = absurd has
rows_untold (outcome.Rows set) other has e new sid request h = memory_told e new sid request _ _ h
rows_untold outcome.Declared other has e new sid request h = absurd has
rows_untold (outcome.Fetched name set) other has e new sid request h = absurd (other name set refl)
rows_untold outcome.Ended other has e new sid request h = absurd has
rows_untold (outcome.Refused c) other has e new sid request h = absurd has

-- and of a FETCH
pub of_fetch : (o : Outcome) (name : String Global) (set : RowSet) (P : Name → Type 0) → o ≡ outcome.Fetched name set → IfFetched o P → P (string_bytes name)
of_fetch o name set P is h = subst (λ (x : Outcome). IfFetched x P) is h

-- what was written is a reply that the request leads to
pub answers : (e new : Shown) (sid : ℕ) (request : AskedLine) (reply : Reply) (old out : List ℕ) → Leads e sid request reply new → out ≡ old ++ reply_text sid reply
    → (text : List ℕ) × (out ≡ old ++ text) × IsAnswered e sid request text new
answers e new sid request reply old out h is = (reply_text sid reply, is, record { reply = reply; is = refl; leads = h })

-- ---- a query that was read

same_query : (t : StatementTree) → t ≡ select (query_in t)
same_query (select q) = refl

pub read_query : (e : Shown) (sid : ℕ) (text : List ℕ) (user : Name) (t : StatementTree) → IsRead e sid text user (on_data t) → IsRead e sid text user (on_data (select (query_in t)))
read_query e sid text user t h = subst (λ (x : StatementTree). IsRead e sid text user (on_data x)) (same_query t) h
