-- A step leaves a table that an open cursor reads as it was, and so do all lines while the cursor is open.
use Rattle.std.proofs.Common.{◌≡◌, ◌≢◌, ℕ, zero, suc, ◌||◌, Bool, true, false, cond, if◌then◌else◌, List, [], ◌∷◌, ◌++◌, Option, Some, None, slice_get, map, Contains, refl, ap, sym, ◌∙◌, subst, inl, inr, bytes_eq}
use Rattle.std.specs.List.{list_any}
use Rattle.std.proofs.lemmas.Bool.{false≢true}
use Rattle.std.proofs.lemmas.Option.{same_Some}
use Rattle.med_value.specs.declared.cause.Cause.{Cause}
use Rattle.med_value.specs.declared.cause.Cause.TheVariants.{InUse}
use Rattle.med_syntax.specs.Prelude.{Name, EntryTree, SelectTree, select, CursorTree, declare, fetch, close, WriteTree, DdlTree, create_wrapper, create_server, create_mapping, create_table, drop_wrapper, drop_server, drop_table, drop_mapping}
use Rattle.fdw_api.specs.Kinds.{Held}
use Rattle.bind_write.specs.Meaning.{target_of}
use Rattle.med_catalog.specs.Prelude.{TableObject, Objects, DdlCauses, lease_rows, object_rows, ddl_rows, ObjectChange, nothing, new_wrapper, new_server, new_mapping, new_table, no_wrapper, no_server, no_mapping, no_table, without, is_skipped, Asks, skips, makes}
use Rattle.med_parser.specs.CommandTree.{CommandTree, on_data, on_rows, on_cursors, on_objects}
use Rattle.med_parser.specs.CommandGrammar.{HasCommand}
use Rattle.bind_names.specs.Scope.{query_entries}
use Rattle.sql_meaning.specs.Prelude.{AskedLine, opening, sql, bye, IsSid, World, Leased, Cursor, Session, cells_of, rows_named, reads_table, leases, is_leased, beside_without, rows_with, cursor_named, is_cursor, handing, Pick, Reply, NoneStands, TreeCauses}
use Rattle.sql_meaning.specs.Steps.{Trouble, new_cursor, Turns, Changes, TreeDoes, Does, Loses, WritesIn, is_written, is_unseen, shared_shows, Step, is_refused, is_done, lacks_memory, fetch_lacks_memory, source_fails, numbers_end}
use Rattle.med_world.proofs.Lists.{same_bytes, bytes_same, none_some}
use Rattle.med_world.proofs.NamedTables.{found_place, place_of, at_place}
use Rattle.med_world.proofs.Seats.{unleased}
use Rattle.session_wire.specs.Run.{IsAnswered}
use Rattle.session_wire.specs.Worlds.{Scene, SceneSteps}
use Rattle.session_wire.proofs.UniqueFrames.{one_frame}
use Rattle.session_wire.specs.Exchanges.{Exchange, Exchanged}
use Rattle.session_wire.specs.Fetching.{Declares}
use Rattle.session_wire.specs.Leases.{HasRowsIn, TableHasRows, NoneEnds, KeepsRows, KeepsLeased}
use Rattle.session_wire.proofs.Replying.{OneTree}
use Rattle.session_wire.proofs.Faring.{Has, Fares, passes, gives, ends}
use Rattle.session_wire.proofs.Joined.{answer_fares}
use Rattle.session_wire.proofs.Opened.{declared_has}

-- ---- an open cursor leases its tables

or_true : (a b : Bool) → b ≡ true → (a || b) ≡ true
or_true true b h = refl
or_true false b h = h

any_passes : {X : Type 0} (p : X → Bool) (xs : List X) (k : ℕ) (x : X) → slice_get xs k ≡ Some x → p x ≡ true → list_any p xs ≡ true
any_passes p [] k x at h = absurd cc
any_passes p (y ∷ ys) zero x at h = ap (λ (b : Bool). b || list_any p ys) (ap p (same_Some y x at) ∙ h)
any_passes p (y ∷ ys) (suc k) x at h = or_true (p y) (list_any p ys) (any_passes p ys k x at h)

leased_by : (w : World) (sid : ℕ) (s : Session) (name table : Name) (c : Cursor) → IsSid sid → w.sessions sid ≡ Some s → cursor_named name s ≡ Some c → reads_table table c ≡ true → is_leased w table ≡ true
leased_by w sid s name table c is at found reads = pick (is_leased w table) refl
  where
    leased : leases table (w.sessions sid) ≡ true
    leased =
        let p = found_place (is_cursor name) s.cursors c found in
        ap (leases table) at ∙ any_passes (reads_table table) s.cursors p.0 c p.1 reads

    pick : (b : Bool) → is_leased w table ≡ b → is_leased w table ≡ true
    pick true h = h
    pick false h = absurd (false≢true (sym (unleased w table sid h is) ∙ leased))

-- ---- lists of rows

written : (table target : Name) (rows now : List Held) → target ≢ table → (ts : List TableObject) (rs : List (List Held)) → HasRowsIn table rows ts rs → HasRowsIn table rows ts (rows_with target now ts rs)
written table target rows now apart [] rs h = absurd h
written table target rows now apart (t ∷ ts) [] h = absurd h
written table target rows now apart (t ∷ ts) (r ∷ rs) h = split (bytes_eq target t.name) refl h (written table target rows now apart ts rs)
  where
    split : (b : Bool) → bytes_eq target t.name ≡ b → HasRowsIn table rows (t ∷ ts) (r ∷ rs) → (HasRowsIn table rows ts rs → HasRowsIn table rows ts (rows_with target now ts rs))
        → HasRowsIn table rows (t ∷ ts) (cond b (now ∷ rs) (r ∷ rows_with target now ts rs))
    split true q (inl k) rest = absurd (apart (bytes_same target t.name q ∙ sym (bytes_same table t.name k.0)))
    split true q (inr k) rest = inr k
    split false q (inl k) rest = inl k
    split false q (inr k) rest = inr (k.0, rest k.1)

one_more : (table : Name) (rows now : List Held) (t : TableObject) (ts : List TableObject) (rs : List (List Held)) → HasRowsIn table rows ts rs → HasRowsIn table rows (ts ++ t ∷ []) (rs ++ now ∷ [])
one_more table rows now t [] rs h = absurd h
one_more table rows now t (x ∷ ts) [] h = absurd h
one_more table rows now t (x ∷ ts) (r ∷ rs) (inl k) = inl k
one_more table rows now t (x ∷ ts) (r ∷ rs) (inr k) = inr (k.0, one_more table rows now t ts rs k.1)

one_fewer : (table gone : Name) (rows : List Held) → gone ≢ table → (ts : List TableObject) (rs : List (List Held)) → HasRowsIn table rows ts rs
    → HasRowsIn table rows (without (λ (t : TableObject). bytes_eq gone t.name) ts) (beside_without gone ts rs)
one_fewer table gone rows apart [] rs h = absurd h
one_fewer table gone rows apart (t ∷ ts) [] h = absurd h
one_fewer table gone rows apart (t ∷ ts) (r ∷ rs) h = split (bytes_eq gone t.name) refl h (one_fewer table gone rows apart ts rs)
  where
    left : List TableObject
    left = without (λ (t : TableObject). bytes_eq gone t.name) ts

    split : (b : Bool) → bytes_eq gone t.name ≡ b → HasRowsIn table rows (t ∷ ts) (r ∷ rs) → (HasRowsIn table rows ts rs → HasRowsIn table rows left (beside_without gone ts rs))
        → HasRowsIn table rows (cond b ts (t ∷ left)) (cond b rs (r ∷ beside_without gone ts rs))
    split true q (inl k) rest = absurd (apart (bytes_same gone t.name q ∙ sym (bytes_same table t.name k.0)))
    split true q (inr k) rest = k.1
    split false q (inl k) rest = inl k
    split false q (inr k) rest = inr (k.0, rest k.1)

-- ---- a step

-- a table that is dropped is not leased
in_use : (o : Objects) (leased : Name → Bool) (user : Name) (b : Bool) (n : Name) → is_skipped o user (drop_table b n) ≡ false → leased n ≡ true → DdlCauses o leased user (drop_table b n) InUse
in_use o leased user b n skipped taken =
    at_place (ddl_rows o leased user (drop_table b n)) 2 (true, InUse)
    (ap (λ s. slice_get (if s then [] else object_rows o leased user (drop_table b n)) 1) skipped ∙ ap (λ r. slice_get (lease_rows r) 0) taken)

drops_free : (o : Objects) (leased : Name → Bool) (user : Name) (d : DdlTree) (name : Name) → ((c : Cause) → DdlCauses o leased user d c → ⊥) → Asks o user d (no_table name) → leased name ≡ true → ⊥
drops_free o leased user d name clear (skips s e) taken = absurd (cc)
drops_free o leased user (create_wrapper n h) name clear (makes s m) taken = absurd (let e = m.2 in cc)
drops_free o leased user (create_server x) name clear (makes s m) taken = absurd (let e = m.2 in cc)
drops_free o leased user (create_mapping x) name clear (makes s m) taken = absurd (let e = m.2 in cc)
drops_free o leased user (create_table x) name clear (makes s m) taken = absurd (let e = m.2 in cc)
drops_free o leased user (drop_wrapper b n) name clear (makes s m) taken = absurd (cc)
drops_free o leased user (drop_server b n) name clear (makes s m) taken = absurd (cc)
drops_free o leased user (drop_table b n) name clear (makes s m) taken = clear InUse (in_use o leased user b n s ((let same : n ≡ name = cc in ap leased same) ∙ taken))
drops_free o leased user (drop_mapping b w n) name clear (makes s m) taken = absurd (cc)

-- what is not leased is another table
apart_of : (w : World) (other table : Name) → is_leased w table ≡ true → (is_leased w other ≡ true → ⊥) → other ≢ table
apart_of w other table leased free same = free (ap (is_leased w) same ∙ leased)

by_same : (w new : World) (table : Name) (rows : List Held) → new ≡ w → TableHasRows w table rows → TableHasRows new table rows
by_same w new table rows is h = subst (λ (x : World). TableHasRows x table rows) (sym is) h

changes_keep : (w : World) (p : Pick) (change : ObjectChange) (new : World) (table : Name) (rows : List Held) → ((n : Name) → change ≡ no_table n → n ≢ table) → Changes w p change new → TableHasRows w table rows → TableHasRows new table rows
changes_keep w p nothing new table rows apart h has = subst (λ (x : World). TableHasRows x table rows) (sym h) has
changes_keep w p (new_wrapper x) new table rows apart h has = subst (λ (x : World). TableHasRows x table rows) (sym h) has
changes_keep w p (new_server x) new table rows apart h has = subst (λ (x : World). TableHasRows x table rows) (sym h) has
changes_keep w p (new_mapping n x) new table rows apart h has = subst (λ (x : World). TableHasRows x table rows) (sym h) has
changes_keep w p (new_table t) new table rows apart h has = subst (λ (x : World). TableHasRows x table rows) (sym h.2) (one_more table rows h.0 t w.catalog.tables w.rows has)
changes_keep w p (no_wrapper n) new table rows apart h has = subst (λ (x : World). TableHasRows x table rows) (sym h) has
changes_keep w p (no_server n) new table rows apart h has = subst (λ (x : World). TableHasRows x table rows) (sym h) has
changes_keep w p (no_mapping n m) new table rows apart h has = subst (λ (x : World). TableHasRows x table rows) (sym h) has
changes_keep w p (no_table n) new table rows apart h has = subst (λ (x : World). TableHasRows x table rows) (sym h) (one_fewer table n rows (apart n refl) w.catalog.tables w.rows has)

turns_keep : (w : World) (sid : ℕ) (s : Session) (t : CursorTree) (reply : Reply) (new : World) (table : Name) (rows : List Held) → Turns w sid s t reply new → TableHasRows w table rows → TableHasRows new table rows
turns_keep w sid s (declare name (select q)) reply new table rows h has = subst (λ (x : World). TableHasRows x table rows) (sym h.1) has
turns_keep w sid s (fetch asked name) reply new table rows h has = subst (λ (x : World). TableHasRows x table rows) (sym h.2.3) has
turns_keep w sid s (close name) reply new table rows h has = subst (λ (x : World). TableHasRows x table rows) (sym h.1) has

written_keeps : (w : World) (p : Pick) (t : WriteTree) (n : ℕ) (new : World) (table : Name) (rows : List Held) → target_of t ≢ table → WritesIn w p t n new → TableHasRows w table rows → TableHasRows new table rows
written_keeps w p t n new table rows apart (is_written h) has = subst (λ (x : World). TableHasRows x table rows) (sym h.is) (written table (target_of t) rows h.rows apart w.catalog.tables w.rows has)
written_keeps w p t n new table rows apart (is_unseen shares same) has = by_same w new table rows same has

tree_keeps : (w : World) (sid : ℕ) (s : Session) (p : Pick) (tree : CommandTree) (reply : Reply) (new : World) (table : Name) (rows : List Held) → is_leased w table ≡ true → ((c : Cause) → TreeCauses w s p tree c → ⊥)
    → TreeDoes w sid s p tree reply new → TableHasRows w table rows → TableHasRows new table rows
tree_keeps w sid s p (on_data (select q)) reply new table rows leased none does has = by_same w new table rows does.1 has
tree_keeps w sid s p (on_rows t) reply new table rows leased none does has =
    let apart = apart_of w (target_of t) table leased (λ taken. none InUse (inr (inr (inl (inl (refl, taken)))))) in
    written_keeps w p t does.0 new table rows apart does.2 has
tree_keeps w sid s p (on_cursors t) reply new table rows leased none does has = turns_keep w sid s t reply new table rows does has
tree_keeps w sid s p (on_objects d) reply new table rows leased none does has =
    changes_keep w p does.1.0 new table rows
    (λ n is. apart_of w n table leased (drops_free w.catalog (is_leased w) s.user d n (λ c x. none c (inl x)) (subst (Asks w.catalog s.user d) is does.1.1)))
    does.1.2 has

does_keeps : (w : World) (sid : ℕ) (p : Pick) (request : AskedLine) (reply : Reply) (new : World) (table : Name) (rows : List Held) → is_leased w table ≡ true → NoneStands w sid p request → Does w sid p request reply new
    → TableHasRows w table rows → TableHasRows new table rows
does_keeps w sid p (opening user) reply new table rows leased none does has = subst (λ (x : World). TableHasRows x table rows) (sym does.1) has
does_keeps w sid p (sql text) reply new table rows leased none does has =
    tree_keeps w sid does.0 p does.1 reply new table rows leased (λ c x. none c (inr (inr (does.0, does.1, does.2, x)))) does.3 has
does_keeps w sid p bye reply new table rows leased none does has = subst (λ (x : World). TableHasRows x table rows) (sym does.1) has

loses_keep : (w : World) (sid : ℕ) (s : Session) (tree : CommandTree) (new : World) (table : Name) (rows : List Held) → Loses w sid s tree new → TableHasRows w table rows → TableHasRows new table rows
loses_keep w sid s (on_cursors (fetch asked name)) new table rows is has = subst (λ (x : World). TableHasRows x table rows) (sym is) has
loses_keep w sid s (on_cursors (declare name q)) new table rows is has = by_same w new table rows is has
loses_keep w sid s (on_cursors (close name)) new table rows is has = by_same w new table rows is has
loses_keep w sid s (on_data q) new table rows is has = by_same w new table rows is has
loses_keep w sid s (on_rows t) new table rows is has = by_same w new table rows is has
loses_keep w sid s (on_objects d) new table rows is has = by_same w new table rows is has

step_keeps : (w new : World) (sid : ℕ) (request : AskedLine) (t : Trouble) (reply : Reply) (table : Name) (rows : List Held) → is_leased w table ≡ true → Step w sid request t reply new → TableHasRows w table rows → TableHasRows new table rows
step_keeps w new sid request t reply table rows leased (is_refused p c pick told is same) has = by_same w new table rows same has
step_keeps w new sid request t reply table rows leased (is_done p pick none does) has = does_keeps w sid p request reply new table rows leased none does has
step_keeps w new sid request t reply table rows leased (lacks_memory m a takes is same) has = by_same w new table rows same has
step_keeps w new sid request t reply table rows leased (fetch_lacks_memory m a s asked name st is same) has = subst (λ (x : World). TableHasRows x table rows) (sym same) has
step_keeps w new sid request t reply table rows leased (source_fails f s tree st none is loses) has = loses_keep w sid s tree new table rows loses has
step_keeps w new sid request t reply table rows leased (numbers_end f s tree st none may is same) has = by_same w new table rows same has
step_keeps w new sid request t reply table rows leased (shared_shows s tree c st rests may none is same) has = by_same w new table rows same has

answer_keeps : (old new : Scene) (e : Exchange) (table : Name) (rows : List Held) → is_leased old.world table ≡ true → IsAnswered SceneSteps old e.text e.reply new → TableHasRows old.world table rows → TableHasRows new.world table rows
answer_keeps old new e table rows leased (inl k) has = let t = k.3 in step_keeps old.world new.world k.0 k.1 t.0 t.3.0 table rows leased t.3.2 has
answer_keeps old new e table rows leased (inr k) has = subst (λ (s : Scene). TableHasRows s.world table rows) (sym k.2) has

-- ---- lines

-- a cursor that is gone stays so until another is declared
stays_gone : OneTree → (old new : Scene) (es : List Exchange) (sid : ℕ) (name : Name) → Exchanged SceneSteps old es new → NoneEnds sid name es → Has old.world sid name None → Has new.world sid name None
stays_gone law old new [] sid name x none h = subst (λ (s : Scene). Has s.world sid name None) (sym x) h
stays_gone law old new (e ∷ es) sid name x none h = split (answer_fares law old x.0 sid name e None h x.1) (stays_gone law x.0 new es sid name x.2 none.1)
  where
    split : Fares sid name e None x.0.world → (Has x.0.world sid name None → Has new.world sid name None) → Has new.world sid name None
    split (passes now (inl is) by there) rest = rest (subst (λ (o : Option Cursor). Has x.0.world sid name o) is there)
    split (passes now (inr is) by there) rest = rest (subst (λ (o : Option Cursor). Has x.0.world sid name o) is there)
    split (gives c is f rows fetches there) rest = absurd (none_some c None refl is)
    split (ends k) rest = absurd (none.0 k)

two_ways : (w : World) (sid : ℕ) (name : Name) (c : Cursor) → Has w sid name None → Has w sid name (Some c) → ⊥
two_ways w sid name c a b = none_some c (cursor_named name b.0) (ap (cursor_named name) (same_Some b.0 a.0 (sym b.1 ∙ a.1)) ∙ a.2) b.2

remain : OneTree → (old new : Scene) (es : List Exchange) (sid : ℕ) (name : Name) (c : Cursor) (table : Name) (rows : List Held) → IsSid sid → Exchanged SceneSteps old es new → NoneEnds sid name es → Has old.world sid name (Some c)
    → (d : Cursor) → Has new.world sid name (Some d) → reads_table table c ≡ true → TableHasRows old.world table rows → TableHasRows new.world table rows
remain law old new [] sid name c table rows is x none h d last reads has = subst (λ (s : Scene). TableHasRows s.world table rows) (sym x) has
remain law old new (e ∷ es) sid name c table rows is x none h d last reads has =
    split (answer_fares law old x.0 sid name e (Some c) h x.1)
    (λ now there r. remain law x.0 new es sid name now table rows is x.2 none.1 there d last r
    (answer_keeps old x.0 e table rows (leased_by old.world sid h.0 name table c is h.1 h.2 reads) x.1 has))
  where
    split : Fares sid name e (Some c) x.0.world → ((now : Cursor) → Has x.0.world sid name (Some now) → reads_table table now ≡ true → TableHasRows new.world table rows) → TableHasRows new.world table rows
    split (passes now (inl same) by there) rest = rest c (subst (λ (o : Option Cursor). Has x.0.world sid name o) same there) reads
    split (passes now (inr lost) by there) rest =
        absurd (two_ways new.world sid name d (stays_gone law x.0 new es sid name x.2 none.1 (subst (λ (o : Option Cursor). Has x.0.world sid name o) lost there)) last)
    split (gives b same f given fetches there) rest = rest (handing b f.rows) there (ap (reads_table table) (same_Some b c (sym same)) ∙ reads)
    split (ends k) rest = absurd (none.0 k)

pub stay : OneTree → (old new : Scene) (es : List Exchange) (sid : ℕ) (s : Session) (c : Cursor) → IsSid sid → Exchanged SceneSteps old es new → old.world.sessions sid ≡ Some s → cursor_named c.name s ≡ Some c → KeepsRows old es new sid c
stay law old new es sid s c is x at found = λ stays table rows reads has.
    let last = stays.there in
    remain law old new es sid c.name c table rows is x stays.none (s, at, found) last.cursor (last.session, last.at, last.is) reads has

-- ---- from a DECLARE on

-- it leaves the rows of all tables
declaring_keeps : OneTree → (w new : World) (sid : ℕ) (name : Name) (q : SelectTree) (query : List ℕ) (request : AskedLine) (t : Trouble) (reply : Reply) (table : Name) (rows : List Held) → request ≡ sql query
    → HasCommand query (on_cursors (declare name (select q))) → Step w sid request t reply new → TableHasRows w table rows → TableHasRows new table rows
declaring_keeps law w new sid name q query request t reply table rows asks command (is_refused p c pick told is same) has = by_same w new table rows same has
declaring_keeps law w new sid name q query request t reply table rows asks command (lacks_memory m a takes is same) has = by_same w new table rows same has
declaring_keeps law w new sid name q query request t reply table rows asks command (fetch_lacks_memory m a s asked other st is same) has = subst (λ (x : World). TableHasRows x table rows) (sym same) has
declaring_keeps law w new sid name q query request t reply table rows asks command (source_fails f s tree st none is loses) has = loses_keep w sid s tree new table rows loses has
declaring_keeps law w new sid name q query request t reply table rows asks command (numbers_end f s tree st none may is same) has = by_same w new table rows same has
declaring_keeps law w new sid name q query request t reply table rows asks command (shared_shows s tree c st rests may none is same) has = by_same w new table rows same has
declaring_keeps law w new sid name q query request t reply table rows asks command (is_done p pick none does) has =
    let d = subst (λ (r : AskedLine). Does w sid p r reply new) asks does in
    let same : d.1 ≡ on_cursors (declare name (select q)) = law query d.1 (on_cursors (declare name (select q))) d.2.1 command in
    turns_keep w sid d.0 (declare name (select q)) reply new table rows (subst (λ (tree : CommandTree). TreeDoes w sid d.0 p tree reply new) same d.3) has

declared_keeps : OneTree → (old new : Scene) (e : Exchange) (sid : ℕ) (name : Name) (q : SelectTree) (table : Name) (rows : List Held) → IsAnswered SceneSteps old e.text e.reply new → Declares sid name q e
    → TableHasRows old.world table rows → TableHasRows new.world table rows
declared_keeps law old new e sid name q table rows (inr k) d has = subst (λ (s : Scene). TableHasRows s.world table rows) (sym k.2) has
declared_keeps law old new e sid name q table rows (inl k) d has =
    let one = one_frame e.text k.0 sid k.1 (sql d.asks.0) k.2 d.asks.1 in
    let t = k.3 in
    declaring_keeps law old.world new.world k.0 name q d.asks.0 k.1 t.0 t.3.0 table rows one.1 d.asks.2 t.3.2 has

-- a leased table is one that the cursor reads
leased_reads : (c : Cursor) (l : Leased) → Contains c.reads l → reads_table l.table c ≡ true
leased_reads c l has =
    let p = place_of c.reads l has in
    any_passes (λ (x : Leased). bytes_eq l.table x.table) c.reads p.0 l p.1 (same_bytes l.table l.table refl)

-- the rows that a table has are those of its name
named_rows : (name : Name) (rows : List Held) (ts : List TableObject) (rs : List (List Held)) → HasRowsIn name rows ts rs → rows_named name ts rs ≡ rows
named_rows name rows [] rs h = absurd h
named_rows name rows (t ∷ ts) [] h = absurd h
named_rows name rows (t ∷ ts) (r ∷ rs) (inl k) = ap (λ (b : Bool). cond b r (rows_named name ts rs)) k.0 ∙ k.1
named_rows name rows (t ∷ ts) (r ∷ rs) (inr k) = ap (λ (b : Bool). cond b r (rows_named name ts rs)) k.0 ∙ named_rows name rows ts rs k.1

-- what DECLARE leases is the rows of the table of that name
abbrev leased_as : World → EntryTree → Leased
leased_as w e = record { table = e.table; rows = cells_of (rows_named e.table w.catalog.tables w.rows) }

rows_leased_now : (w : World) (es : List EntryTree) (k : ℕ) (l : Leased) → slice_get (map (leased_as w) es) k ≡ Some l → l.rows ≡ cells_of (rows_named l.table w.catalog.tables w.rows)
rows_leased_now w [] k l at = absurd cc
rows_leased_now w (e ∷ es) zero l at = subst (λ (x : Leased). x.rows ≡ cells_of (rows_named x.table w.catalog.tables w.rows)) (same_Some (leased_as w e) l at) refl
rows_leased_now w (e ∷ es) (suc k) l at = rows_leased_now w es k l at

pub stay_declared : OneTree → (old new : Scene) (e : Exchange) (es : List Exchange) (sid : ℕ) (name : Name) (q : SelectTree) → Exchanged SceneSteps old (e ∷ es) new → Declares sid name q e → KeepsLeased old es new sid (new_cursor old.world name q)
stay_declared law old new e es sid name q x d = λ stays l rows has stood.
    let h = declared_has law old x.0 e sid name q x.1 d in
    let c = new_cursor old.world name q in
    let frame = d.asks.1 in
    let p = place_of c.reads l has in (
      stay law x.0 new es sid h.0 c frame.1.0 x.2 h.1 h.2 stays l.table rows (leased_reads c l has) (declared_keeps law old x.0 e sid name q l.table rows x.1 d stood),
      rows_leased_now old.world (query_entries q) p.0 l p.1 ∙ ap cells_of (named_rows l.table rows old.world.catalog.tables old.world.rows stood),
    )
