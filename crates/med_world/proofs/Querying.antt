-- A query leads to its reply.
use Rattle.std.proofs.Common.{◌≡◌, ℕ, ◌≤◌, Bool, true, false, List, [], ◌∷◌, Option, Some, slice_get, map, codes, refl, ap, sym, ◌∙◌, subst, arith, inl, inr, zero, suc, IsPermutation}
use Rattle.std.proofs.lemmas.Bool.{false≢true}
use Rattle.std.proofs.lemmas.List.Sorted.{IsPermutation-refl, IsPermutation-map}
use Rattle.std.proofs.lemmas.Option.{same_Some}
use Rattle.med_value.specs.Prelude.{Tuple, phase_of}
use Rattle.med_value.specs.declared.cause.Cause.{Cause}
use Rattle.med_value.specs.declared.cause.Cause.TheVariants.{SourceFault, OutOfMemory}
use Rattle.med_syntax.specs.Prelude.{Name, SelectTree, select}
use Rattle.tri_expr.specs.declared.expr.Fault.TheVariants.{Range, Zero}
use Rattle.med_query.specs.Prelude.{Tables, SameRows, IsAnswer, IsShownCause}
use Rattle.fdw_api.specs.Prelude.{Held, held, is_of_run, TableRow, BoxState, is_honest, rows_of}
use Rattle.med_binder.specs.Prelude.{Place, QueryNames, QueryTypes, meant_by, IsBindable, NotBound, Attached, IsPlaceOf, ArePlaces}
use Rattle.med_planner.specs.Planned.{tuples_of, rows_shown, entry_rows}
use Rattle.med_exec.specs.Prelude.{BoxAt, SlotShows, HasFailed, HonestAt, HonestOver}
use Rattle.bind_names.specs.Meaning.{Meant}
use Rattle.med_catalog.specs.Prelude.{Objects, phase}
use Rattle.sql_meaning.specs.Prelude.{is_large_form, sql, no_pick, World, cells_of, rows_of_place, answered, refused}
use Rattle.med_parser.specs.CommandTree.{on_data}
use Rattle.sql_meaning.specs.Causes.{query_of, entry_tables, meant_over, entries_in, reads_shared, QueryState, QueryRun, SelectCauses, IsPickOf}
use Rattle.sql_meaning.specs.Steps.{Step, is_refused, is_done, source_fails}
use Rattle.med_world.specs.Engine.{Shown, IsSound, AreRowsOf, RowsAgree, Agrees, EachRises, Leads}
use Rattle.med_world.specs.Selecting.{Selects}
use Rattle.med_world.specs.Laws.{IsRead}
use Rattle.med_world.proofs.NamedTables.{place_of, at_place}
use Rattle.med_world.proofs.Sharing.{query_honest}
use Rattle.med_world.proofs.Faring.{none_rises}
use Rattle.med_world.proofs.Asks.{asks_refused, asks_read}
use Rattle.med_world.proofs.Told.{told_tree, none_tree, before_tree, pick_tree}
use Rattle.med_world.proofs.Leading.{calm, calm_befell, calm_unasked, session_in, known, leads_either, leads_refused, leads_memory, shared_step}

-- a cause of names or rights is of phase 3, and one of types of phase 4: laws of the binder
pub record ArePhased : Type 0 where
  pub names : (o : Objects) (user : Name) (q : SelectTree) (c : Cause) → QueryNames o user q c → phase c ≡ 3
  pub types : (o : Objects) (q : SelectTree) (c : Cause) → QueryTypes o q c → phase c ≡ 4

pub state_phase : (w : World) (q : SelectTree) (c : Cause) → QueryState w q c → phase c ≡ 5
state_phase w q c (many, e) = ap phase e

pub run_phase : (w : World) (q : SelectTree) (c : Cause) → QueryRun w q c → phase c ≡ 6
run_phase w q c (unshared, inl (Range, h, e)) = ap phase e
run_phase w q c (unshared, inl (Zero, h, e)) = ap phase e
run_phase w q c (unshared, inr (large, e)) = ap phase e

pub select_phase : ArePhased → (w : World) (user : Name) (q : SelectTree) (c : Cause) → SelectCauses w user q c → 3 ≤ phase c
select_phase law w user q c (inl h) = let p : phase c ≡ 3 = law.names w.catalog user q c h in omega arith
select_phase law w user q c (inr (inl h)) = let p : phase c ≡ 4 = law.types w.catalog q c h in omega arith
select_phase law w user q c (inr (inr (inl h))) = let p : phase c ≡ 5 = state_phase w q c h in omega arith
select_phase law w user q c (inr (inr (inr h))) = let p : phase c ≡ 6 = run_phase w q c h in omega arith

-- where nothing stands before it, a cause of a later phase is told
pub from_types : ArePhased → (w : World) (user : Name) (q : SelectTree) → ((d : Cause) → QueryNames w.catalog user q d → ⊥) → (c : Cause) → SelectCauses w user q c → 4 ≤ phase c
from_types law w user q names c (inl h) = absurd (names c h)
from_types law w user q names c (inr (inl h)) = let p : phase c ≡ 4 = law.types w.catalog q c h in omega arith
from_types law w user q names c (inr (inr (inl h))) = let p : phase c ≡ 5 = state_phase w q c h in omega arith
from_types law w user q names c (inr (inr (inr h))) = let p : phase c ≡ 6 = run_phase w q c h in omega arith

pub from_state : (w : World) (user : Name) (q : SelectTree) → IsBindable w.catalog user q → (c : Cause) → SelectCauses w user q c → 5 ≤ phase c
from_state w user q b c (inl h) = absurd (b.names c h)
from_state w user q b c (inr (inl h)) = absurd (b.types c h)
from_state w user q b c (inr (inr (inl h))) = let p : phase c ≡ 5 = state_phase w q c h in omega arith
from_state w user q b c (inr (inr (inr h))) = let p : phase c ≡ 6 = run_phase w q c h in omega arith

pub from_run : (w : World) (user : Name) (q : SelectTree) → IsBindable w.catalog user q → ((d : Cause) → QueryState w q d → ⊥) → (c : Cause) → SelectCauses w user q c → 6 ≤ phase c
from_run w user q b none c (inl h) = absurd (b.names c h)
from_run w user q b none c (inr (inl h)) = absurd (b.types c h)
from_run w user q b none c (inr (inr (inl h))) = absurd (none c h)
from_run w user q b none c (inr (inr (inr h))) = let p : phase c ≡ 6 = run_phase w q c h in omega arith

-- ---- the rows of the entries

cells_held : (rows : List TableRow) → cells_of (map held rows) ≡ map (λ (r : TableRow). r.cells) rows
cells_held [] = refl
cells_held (r ∷ rs) = ap (λ (xs : List Tuple). r.cells ∷ xs) (cells_held rs)

row_agrees : (boxes : List (Option BoxState)) (a : Attached) (rows : List Held) → AreRowsOf boxes a rows → BoxAt boxes a.source (λ s. is_honest s → IsPermutation (tuples_of s a.number) (cells_of rows))
row_agrees boxes a rows h = record {
  box = h.box;
  there = h.there;
  holds = λ honest. subst (λ (xs : List Tuple). IsPermutation xs (cells_of rows)) (cells_held (rows_of h.box a.number)) (IsPermutation-map (λ (x : Held). x.cells) (map held (rows_of h.box a.number)) rows (h.holds honest));
}

rows_agree : (boxes : List (Option BoxState)) (bound : List Attached) (rows : List (List Held)) (k : ℕ) (a : Attached) → RowsAgree boxes bound rows → slice_get bound k ≡ Some a → BoxAt boxes a.source (λ s. is_honest s → IsPermutation (tuples_of s a.number) (rows_of_place rows k))
rows_agree boxes [] [] k a h at = absurd cc
rows_agree boxes [] (r ∷ rs) k a h at = absurd h
rows_agree boxes (b ∷ bs) [] k a h at = absurd h
rows_agree boxes (b ∷ bs) (r ∷ rs) zero a h at = subst (λ (x : Attached). BoxAt boxes x.source (λ s. is_honest s → IsPermutation (tuples_of s x.number) (cells_of r))) (same_Some b a at) (row_agrees boxes b r h.0)
rows_agree boxes (b ∷ bs) (r ∷ rs) (suc k) a h at = rows_agree boxes bs rs k a h.1 at

place_rows : (boxes : List (Option BoxState)) (bound : List Attached) (rows : List (List Held)) (k : ℕ) (p : Place) → HonestAt boxes p.source → RowsAgree boxes bound rows → IsPlaceOf bound k p → IsPermutation (rows_shown (slice_get boxes p.source) p.table) (rows_of_place rows k)
place_rows boxes bound rows k p honest h i =
    let b = rows_agree boxes bound rows k i.at h i.there in
    let is : rows_shown (slice_get boxes p.source) p.table ≡ tuples_of b.box i.at.number =
    ap (λ (s : ℕ). rows_shown (slice_get boxes s) p.table) i.source ∙ ap (λ (o : Option (Option BoxState)). rows_shown o p.table) b.there ∙ ap (λ (t : ℕ). tuples_of b.box t) i.number in
    subst (λ (xs : List Tuple). IsPermutation xs (rows_of_place rows k)) (sym is) (b.holds (honest b.box (ap (slice_get boxes) i.source ∙ b.there)))

pub entries_agree : (boxes : List (Option BoxState)) (bound : List Attached) (rows : List (List Held)) (ks : List ℕ) (ps : List Place) → HonestOver ps boxes → RowsAgree boxes bound rows → ArePlaces bound ks ps → SameRows (entry_rows boxes ps) (entry_tables ks (rows_of_place rows))
entries_agree boxes bound rows [] [] honest h is t = IsPermutation-refl []
entries_agree boxes bound rows [] (p ∷ ps) honest h is t = absurd is
entries_agree boxes bound rows (k ∷ ks) [] honest h is t = absurd is
entries_agree boxes bound rows (k ∷ ks) (p ∷ ps) honest h is zero = place_rows boxes bound rows k p (honest p.source (zero, omega arith, refl)) h is.0
entries_agree boxes bound rows (k ∷ ks) (p ∷ ps) honest h is (suc t) = entries_agree boxes bound rows ks ps (λ slot has. honest slot (let at = place_of (map (λ (x : Place). x.source) ps) slot has in at_place (p.source ∷ map (λ (x : Place). x.source) ps) (suc at.0) slot at.1)) h is.1 t

-- ---- in a world that agrees

pub bindable_in : (e : Shown) (w : World) (user : Name) (q : SelectTree) → Agrees e w → IsBindable e.catalog user q → IsBindable w.catalog user q
bindable_in e w user q a h = subst (λ (o : Objects). IsBindable o user q) (sym a.catalog) h

pub same_meant : (e : Shown) (w : World) (q : SelectTree) → Agrees e w → meant_by e.catalog q ≡ meant_over w q
same_meant e w q a = ap (λ (o : Objects). meant_by o q) (sym a.catalog)

pub same_entries : (e : Shown) (w : World) (q : SelectTree) (places : List Place) → Agrees e w → ArePlaces e.bound (meant_by e.catalog q).entries places → HonestOver places e.boxes → SameRows (entry_rows e.boxes places) (entry_tables (meant_by e.catalog q).entries (rows_of_place w.rows))
same_entries e w q places a are honest = entries_agree e.boxes e.bound w.rows (meant_by e.catalog q).entries places honest a.rows are

pub none_many : (e : Shown) (w : World) (q : SelectTree) → Agrees e w → is_large_form (meant_by e.catalog q).form ≡ false → (d : Cause) → QueryState w q d → ⊥
none_many e w q a few d h = false≢true (sym (subst (λ (m : Meant). is_large_form m.form ≡ false) (same_meant e w q a) few) ∙ h.0)

abbrev pub ShowsIn : World → Meant → Cause → Type 0
ShowsIn w m c = IsShownCause (query_of m) (entry_tables m.entries (rows_of_place w.rows)) c

none_runs : (e new : Shown) (w : World) (user : Name) (q : SelectTree) (names : List Name) (given : List Tuple) → IsSound e → Agrees e w → Selects e.catalog user e.bound q e.boxes names given new.boxes → (d : Cause) → QueryRun w q d → ⊥
none_runs e new w user q names given sound a h d (unshared, x) =
    let honest = query_honest e w q h.places sound a unshared h.are in
    subst (λ (m : Meant). (d : Cause) → ShowsIn w m d → ⊥) (same_meant e w q a)
    (h.answers.clear honest (entry_tables (meant_by e.catalog q).entries (rows_of_place w.rows)) (same_entries e w q h.places a h.are honest)) d x

answers_in : (e new : Shown) (w : World) (user : Name) (q : SelectTree) (names : List Name) (given : List Tuple) → IsSound e → Agrees e w → Selects e.catalog user e.bound q e.boxes names given new.boxes → reads_shared w q ≡ false → IsAnswer (query_of (meant_over w q)) (entries_in w q) given
answers_in e new w user q names given sound a h unshared =
    let honest = query_honest e w q h.places sound a unshared h.are in
    subst (λ (m : Meant). IsAnswer (query_of m) (entry_tables m.entries (rows_of_place w.rows)) given) (same_meant e w q a)
    (h.answers.answers honest (entry_tables (meant_by e.catalog q).entries (rows_of_place w.rows)) (same_entries e w q h.places a h.are honest))

pub none_select : (w : World) (user : Name) (q : SelectTree) → IsBindable w.catalog user q → ((d : Cause) → QueryState w q d → ⊥) → ((d : Cause) → QueryRun w q d → ⊥) → (d : Cause) → SelectCauses w user q d → ⊥
none_select w user q b states runs d (inl h) = b.names d h
none_select w user q b states runs d (inr (inl h)) = b.types d h
none_select w user q b states runs d (inr (inr (inl h))) = states d h
none_select w user q b states runs d (inr (inr (inr h))) = runs d h

pub picks_none : (e : Shown) (w : World) (sid : ℕ) (text : List ℕ) (user : Name) (q : SelectTree) → Agrees e w → IsRead e sid text user (on_data (select q)) → IsPickOf w sid (sql text) no_pick
picks_none e w sid text user q a read = pick_tree w sid no_pick text (session_in w sid user) (on_data (select q)) (known e w sid text user (on_data (select q)) a read) tt

-- The query is answered. `kept` and `rises` are what serving a run leaves of worlds and boxes.
pub selects_leads : (e new : Shown) (sid : ℕ) (text : List ℕ) (user : Name) (q : SelectTree) (names : List Name) (given : List Tuple) → IsRead e sid text user (on_data (select q)) → IsSound e → Selects e.catalog user e.bound q e.boxes names given new.boxes
    → EachRises e.boxes new.boxes → ((w : World) → Agrees e w → Agrees new w) → Leads e sid (sql text) (answered (codes "SELECT") names given) new
selects_leads e new sid text user q names given read sound h rises kept = record {
  trouble = calm;
  befell = calm_befell e.boxes new.boxes;
  asked = λ x. absurd (calm_unasked x);
  rises = rises;
  asks = asks_read e sid text user (on_data (select q)) (answered (codes "SELECT") names given) new read
      (record { once = record { places = h.places; are = h.are; reads = h.reads }; pulls = h.pulls });
  step = λ w a. (
    w,
    is_done no_pick (picks_none e w sid text user q a read)
        (none_tree w sid no_pick text (session_in w sid user) (on_data (select q)) (known e w sid text user (on_data (select q)) a read)
        (none_select w user q (bindable_in e w user q a h.bindable) (none_many e w q a h.few) (none_runs e new w user q names given sound a h))) (
          session_in w sid user,
          on_data (select q),
          (known e w sid text user (on_data (select q)) a read).is,
          ((given, answers_in e new w user q names given sound a h, ap (λ (ns : List Name). answered (codes "SELECT") ns given) (h.named ∙ ap (λ (m : Meant). m.names) (same_meant e w q a))), refl),
        ),
    kept w a,
  );
}

-- one that is not bound
pub not_bound_leads : ArePhased → (e : Shown) (sid : ℕ) (text : List ℕ) (user : Name) (q : SelectTree) (c : Cause) → IsRead e sid text user (on_data (select q)) → NotBound e.catalog user q c → Leads e sid (sql text) (refused c) e
not_bound_leads law e sid text user q c read (inl is) = subst (λ (d : Cause). Leads e sid (sql text) (refused d) e) (sym is) (leads_memory e e sid (sql text) (asks_refused e sid (sql text) OutOfMemory e refl) tt (none_rises e.boxes) (λ w a. a))
not_bound_leads law e sid text user q c read (inr (inl h)) = leads_refused e e sid (sql text) c (asks_refused e sid (sql text) c e refl) (none_rises e.boxes) (λ w a. a) (λ w a. (
  no_pick,
  picks_none e w sid text user q a read,
  told_tree w sid no_pick text (session_in w sid user) (on_data (select q)) c (known e w sid text user (on_data (select q)) a read) (inl (subst (λ (o : Objects). QueryNames o user q c) (sym a.catalog) h))
      (λ d x. let p : phase c ≡ 3 = law.names e.catalog user q c h in let r : 3 ≤ phase d = select_phase law w user q d x in omega arith),
))
not_bound_leads law e sid text user q c read (inr (inr (h, none))) = leads_refused e e sid (sql text) c (asks_refused e sid (sql text) c e refl) (none_rises e.boxes) (λ w a. a) (λ w a. (
  no_pick,
  picks_none e w sid text user q a read,
  told_tree w sid no_pick text (session_in w sid user) (on_data (select q)) c (known e w sid text user (on_data (select q)) a read) (inr (inl (subst (λ (o : Objects). QueryTypes o q c) (sym a.catalog) h)))
      (λ d x. let p : phase c ≡ 4 = law.types e.catalog q c h in
      let r : 4 ≤ phase d = from_types law w user q (subst (λ (o : Objects). (y : Cause) → QueryNames o user q y → ⊥) (sym a.catalog) none) d x in omega arith),
))

-- one whose run shows a cause
pub shows_run_leads : (e new : Shown) (sid : ℕ) (text : List ℕ) (user : Name) (q : SelectTree) (places : List Place) (c : Cause) → IsRead e sid text user (on_data (select q)) → IsSound e → IsBindable e.catalog user q → is_large_form (meant_by e.catalog q).form ≡ false
    → ArePlaces e.bound (meant_by e.catalog q).entries places → is_of_run (phase_of c) ≡ true → (HonestOver places e.boxes → (db : Tables) → SameRows (entry_rows e.boxes places) db → IsShownCause (query_of (meant_by e.catalog q)) db c)
    → EachRises e.boxes new.boxes → ((w : World) → Agrees e w → Agrees new w) → Leads e sid (sql text) (refused c) new
shows_run_leads e new sid text user q places c read sound b few are of_run h rises kept =
    leads_either e new sid (sql text) c (asks_read e sid text user (on_data (select q)) (refused c) new read tt) rises kept (λ w a. by w a (reads_shared w q) refl)
  where
    late : (w : World) → Agrees e w → (d : Cause) → SelectCauses w user q d → 6 ≤ phase d
    late w a d x = from_run w user q (bindable_in e w user q a b) (none_many e w q a few) d x

    by : (w : World) → Agrees e w → (r : Bool) → reads_shared w q ≡ r → Step w sid (sql text) calm (refused c) w
    by w a true shares = shared_step w sid text (session_in w sid user) (on_data (select q)) c (known e w sid text user (on_data (select q)) a read) shares of_run (λ p d x. let r : 6 ≤ phase d = late w a d x in omega arith)
    by w a false unshared =
        let honest = query_honest e w q places sound a unshared are in
        let run : QueryRun w q c = (unshared, subst (λ (m : Meant). ShowsIn w m c) (same_meant e w q a) (h honest (entry_tables (meant_by e.catalog q).entries (rows_of_place w.rows)) (same_entries e w q places a are honest))) in
        is_refused no_pick c (picks_none e w sid text user q a read)
        (told_tree w sid no_pick text (session_in w sid user) (on_data (select q)) c (known e w sid text user (on_data (select q)) a read) (inr (inr (inr run)))
        (λ d x. let p : phase c ≡ 6 = run_phase w q c run in let r : 6 ≤ phase d = late w a d x in omega arith)) refl refl

-- one for which a source failed
pub fails_leads : (e new : Shown) (sid : ℕ) (text : List ℕ) (user : Name) (q : SelectTree) → IsRead e sid text user (on_data (select q)) → IsBindable e.catalog user q → SlotShows e.boxes new.boxes HasFailed
    → EachRises e.boxes new.boxes → ((w : World) → Agrees e w → Agrees new w) → Leads e sid (sql text) (refused SourceFault) new
fails_leads e new sid text user q read b h rises kept = record {
  trouble = record { memory = false; asked = false; source = true; numbers = false };
  befell = record {
    source = λ x. h;
    numbers = λ x. absurd (false≢true x);
  };
  asked = λ x. absurd (false≢true x);
  rises = rises;
  asks = asks_read e sid text user (on_data (select q)) (refused SourceFault) new read tt;
  step = λ w a. (
    w,
    source_fails refl (session_in w sid user) (on_data (select q)) (known e w sid text user (on_data (select q)) a read).is
        (before_tree w sid text (session_in w sid user) (on_data (select q)) (known e w sid text user (on_data (select q)) a read) (λ p d x. let r : 5 ≤ phase d = from_state w user q (bindable_in e w user q a b) d x in omega arith)) refl refl,
    kept w a,
  );
}
