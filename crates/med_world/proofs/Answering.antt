-- A statement that is not read, and a query, lead to their replies, and leave an engine sound.
use Rattle.std.proofs.Common.{◌≡◌, ℕ, ◌≤◌, ◌⊎◌, true, false, List, Option, is_some, codes, refl, ap, sym, subst, arith, inl, inr}
use Rattle.std.proofs.lemmas.Bool.{false≢true}
use Rattle.med_value.specs.Datum.{Tuple}
use Rattle.med_value.specs.declared.cause.Cause.{Cause}
use Rattle.med_value.specs.declared.cause.Cause.TheVariants.{LimitExceeded, OutOfMemory, NoConnection}
use Rattle.med_syntax.specs.Prelude.{Name, SelectTree, select}
use Rattle.med_parser.specs.CommandTree.{on_data, on_rows, on_cursors, on_objects}
use Rattle.med_parser.specs.CommandCauses.{SyntaxCauses}
use Rattle.fdw_api.specs.State.{BoxState}
use Rattle.med_binder.specs.Prelude.{Place, meant_by, IsBindable, ArePlaces}
use Rattle.med_exec.specs.Running.{AllServed, SlotShows, IsUsedUp}
use Rattle.bind_names.specs.Meaning.{Meant}
use Rattle.sql_meaning.specs.Prelude.{is_large_form, sql, IsSid, no_pick, World, query_of, Reply, answered, refused, numbers_end}
use Rattle.med_world.specs.Engine.{Shown, IsSound, Agrees, Leads}
use Rattle.med_world.specs.Selecting.{Selects, SelectFails, not_bound, too_many, run_fails}
use Rattle.med_world.specs.Starting.{RunFails, no_memory, box_fails, numbers_out, shows_cause}
use Rattle.med_world.specs.Seats.{user_of}
use Rattle.med_world.specs.Laws.{IsRead, with_boxes}
use Rattle.med_world.proofs.Faring.{none_rises}
use Rattle.med_world.proofs.Asks.{asks_refused, asks_read}
use Rattle.med_world.proofs.Told.{AreLater, told_tree, before_tree, told_syntax, told_closed}
use Rattle.med_world.proofs.Objecting.{AreObjects, object_phase}
use Rattle.med_world.proofs.Leading.{session_in, known, leads_refused, leads_memory}
use Rattle.med_world.proofs.Querying.{ArePhased, select_phase, from_state, bindable_in, same_meant, picks_none, selects_leads, not_bound_leads, shows_run_leads, fails_leads}
use Rattle.med_world.proofs.CursorCausing.{cursor_phase}
use Rattle.med_world.proofs.RowCausing.{WritesPhased, row_phase}
use Rattle.med_world.proofs.Serving.{serving_rises, serving_agrees, serving_sound}
use Rattle.med_world.proofs.Sessions.{is_open_by, is_closed_by}
use Rattle.med_catalog.specs.DdlCauses.{phase}

-- ---- a text that is not read

-- what a tree shows is of phase 3 and later
pub tree_later : AreObjects → ArePhased → WritesPhased → AreLater
tree_later objects queries writes w s p (on_data (select q)) c h = select_phase queries w s.user q c h
tree_later objects queries writes w s p (on_rows t) c h = row_phase writes w s.user p t c h
tree_later objects queries writes w s p (on_cursors t) c h = cursor_phase queries w s t c h
tree_later objects queries writes w s p (on_objects d) c h = object_phase objects w s.user p d c h

lacks : (e : Shown) (sid : ℕ) (text : List ℕ) (c : Cause) → c ≡ OutOfMemory → Leads e sid (sql text) (refused c) e
lacks e sid text c is = subst (λ (d : Cause). Leads e sid (sql text) (refused d) e) (sym is) (leads_memory e e sid (sql text) (asks_refused e sid (sql text) OutOfMemory e refl) tt (none_rises e.boxes) (λ w a. a))

-- ---- a query

pub selects : (e : Shown) (new : List (Option BoxState)) (sid : ℕ) (text : List ℕ) (user : Name) (q : SelectTree) (names : List Name) (given : List Tuple) → IsRead e sid text user (on_data (select q)) → IsSound e
    → Selects e.catalog user e.bound q e.boxes names given new → Leads e sid (sql text) (answered (codes "SELECT") names given) (with_boxes e new)
selects e new sid text user q names given read sound h =
    selects_leads e (with_boxes e new) sid text user q names given read sound h (serving_rises e.boxes new h.served) (serving_agrees e new h.served)

back_to : (e : Shown) (new : List (Option BoxState)) (sid : ℕ) (text : List ℕ) (r : Reply) → new ≡ e.boxes → Leads e sid (sql text) r e → Leads e sid (sql text) r (with_boxes e new)
back_to e new sid text r same h = subst (λ (x : List (Option BoxState)). Leads e sid (sql text) r (with_boxes e x)) (sym same) h

-- one that is larger than it may be
many_leads : ArePhased → (e : Shown) (sid : ℕ) (text : List ℕ) (user : Name) (q : SelectTree) → IsRead e sid text user (on_data (select q)) → IsBindable e.catalog user q → is_large_form (meant_by e.catalog q).form ≡ true
    → Leads e sid (sql text) (refused LimitExceeded) e
many_leads law e sid text user q read b many = leads_refused e e sid (sql text) LimitExceeded (asks_refused e sid (sql text) LimitExceeded e refl) (none_rises e.boxes) (λ w a. a) (λ w a. (
  no_pick,
  picks_none e w sid text user q a read,
  told_tree w sid no_pick text (session_in w sid user) (on_data (select q)) LimitExceeded (known e w sid text user (on_data (select q)) a read)
      (inr (inr (inl (subst (λ (m : Meant). is_large_form m.form ≡ true) (same_meant e w q a) many, refl))))
      (λ d x. from_state w user q (bindable_in e w user q a b) d x),
))

-- one in which a box has given all its ticket numbers
ends_leads : (e new : Shown) (sid : ℕ) (text : List ℕ) (user : Name) (q : SelectTree) → IsRead e sid text user (on_data (select q)) → IsBindable e.catalog user q → AllServed e.boxes new.boxes → SlotShows e.boxes new.boxes IsUsedUp
    → ((w : World) → Agrees e w → Agrees new w) → Leads e sid (sql text) (refused LimitExceeded) new
ends_leads e new sid text user q read b served h kept = record {
  trouble = record { memory = false; asked = false; source = false; numbers = true };
  befell = record {
    source = λ x. absurd (false≢true x);
    numbers = λ x. h;
  };
  asked = λ x. absurd (false≢true x);
  rises = serving_rises e.boxes new.boxes served;
  asks = asks_read e sid text user (on_data (select q)) (refused LimitExceeded) new read tt;
  step = λ w a. (
    w,
    numbers_end refl (session_in w sid user) (on_data (select q)) (known e w sid text user (on_data (select q)) a read).is
        (before_tree w sid text (session_in w sid user) (on_data (select q)) (known e w sid text user (on_data (select q)) a read) (λ p d x. let r : 5 ≤ phase d = from_state w user q (bindable_in e w user q a b) d x in omega arith)) tt refl refl,
    kept w a,
  );
}

run_leads : ArePhased → (e : Shown) (new : List (Option BoxState)) (sid : ℕ) (text : List ℕ) (user : Name) (q : SelectTree) (places : List Place) (c : Cause) → IsRead e sid text user (on_data (select q)) → IsSound e → IsBindable e.catalog user q
    → is_large_form (meant_by e.catalog q).form ≡ false → AllServed e.boxes new → ArePlaces e.bound (meant_by e.catalog q).entries places → RunFails (query_of (meant_by e.catalog q)) places c e.boxes new
    → Leads e sid (sql text) (refused c) (with_boxes e new)
run_leads law e new sid text user q places c read sound b few served are (no_memory is) =
    subst (λ (d : Cause). Leads e sid (sql text) (refused d) (with_boxes e new)) (sym is) (leads_memory e (with_boxes e new) sid (sql text) (asks_read e sid text user (on_data (select q)) (refused OutOfMemory) (with_boxes e new) read tt) tt (serving_rises e.boxes new served) (serving_agrees e new served))
run_leads law e new sid text user q places c read sound b few served are (box_fails is h) =
    subst (λ (d : Cause). Leads e sid (sql text) (refused d) (with_boxes e new)) (sym is) (fails_leads e (with_boxes e new) sid text user q read b h (serving_rises e.boxes new served) (serving_agrees e new served))
run_leads law e new sid text user q places c read sound b few served are (numbers_out is h) =
    subst (λ (d : Cause). Leads e sid (sql text) (refused d) (with_boxes e new)) (sym is) (ends_leads e (with_boxes e new) sid text user q read b served h (serving_agrees e new served))
run_leads law e new sid text user q places c read sound b few served are (shows_cause of_run h) =
    shows_run_leads e (with_boxes e new) sid text user q places c read sound b few are of_run h (serving_rises e.boxes new served) (serving_agrees e new served)

pub select_fails : ArePhased → (e : Shown) (new : List (Option BoxState)) (sid : ℕ) (text : List ℕ) (user : Name) (q : SelectTree) (c : Cause) → IsRead e sid text user (on_data (select q)) → IsSound e → SelectFails e.catalog user e.bound q e.boxes c new
    → Leads e sid (sql text) (refused c) (with_boxes e new)
select_fails law e new sid text user q c read sound (not_bound why same) = back_to e new sid text (refused c) same (not_bound_leads law e sid text user q c read why)
select_fails law e new sid text user q c read sound (too_many b many is same) =
    back_to e new sid text (refused c) same (subst (λ (d : Cause). Leads e sid (sql text) (refused d) e) (sym is) (many_leads law e sid text user q read b many))
select_fails law e new sid text user q c read sound (run_fails b few served places are h) = run_leads law e new sid text user q places c read sound b few served are h

-- soundness
pub selects_sound : (e : Shown) (new : List (Option BoxState)) (user : Name) (q : SelectTree) (names : List Name) (given : List Tuple) → IsSound e → Selects e.catalog user e.bound q e.boxes names given new → IsSound (with_boxes e new)
selects_sound e new user q names given sound h = serving_sound e new h.served sound

pub fails_sound : (e : Shown) (new : List (Option BoxState)) (user : Name) (q : SelectTree) (c : Cause) → IsSound e → SelectFails e.catalog user e.bound q e.boxes c new → IsSound (with_boxes e new)
fails_sound e new user q c sound (not_bound why same) = subst (λ (x : List (Option BoxState)). IsSound (with_boxes e x)) (sym same) sound
fails_sound e new user q c sound (too_many b many is same) = subst (λ (x : List (Option BoxState)). IsSound (with_boxes e x)) (sym same) sound
fails_sound e new user q c sound (run_fails b few served places are h) = serving_sound e new served sound

-- ---- a statement of a closed session, or a text that is no statement

pub not_read : AreLater → (e : Shown) (sid : ℕ) (text : List ℕ) (c : Cause) → IsSid sid → is_some (user_of e.seats sid) ≡ true → (c ≡ OutOfMemory) ⊎ SyntaxCauses text c → Leads e sid (sql text) (refused c) e
not_read law e sid text c is_sid is_open (inl is) = lacks e sid text c is
not_read law e sid text c is_sid is_open (inr h) = leads_refused e e sid (sql text) c (asks_refused e sid (sql text) c e refl) (none_rises e.boxes) (λ w a. a) (λ w a. (
  no_pick,
  (λ s t x formed. absurd (formed c h)),
  told_syntax law w sid no_pick text c (is_open_by e w sid a is_sid is_open) h,
))

pub not_open : AreLater → (e : Shown) (sid : ℕ) (text : List ℕ) → IsSid sid → is_some (user_of e.seats sid) ≡ false → Leads e sid (sql text) (refused NoConnection) e
not_open law e sid text is_sid shut = leads_refused e e sid (sql text) NoConnection (asks_refused e sid (sql text) NoConnection e refl) (none_rises e.boxes) (λ w a. a) (λ w a. (
  no_pick,
  (λ s t x formed. absurd (is_closed_by e w sid a is_sid shut (ap is_some x.0))),
  told_closed law w sid no_pick text (is_closed_by e w sid a is_sid shut),
))
