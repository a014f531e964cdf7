-- DECLARE leads to its reply.
use Rattle.std.proofs.Common.{◌≡◌, ℕ, ◌≤◌, Bool, true, false, map, List, [], ◌∷◌, ◌++◌, Option, Some, None, is_some, codes, refl, ap, sym, ◌∙◌, subst, arith, inl, inr, lit≤}
use Rattle.std.proofs.lemmas.Bool.{false≢true}
use Rattle.med_value.specs.declared.cause.Cause.{Cause}
use Rattle.med_value.specs.declared.cause.Cause.TheVariants.{LimitExceeded, FeatureNotSupported, DuplicateCursor, SourceFault, OutOfMemory}
use Rattle.med_syntax.specs.Prelude.{Name, SelectTree, select, declare}
use Rattle.med_query.specs.Prelude.{Tables, IsAnswer, is_risky_form}
use Rattle.fdw_api.specs.State.{BoxState}
use Rattle.med_binder.specs.Prelude.{Place, QueryNames, QueryTypes, meant_by, IsBindable, NotBound, ArePlaces}
use Rattle.med_exec.specs.declared.running.Run.{Run}
use Rattle.med_exec.specs.Prelude.{HonestOver, AllServed, none_held}
use Rattle.med_exec.specs.Rests.{held}
use Rattle.med_exec.proofs.Served.{honest_in_still}
use Rattle.med_exec.proofs.Left.{run_is_held, run_honest}
use Rattle.med_parser.specs.CommandTree.{CommandTree, on_cursors}
use Rattle.bind_names.specs.Meaning.{Meant}
use Rattle.med_catalog.specs.Prelude.{Objects, phase}
use Rattle.med_world.specs.Open.{Seated, is_full, opened_named}
use Rattle.med_world.specs.Starting.{Starts, StartFails, not_bound, is_risky, no_room, too_many, run_fails, RunFails, no_memory, box_fails, numbers_out, shows_cause}
use Rattle.sql_meaning.specs.Prelude.{is_large_form, sql, IsSid, no_pick, World, rows_of_place, with_session, with_cursor, Reply, done, refused}
use Rattle.sql_meaning.specs.Causes.{query_of, entry_tables, meant_over, reads_shared, QueryRun, DeclareCauses, exists, of_query, is_risky as may_fault, too_many as is_full_already, NoneBeforeState}
use Rattle.sql_meaning.specs.Steps.{Step, new_cursor, is_refused, is_done, source_fails, numbers_end}
use Rattle.med_world.specs.Seats.{seat_of, opened_in, CursorAgrees, CursorsAgree}
use Rattle.med_world.specs.Engine.{Shown, IsSound, Agrees, Leads}
use Rattle.med_world.specs.Turning.{new_opened, with_cursors}
use Rattle.med_world.specs.Laws.{IsRead, with_boxes}
use Rattle.med_world.proofs.Seats.{stands_still, cursors_stay}
use Rattle.med_world.proofs.Faring.{none_rises}
use Rattle.med_world.proofs.Asks.{asks_refused, asks_read}
use Rattle.med_world.proofs.Told.{IsKnownAs, told_tree, none_tree, before_tree}
use Rattle.med_world.proofs.Leading.{calm_unasked, cursors_in, session_in, calm, calm_befell, known, leads_either, leads_refused, leads_memory, shared_step}
use Rattle.med_world.proofs.Sharing.{query_honest}
use Rattle.med_world.proofs.Querying.{ArePhased, ShowsIn, from_types, from_state, from_run, run_phase, none_select, bindable_in, same_meant, same_entries, none_many}
use Rattle.med_planner.specs.Plain.{IsBareForm}
use Rattle.med_world.proofs.Plainest.{bare_form}
use Rattle.med_world.proofs.Serving.{run_rises, serving_rises, serving_agrees}
use Rattle.med_world.proofs.Sessions.{turned_agrees}
use Rattle.med_world.proofs.CursorCausing.{cursor_phase, least_declare, none_declare}
use Rattle.med_world.proofs.CursorRows.{rows_kept, tables_kept, tables_stand}
use Rattle.med_world.proofs.CursorLists.{one_more, named_last}
use Rattle.med_world.proofs.CursorSeats.{seat_put, cursors_at, picks_none, not_named, is_named, not_full, full_there, declared_turn, declared_left, here_stays}

-- the statement, and the session that it is of
abbrev Tree : Name → SelectTree → CommandTree
Tree name q = on_cursors (declare name (select q))

known_declare : (e : Shown) (w : World) (sid : ℕ) (text : List ℕ) (seat : Seated) (name : Name) (q : SelectTree) → Agrees e w → IsRead e sid text seat.user (Tree name q) → IsKnownAs w sid text (session_in w sid seat.user) (Tree name q)
known_declare e w sid text seat name q a read = known e w sid text seat.user (Tree name q) a read

-- whether it may fault is the same over the engine's catalogue
risk_there : (e : Shown) (w : World) (q : SelectTree) → Agrees e w → is_risky_form (meant_by e.catalog q).form ≡ is_risky_form (meant_over w q).form
risk_there e w q a = ap (λ (m : Meant). is_risky_form m.form) (same_meant e w q a)

-- ---- done

pub declared : (e : Shown) (new : List (Option BoxState)) (sid : ℕ) (text : List ℕ) (seat : Seated) (name : Name) (q : SelectTree) (names : List Name) (run : Run) → IsRead e sid text seat.user (on_cursors (declare name (select q)))
    → seat_of e.seats sid ≡ Some seat → IsSound e → opened_named name seat.cursors ≡ None → Starts e.catalog seat.user e.bound q (is_full seat.cursors) e.boxes names run new
    → Leads e sid (sql text) (done (codes "DECLARE CURSOR")) (with_cursors e sid seat (seat.cursors ++ new_opened name names q run ∷ []) new)
declared e new sid text seat name q names run read at sound free h = record {
  trouble = calm;
  befell = calm_befell e.boxes new;
  asked = λ x. absurd (calm_unasked x);
  rises = run_rises none_held (held run) e.boxes new h.served;
  asks = asks_read e sid text seat.user (Tree name q) (done (codes "DECLARE CURSOR")) (with_cursors e sid seat (seat.cursors ++ new_opened name names q run ∷ []) new) read
      (record {
        once = record { places = h.places; are = h.are; reads = h.reads };
        plain = h.plain;
        at = new_opened name names q run;
        there = ap (opened_in name) (seat_put e.seats sid seat (record seat { cursors = seat.cursors ++ new_opened name names q run ∷ [] }) at)
            ∙ named_last name seat.cursors (new_opened name names q run) refl free;
        opens = h.opens;
      });
  step = λ w a. (
    after w,
    is_done no_pick (picks_none e w sid text seat (declare name (select q)) a read)
        (none_tree w sid no_pick text (session_in w sid seat.user) (Tree name q) (known_declare e w sid text seat name q a read) (none w a))
        (session_in w sid seat.user, Tree name q, (known_declare e w sid text seat name q a read).is, (refl, refl)),
    turned_agrees e w new sid (Some (record seat { cursors = seat.cursors ++ new_opened name names q run ∷ [] })) (Some (with_cursor (session_in w sid seat.user) (new_cursor w name q)))
        read.is_sid sound.sessions (declared_turn e new sid seat name q names run sound at h) (refl, all w a) a,
  );
}
  where
    after : World → World
    after w = with_session w sid (Some (with_cursor (session_in w sid seat.user) (new_cursor w name q)))

    bindable : (w : World) → Agrees e w → IsBindable w.catalog seat.user q
    bindable w a = bindable_in e w seat.user q a h.bindable

    honest : (w : World) → Agrees e w → reads_shared w q ≡ false → HonestOver h.places e.boxes
    honest w a unshared = query_honest e w q h.places sound a unshared h.are

    none : (w : World) → Agrees e w → (d : Cause) → DeclareCauses w (session_in w sid seat.user) name q d → ⊥
    none w a = none_declare w (session_in w sid seat.user) name q (not_named e w sid seat name read.is_sid at a free)
        (none_select w seat.user q (bindable w a) (none_many e w q a h.few)
        (λ d x. subst (λ (m : Meant). (d : Cause) → ShowsIn w m d → ⊥) (same_meant e w q a)
        (h.rests.clear (honest w a x.0) (entry_tables (meant_by e.catalog q).entries (rows_of_place w.rows)) (same_entries e w q h.places a h.are (honest w a x.0))) d x.1))
        (λ risk. false≢true (sym h.safe ∙ risk_there e w q a ∙ risk))
        (not_full e w sid seat read.is_sid at a h.room)

    last : (w : World) → Agrees e w → CursorAgrees new (after w) (new_opened name names q run) (new_cursor w name q)
    last w a = record {
      name = refl;
      names = sym (h.named ∙ ap (λ (m : Meant). m.names) (same_meant e w q a));
      leases = tables_kept w q;
      stand = λ l has. stands_still w (after w) l refl refl (tables_stand w seat.user q (bindable w a) l has);
      some = λ unshared. h.rests.some (honest w a unshared);
      honest = λ unshared. run_honest h.places run new h.holds (run_is_held run new h.running) (honest_in_still none_held (held run) (map (λ (p : Place). p.source) h.places) e.boxes new h.served (honest w a unshared));
      answers = λ unshared rows r. subst (λ (db : Tables). IsAnswer (query_of (meant_over w q)) db rows) (sym (rows_kept w seat.user q (bindable w a)))
          (subst (λ (m : Meant). IsAnswer (query_of m) (entry_tables m.entries (rows_of_place w.rows)) rows) (same_meant e w q a)
          (h.rests.answers (honest w a unshared) (entry_tables (meant_by e.catalog q).entries (rows_of_place w.rows)) (same_entries e w q h.places a h.are (honest w a unshared)) rows r));
      bare = λ b. h.bare (subst (λ (m : Meant). IsBareForm m.form) (sym (same_meant e w q a)) (bare_form (meant_over w q).form b));
    }

    all : (w : World) → Agrees e w → CursorsAgree new (after w) (seat.cursors ++ new_opened name names q run ∷ []) (cursors_in (w.sessions sid) ++ new_cursor w name q ∷ [])
    all w a = one_more new (after w) seat.cursors (cursors_in (w.sessions sid)) (new_opened name names q run) (new_cursor w name q)
        (cursors_stay e.boxes new w (after w) seat.cursors (cursors_in (w.sessions sid)) (λ l taken x. stands_still w (after w) l refl refl x)
        (λ c has. here_stays e new sid seat c sound at has (declared_left e new sid seat name q names run sound at h c has)) (cursors_at e w sid seat read.is_sid at a)) (last w a)

-- ---- refused

-- by a cause that stands in each world, and is of the least phase there, where nothing was asked of a box
quiet_leads : (e : Shown) (sid : ℕ) (text : List ℕ) (seat : Seated) (name : Name) (q : SelectTree) (c : Cause) → IsRead e sid text seat.user (on_cursors (declare name (select q)))
    → ((w : World) → Agrees e w → DeclareCauses w (session_in w sid seat.user) name q c) → ((w : World) → Agrees e w → (d : Cause) → DeclareCauses w (session_in w sid seat.user) name q d → phase c ≤ phase d) → Leads e sid (sql text) (refused c) e
quiet_leads e sid text seat name q c read stands least = leads_refused e e sid (sql text) c (asks_refused e sid (sql text) c e refl) (none_rises e.boxes) (λ w a. a) (λ w a. (
  no_pick,
  picks_none e w sid text seat (declare name (select q)) a read,
  told_tree w sid no_pick text (session_in w sid seat.user) (Tree name q) c (known_declare e w sid text seat name q a read) (stands w a) (least w a),
))

-- the session has a cursor of this name
pub taken : ArePhased → (e : Shown) (sid : ℕ) (text : List ℕ) (seat : Seated) (name : Name) (q : SelectTree) → IsRead e sid text seat.user (on_cursors (declare name (select q))) → seat_of e.seats sid ≡ Some seat
    → is_some (opened_named name seat.cursors) ≡ true → Leads e sid (sql text) (refused DuplicateCursor) e
taken law e sid text seat name q read at there = quiet_leads e sid text seat name q DuplicateCursor read
    (λ w a. exists refl (is_named e w sid seat name read.is_sid at a there))
    (λ w a d x. cursor_phase law w (session_in w sid seat.user) (declare name (select q)) d x)

-- the run of the query did not begin
before_run : (e : Shown) (sid : ℕ) (seat : Seated) (name : Name) (q : SelectTree) → IsSid sid → seat_of e.seats sid ≡ Some seat → opened_named name seat.cursors ≡ None → IsBindable e.catalog seat.user q → is_risky_form (meant_by e.catalog q).form ≡ false
    → (w : World) → Agrees e w → (d : Cause) → DeclareCauses w (session_in w sid seat.user) name q d → 5 ≤ phase d
before_run e sid seat name q is at free b safe w a = least_declare w (session_in w sid seat.user) name q 5 (not_named e w sid seat name is at a free)
    (from_state w seat.user q (bindable_in e w seat.user q a b)) (λ risk. absurd (false≢true (sym safe ∙ risk_there e w q a ∙ risk))) (λ many. lit≤ tt)

late : (e : Shown) (w : World) (sid : ℕ) (text : List ℕ) (seat : Seated) (name : Name) (q : SelectTree) → IsRead e sid text seat.user (on_cursors (declare name (select q))) → seat_of e.seats sid ≡ Some seat → opened_named name seat.cursors ≡ None
    → IsBindable e.catalog seat.user q → is_risky_form (meant_by e.catalog q).form ≡ false → Agrees e w → NoneBeforeState w sid (sql text)
late e w sid text seat name q read at free b safe a = before_tree w sid text (session_in w sid seat.user) (Tree name q) (known_declare e w sid text seat name q a read)
    (λ p d x. let r : 5 ≤ phase d = before_run e sid seat name q read.is_sid at free b safe w a d x in omega arith)

run_leads : (e : Shown) (new : List (Option BoxState)) (sid : ℕ) (text : List ℕ) (seat : Seated) (name : Name) (q : SelectTree) (c : Cause) (places : List Place) → IsRead e sid text seat.user (on_cursors (declare name (select q)))
    → seat_of e.seats sid ≡ Some seat → IsSound e → opened_named name seat.cursors ≡ None → IsBindable e.catalog seat.user q → is_risky_form (meant_by e.catalog q).form ≡ false → is_full seat.cursors ≡ false → is_large_form (meant_by e.catalog q).form ≡ false
    → AllServed e.boxes new → ArePlaces e.bound (meant_by e.catalog q).entries places → RunFails (query_of (meant_by e.catalog q)) places c e.boxes new → Leads e sid (sql text) (refused c) (with_boxes e new)
run_leads e new sid text seat name q c places read at sound free b safe room few served are (no_memory is) =
    subst (λ (d : Cause). Leads e sid (sql text) (refused d) (with_boxes e new)) (sym is) (leads_memory e (with_boxes e new) sid (sql text) (asks_read e sid text seat.user (Tree name q) (refused OutOfMemory) (with_boxes e new) read tt) tt (serving_rises e.boxes new served) (serving_agrees e new served))
run_leads e new sid text seat name q c places read at sound free b safe room few served are (box_fails is h) =
    subst (λ (d : Cause). Leads e sid (sql text) (refused d) (with_boxes e new)) (sym is) (record {
      trouble = record { memory = false; asked = false; source = true; numbers = false };
      befell = record {
        source = λ x. h;
        numbers = λ x. absurd (false≢true x);
      };
      asked = λ x. absurd (false≢true x);
      rises = serving_rises e.boxes new served;
      asks = asks_read e sid text seat.user (Tree name q) (refused SourceFault) (with_boxes e new) read tt;
      step = λ w a. (
        w,
        source_fails refl (session_in w sid seat.user) (Tree name q) (known_declare e w sid text seat name q a read).is (late e w sid text seat name q read at free b safe a) refl refl,
        serving_agrees e new served w a,
      );
    })
run_leads e new sid text seat name q c places read at sound free b safe room few served are (numbers_out is h) =
    subst (λ (d : Cause). Leads e sid (sql text) (refused d) (with_boxes e new)) (sym is) (record {
      trouble = record { memory = false; asked = false; source = false; numbers = true };
      befell = record {
        source = λ x. absurd (false≢true x);
        numbers = λ x. h;
      };
      asked = λ x. absurd (false≢true x);
      rises = serving_rises e.boxes new served;
      asks = asks_read e sid text seat.user (Tree name q) (refused LimitExceeded) (with_boxes e new) read tt;
      step = λ w a. (
        w,
        numbers_end refl (session_in w sid seat.user) (Tree name q) (known_declare e w sid text seat name q a read).is (late e w sid text seat name q read at free b safe a) tt refl refl,
        serving_agrees e new served w a,
      );
    })
run_leads e new sid text seat name q c places read at sound free b safe room few served are (shows_cause of_run h) =
    leads_either e (with_boxes e new) sid (sql text) c (asks_read e sid text seat.user (Tree name q) (refused c) (with_boxes e new) read tt) (serving_rises e.boxes new served) (serving_agrees e new served) (λ w a. by w a (reads_shared w q) refl)
  where
    late_all : (w : World) → Agrees e w → (d : Cause) → DeclareCauses w (session_in w sid seat.user) name q d → 6 ≤ phase d
    late_all w a d x = least_declare w (session_in w sid seat.user) name q 6 (not_named e w sid seat name read.is_sid at a free)
        (from_run w seat.user q (bindable_in e w seat.user q a b) (none_many e w q a few)) (λ risk. absurd (false≢true (sym safe ∙ risk_there e w q a ∙ risk)))
        (λ many. absurd (not_full e w sid seat read.is_sid at a room many)) d x

    by : (w : World) → Agrees e w → (r : Bool) → reads_shared w q ≡ r → Step w sid (sql text) calm (refused c) w
    by w a true shares = shared_step w sid text (session_in w sid seat.user) (Tree name q) c (known_declare e w sid text seat name q a read) shares of_run (λ p d x. let r : 6 ≤ phase d = late_all w a d x in omega arith)
    by w a false unshared =
        let honest = query_honest e w q places sound a unshared are in
        let run : QueryRun w q c = (unshared, subst (λ (m : Meant). ShowsIn w m c) (same_meant e w q a) (h honest (entry_tables (meant_by e.catalog q).entries (rows_of_place w.rows)) (same_entries e w q places a are honest))) in
        is_refused no_pick c (picks_none e w sid text seat (declare name (select q)) a read)
        (told_tree w sid no_pick text (session_in w sid seat.user) (Tree name q) c (known_declare e w sid text seat name q a read) (of_query (inr (inr (inr run))))
        (λ d x. let p : phase c ≡ 6 = run_phase w q c run in let r : 6 ≤ phase d = late_all w a d x in omega arith)) refl refl

back_to : (e : Shown) (new : List (Option BoxState)) (sid : ℕ) (text : List ℕ) (r : Reply) → new ≡ e.boxes → Leads e sid (sql text) r e → Leads e sid (sql text) r (with_boxes e new)
back_to e new sid text r same h = subst (λ (x : List (Option BoxState)). Leads e sid (sql text) r (with_boxes e x)) (sym same) h

-- it is not bound
unbound_leads : ArePhased → (e : Shown) (sid : ℕ) (text : List ℕ) (seat : Seated) (name : Name) (q : SelectTree) (c : Cause) → IsRead e sid text seat.user (on_cursors (declare name (select q))) → seat_of e.seats sid ≡ Some seat
    → opened_named name seat.cursors ≡ None → NotBound e.catalog seat.user q c → Leads e sid (sql text) (refused c) e
unbound_leads law e sid text seat name q c read at free (inl is) =
    subst (λ (d : Cause). Leads e sid (sql text) (refused d) e) (sym is) (leads_memory e e sid (sql text) (asks_refused e sid (sql text) OutOfMemory e refl) tt (none_rises e.boxes) (λ w a. a))
unbound_leads law e sid text seat name q c read at free (inr (inl h)) = quiet_leads e sid text seat name q c read
    (λ w a. of_query (inl (subst (λ (o : Objects). QueryNames o seat.user q c) (sym a.catalog) h)))
    (λ w a d x. let p : phase c ≡ 3 = law.names e.catalog seat.user q c h in let r : 3 ≤ phase d = cursor_phase law w (session_in w sid seat.user) (declare name (select q)) d x in omega arith)
unbound_leads law e sid text seat name q c read at free (inr (inr (h, none))) = quiet_leads e sid text seat name q c read
    (λ w a. of_query (inr (inl (subst (λ (o : Objects). QueryTypes o q c) (sym a.catalog) h))))
    (λ w a d x. let p : phase c ≡ 4 = law.types e.catalog q c h in
    let r : 4 ≤ phase d = least_declare w (session_in w sid seat.user) name q 4 (not_named e w sid seat name read.is_sid at a free)
    (from_types law w seat.user q (subst (λ (o : Objects). (y : Cause) → QueryNames o seat.user q y → ⊥) (sym a.catalog) none)) (λ risk. lit≤ tt) (λ many. lit≤ tt) d x in omega arith)

pub not_declared : ArePhased → (e : Shown) (new : List (Option BoxState)) (sid : ℕ) (text : List ℕ) (seat : Seated) (name : Name) (q : SelectTree) (c : Cause) → IsRead e sid text seat.user (on_cursors (declare name (select q)))
    → seat_of e.seats sid ≡ Some seat → IsSound e → opened_named name seat.cursors ≡ None → StartFails e.catalog seat.user e.bound q (is_full seat.cursors) e.boxes c new → Leads e sid (sql text) (refused c) (with_boxes e new)
not_declared law e new sid text seat name q c read at sound free (not_bound why same) = back_to e new sid text (refused c) same (unbound_leads law e sid text seat name q c read at free why)
not_declared law e new sid text seat name q c read at sound free (is_risky b risk is same) = back_to e new sid text (refused c) same
    (subst (λ (d : Cause). Leads e sid (sql text) (refused d) e) (sym is) (quiet_leads e sid text seat name q FeatureNotSupported read
    (λ w a. may_fault refl (sym (risk_there e w q a) ∙ risk))
    (λ w a d x. least_declare w (session_in w sid seat.user) name q 4 (not_named e w sid seat name read.is_sid at a free)
    (λ y h. let r : 5 ≤ phase y = from_state w seat.user q (bindable_in e w seat.user q a b) y h in omega arith) (λ r. lit≤ tt) (λ many. lit≤ tt) d x)))
not_declared law e new sid text seat name q c read at sound free (no_room b safe full is same) = back_to e new sid text (refused c) same
    (subst (λ (d : Cause). Leads e sid (sql text) (refused d) e) (sym is) (quiet_leads e sid text seat name q LimitExceeded read
    (λ w a. is_full_already refl (full_there e w sid seat read.is_sid at a full))
    (λ w a d x. before_run e sid seat name q read.is_sid at free b safe w a d x)))
not_declared law e new sid text seat name q c read at sound free (too_many b safe many is same) = back_to e new sid text (refused c) same
    (subst (λ (d : Cause). Leads e sid (sql text) (refused d) e) (sym is) (quiet_leads e sid text seat name q LimitExceeded read
    (λ w a. of_query (inr (inr (inl (subst (λ (m : Meant). is_large_form m.form ≡ true) (same_meant e w q a) many, refl)))))
    (λ w a d x. before_run e sid seat name q read.is_sid at free b safe w a d x)))
not_declared law e new sid text seat name q c read at sound free (run_fails b safe room few served places are why) =
    run_leads e new sid text seat name q c places read at sound free b safe room few served are why
