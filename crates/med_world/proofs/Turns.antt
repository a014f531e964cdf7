-- FETCH and CLOSE lead to their replies.
use Rattle.std.proofs.Common.{◌≡◌, ℕ, ◌-◌, slice_set, ◌<◌, ◌≤◌, ◌⊎◌, true, false, List, [], ◌++◌, Option, Some, None, not, filter, find, length, map, codes, refl, ap, sym, ◌∙◌, subst, arith, inl, inr}
use Rattle.std.proofs.lemmas.Bool.{false≢true}
use Rattle.std.proofs.lemmas.List.{append_assoc, append-nil}
use Rattle.std.proofs.lemmas.Option.{same_Some}
use Rattle.med_value.specs.Datum.{Tuple}
use Rattle.med_value.specs.declared.cause.Cause.{Cause}
use Rattle.med_value.specs.declared.cause.Cause.TheVariants.{InvalidCursorName, OutOfMemory, SourceFault}
use Rattle.med_syntax.specs.Prelude.{Name, CountTree, some_rows, all_rows, CursorTree, declare, fetch, close}
use Rattle.med_query.specs.Query.{IsAnswer}
use Rattle.fdw_api.specs.State.{BoxState}
use Rattle.med_exec.specs.declared.running.Run.{Run}
use Rattle.med_exec.specs.Prelude.{none_held, levels_in, GivesAsTheyCome}
use Rattle.med_exec.specs.Rests.{Rests, held}
use Rattle.med_exec.proofs.Served.{honest_in_still}
use Rattle.scan_loops.specs.Running.{slots_of, HonestFor}
use Rattle.scan_loops.specs.declared.levels.LoopLevel.{LoopLevel}
use Rattle.med_parser.specs.CommandTree.{on_cursors}
use Rattle.med_world.specs.Open.{Opened, Seated, opened_named, without_named, with_run}
use Rattle.med_world.specs.Fetching.{GivesRows, GivesNone, no_memory, box_fails, HasRisen, PullsFetched, PullsEnded}
use Rattle.sql_meaning.specs.Prelude.{sql, IsSid, no_pick, World, Cursor, Session, with_session, IsBareQuery, is_cursor, rows_leased, cursor_named, without_cursor, hand_out, with_handed, Fetches, CursorCauses, NoneBeforeState, done, answered, refused, Turns, is_done, source_fails, fetch_lacks_memory}
use Rattle.med_world.specs.Seats.{seat_of, asked_in, asked_of, opened_in, CursorAgrees, CursorsAgree}
use Rattle.med_world.specs.Engine.{Shown, IsSound, Agrees, GivesWithin, IsBareCursor, AsksCursor, Leads}
use Rattle.med_world.specs.Turning.{with_cursors, having_asked, IsOfOpen, Ends}
use Rattle.med_world.specs.Laws.{IsRead}
use Rattle.med_world.proofs.Lists.{none_some}
use Rattle.med_world.proofs.Seats.{stands_still, cursors_stay}
use Rattle.med_world.proofs.Faring.{none_rises}
use Rattle.med_world.proofs.Asks.{asks_refused, asks_read}
use Rattle.med_world.proofs.Told.{told_tree, none_tree, before_tree}
use Rattle.med_world.proofs.Leading.{calm_unasked, cursors_in, session_in, calm, calm_befell, known, leads_refused}
use Rattle.med_world.proofs.Serving.{run_rises}
use Rattle.med_world.proofs.Sessions.{turned_agrees}
use Rattle.med_world.proofs.CursorLists.{one_fewer, one_turns, named_runs}
use Rattle.med_world.proofs.Plainest.{still_bare}
use Rattle.med_world.proofs.OwnBoxes.{gives_within}
use Rattle.med_world.proofs.CursorSeats.{seat_put, cursors_at, picks_none, has_none, found_at, old_seat, ends_serve, fetched_turn, fetched_left, ended_turn, ended_left, here_stays, left_here}
use Rattle.med_catalog.specs.DdlCauses.{phase}

-- ---- no cursor of the name

pub unknown : (e : Shown) (sid : ℕ) (text : List ℕ) (seat : Seated) (name : Name) (t : CursorTree) → IsOfOpen name t → IsRead e sid text seat.user (on_cursors t) → seat_of e.seats sid ≡ Some seat → opened_named name seat.cursors ≡ None
    → Leads e sid (sql text) (refused InvalidCursorName) e
unknown e sid text seat name t of_open read at none = leads_refused e e sid (sql text) InvalidCursorName (asks_refused e sid (sql text) InvalidCursorName e refl) (none_rises e.boxes) (λ w a. a) (λ w a. (
  no_pick,
  picks_none e w sid text seat t a read,
  told_tree w sid no_pick text (session_in w sid seat.user) (on_cursors t) InvalidCursorName (known e w sid text seat.user (on_cursors t) a read)
      (stands w t of_open (has_none e w sid seat name read.is_sid at a none)) (least w t of_open),
))
  where
    stands : (w : World) (t : CursorTree) → IsOfOpen name t → cursor_named name (session_in w sid seat.user) ≡ None → CursorCauses w (session_in w sid seat.user) t InvalidCursorName
    stands w (declare other q) of_open there = absurd of_open
    stands w (fetch asked other) of_open there = (refl, ap (λ (n : Name). cursor_named n (session_in w sid seat.user)) of_open ∙ there)
    stands w (close other) of_open there = (refl, ap (λ (n : Name). cursor_named n (session_in w sid seat.user)) of_open ∙ there)

    least : (w : World) (t : CursorTree) → IsOfOpen name t → (d : Cause) → CursorCauses w (session_in w sid seat.user) t d → 3 ≤ phase d
    least w (declare other q) of_open d x = absurd of_open
    least w (fetch asked other) of_open d x = let p : phase d ≡ 3 = ap phase x.0 in omega arith
    least w (close other) of_open d x = let p : phase d ≡ 3 = ap phase x.0 in omega arith

-- ---- FETCH

-- the rows go on where those that were handed out end
fetches : (old : List (Option BoxState)) (w : World) (asked : CountTree) (o : Opened) (c : Cursor) (rows : List Tuple) (after : Run) (new : List (Option BoxState)) → GivesRows o.run asked old rows after new → CursorAgrees old w o c → c.shared ≡ false → Fetches c asked rows
fetches old w (some_rows n) o c rows after new g a unshared = split (g.enough (a.honest unshared))
  where
    split : (length rows ≡ n) ⊎ ((length rows < n) × Rests o.run old rows) → Fetches c (some_rows n) rows
    split (inl many) =
        let left = g.some (a.honest unshared) in
        record {
          left = left.0;
          answers = subst (IsAnswer c.query (rows_leased c.reads)) (sym (append_assoc c.handed rows left.0)) (a.answers unshared (rows ++ left.0) (g.gives (a.honest unshared) left.0 left.1));
          enough = inl many;
        }
    split (inr all) = record {
      left = [];
      answers = subst (IsAnswer c.query (rows_leased c.reads)) (sym (append-nil (c.handed ++ rows))) (a.answers unshared rows all.1);
      enough = inr (all.0, refl);
    }
fetches old w all_rows o c rows after new g a unshared = record {
  left = [];
  answers = subst (IsAnswer c.query (rows_leased c.reads)) (sym (append-nil (c.handed ++ rows))) (a.answers unshared rows (g.enough (a.honest unshared)));
  enough = refl;
}

-- the cursor of the world goes on with the engine's
goes_on : (old new : List (Option BoxState)) (w v : World) (asked : CountTree) (o : Opened) (c : Cursor) (rows : List Tuple) (after : Run) (before count : ℕ) → v.catalog.tables ≡ w.catalog.tables → v.rows ≡ w.rows → GivesRows o.run asked old rows after new
    → PullsFetched asked o.run old before after new count → CursorAgrees old w o c → CursorAgrees new v (record o { run = after }) (record c { handed = c.handed ++ rows })
goes_on old new w v asked o c rows after before count tables same g p a = record {
  name = a.name;
  names = a.names;
  leases = a.leases;
  stand = λ l has. stands_still w v l tables same (a.stand l has);
  some = λ unshared. g.some (a.honest unshared);
  honest = λ unshared. subst (λ (ls : List LoopLevel). HonestFor ls new) (sym p.pulls.same) (honest_in_still (held o.run) (held after) (slots_of (levels_in o.run)) old new g.served (a.honest unshared));
  answers = λ unshared left r. subst (IsAnswer c.query (rows_leased c.reads)) (sym (append_assoc c.handed rows left)) (a.answers unshared (rows ++ left) (g.gives (a.honest unshared) left r));
  bare = λ b. still_bare asked o.run after old new before count p (a.bare b);
}

none_fetched : (e : Shown) (w : World) (sid : ℕ) (text : List ℕ) (seat : Seated) (name : Name) (asked : CountTree) (o : Opened) → Agrees e w → IsRead e sid text seat.user (on_cursors (fetch asked name)) → seat_of e.seats sid ≡ Some seat → opened_named name seat.cursors ≡ Some o
    → (d : Cause) → CursorCauses w (session_in w sid seat.user) (fetch asked name) d → ⊥
none_fetched e w sid text seat name asked o a read at here d x =
    let f = found_at e w sid seat name o read.is_sid at a here in
    none_some f.cursor (find (is_cursor name) (cursors_in (w.sessions sid))) x.1 f.is

-- the run of a cursor over all rows of one table shows them as they come
bare_run : (e : Shown) (sid : ℕ) (seat : Seated) (name : Name) (o : Opened) → IsSid sid → seat_of e.seats sid ≡ Some seat → opened_named name seat.cursors ≡ Some o → IsBareCursor e sid name → GivesAsTheyCome o.run
bare_run e sid seat name o is at here (w, s, c, a, session, named, bare) =
    let f = found_at e w sid seat name o is at a here in
    let same : f.cursor ≡ c = same_Some f.cursor c (sym f.is ∙ ap (λ (x : Option Session). find (is_cursor name) (cursors_in x)) session ∙ named) in
    f.agrees.bare (subst (λ (x : Cursor). IsBareQuery x.query) (sym same) bare)

-- so that few rows are given: to a FETCH that gives them, and to one that is refused
few_given : (e : Shown) (new : List (Option BoxState)) (sid : ℕ) (seat : Seated) (name : Name) (asked : CountTree) (o : Opened) (after : Run) (count : ℕ) → IsSid sid → IsSound e → seat_of e.seats sid ≡ Some seat → opened_named name seat.cursors ≡ Some o
    → PullsFetched asked o.run e.boxes seat.asked after new count → IsBareCursor e sid name → GivesWithin e sid name asked new
few_given e new sid seat name asked o after count is sound at here p bare =
    let shows = bare_run e sid seat name o is at here bare in
    gives_within e sid seat sound at name o here asked p.times new shows p.within (p.pulls.most shows.0)

few_refused : (e : Shown) (new : List (Option BoxState)) (sid : ℕ) (seat : Seated) (name : Name) (asked : CountTree) (o : Opened) → IsSid sid → IsSound e → seat_of e.seats sid ≡ Some seat → opened_named name seat.cursors ≡ Some o
    → PullsEnded asked o.run e.boxes new → IsBareCursor e sid name → GivesWithin e sid name asked new
few_refused e new sid seat name asked o is sound at here p bare =
    let shows = bare_run e sid seat name o is at here bare in
    gives_within e sid seat sound at name o here asked p.times new shows p.within (p.most shows.0)

asks_cursor : (e : Shown) (new : List (Option BoxState)) (sid : ℕ) (seat : Seated) (name : Name) (asked : CountTree) (o : Opened) (after : Run) (count : ℕ) → IsSid sid → IsSound e → seat_of e.seats sid ≡ Some seat → opened_named name seat.cursors ≡ Some o
    → PullsFetched asked o.run e.boxes seat.asked after new count → AsksCursor e sid asked name (with_cursors e sid (having_asked seat count) (with_run name after seat.cursors) new)
asks_cursor e new sid seat name asked o after count is sound at here pulls = record {
  at = o;
  there = ap (opened_in name) at ∙ here;
  run = after;
  goes_on = ap (opened_in name) now ∙ named_runs name after seat.cursors o here;
  pulls = subst (λ (n : ℕ). PullsFetched asked o.run e.boxes n after new (asked_of now_seats sid)) (sym (ap asked_in at))
      (subst (λ (n : ℕ). PullsFetched asked o.run e.boxes seat.asked after new n) (sym (ap asked_in now)) pulls);
  few = few_given e new sid seat name asked o after count is sound at here pulls;
}
  where
    left : Seated
    left = record seat { cursors = with_run name after seat.cursors; asked = count }

    now_seats : List (Option Seated)
    now_seats = slice_set e.seats (sid - 1) (Some left)

    now : seat_of now_seats sid ≡ Some left
    now = seat_put e.seats sid seat left at

pub fetched : (e : Shown) (new : List (Option BoxState)) (sid : ℕ) (text : List ℕ) (seat : Seated) (name : Name) (asked : CountTree) (o : Opened) (rows : List Tuple) (after : Run) (count : ℕ) → IsRead e sid text seat.user (on_cursors (fetch asked name))
    → seat_of e.seats sid ≡ Some seat → IsSound e → opened_named name seat.cursors ≡ Some o → GivesRows o.run asked e.boxes rows after new
    → PullsFetched asked o.run e.boxes seat.asked after new count → Leads e sid (sql text) (answered (codes "FETCH") o.names rows) (with_cursors e sid (having_asked seat count) (with_run name after seat.cursors) new)
fetched e new sid text seat name asked o rows after count read at sound here g pulls = record {
  trouble = calm;
  befell = calm_befell e.boxes new;
  asked = λ x. absurd (calm_unasked x);
  rises = run_rises (held o.run) (held after) e.boxes new g.served;
  asks = asks_read e sid text seat.user (on_cursors (fetch asked name)) (answered (codes "FETCH") o.names rows) (with_cursors e sid (having_asked seat count) (with_run name after seat.cursors) new) read (asks_cursor e new sid seat name asked o after count read.is_sid sound at here pulls);
  step = λ w a. (
    now w,
    is_done no_pick (picks_none e w sid text seat (fetch asked name) a read)
        (none_tree w sid no_pick text (session_in w sid seat.user) (on_cursors (fetch asked name)) (known e w sid text seat.user (on_cursors (fetch asked name)) a read) (none_fetched e w sid text seat name asked o a read at here))
        (session_in w sid seat.user, on_cursors (fetch asked name), (known e w sid text seat.user (on_cursors (fetch asked name)) a read).is, turns w a),
    turned_agrees e w new sid (Some (record seat { cursors = with_run name after seat.cursors; asked = count })) (Some (with_handed (session_in w sid seat.user) name rows)) read.is_sid sound.sessions (fetched_turn e new sid seat name asked o rows after count sound at here g) (refl, all w a) a,
  );
}
  where
    now : World → World
    now w = with_session w sid (Some (with_handed (session_in w sid seat.user) name rows))

    turns : (w : World) → Agrees e w → Turns w sid (session_in w sid seat.user) (fetch asked name) (answered (codes "FETCH") o.names rows) (now w)
    turns w a =
        let f = found_at e w sid seat name o read.is_sid at a here in
        (f.cursor, f.is, (rows, fetches e.boxes w asked o f.cursor rows after new g f.agrees, ap (λ (ns : List Name). answered (codes "FETCH") ns rows) (sym f.agrees.names), refl))

    all : (w : World) → Agrees e w → CursorsAgree new (now w) (with_run name after seat.cursors) (map (hand_out name rows) (cursors_in (w.sessions sid)))
    all w a = one_turns e.boxes new w (now w) name after rows seat.cursors (cursors_in (w.sessions sid)) o (λ l taken x. stands_still w (now w) l refl refl x)
        (λ c has ne. here_stays e new sid seat c sound at has (fetched_left e new sid seat name asked o rows after count sound at here g c has ne)) (old_seat e sid seat sound at).apart here
        (λ c h. goes_on e.boxes new w (now w) asked o c rows after seat.asked count refl refl g pulls h) (cursors_at e w sid seat read.is_sid at a)

-- ---- a cursor that is gone

gone_agrees : (e : Shown) (w : World) (new : List (Option BoxState)) (sid : ℕ) (seat : Seated) (name : Name) (o : Opened) (count : ℕ) → IsSid sid → seat_of e.seats sid ≡ Some seat → IsSound e → opened_named name seat.cursors ≡ Some o → Ends o.run e.boxes new → Agrees e w
    → Agrees (with_cursors e sid (having_asked seat count) (without_named name seat.cursors) new) (with_session w sid (Some (without_cursor (session_in w sid seat.user) name)))
gone_agrees e w new sid seat name o count is at sound here ends a =
    turned_agrees e w new sid (Some (record seat { cursors = without_named name seat.cursors; asked = count })) (Some (without_cursor (session_in w sid seat.user) name)) is sound.sessions (ended_turn e new sid seat name o count sound at here ends) (
      refl,
      cursors_stay e.boxes new w now (without_named name seat.cursors) (filter (λ c. not (is_cursor name c)) (cursors_in (w.sessions sid))) (λ l taken x. stands_still w now l refl refl x)
          (λ c has. here_stays e new sid seat c sound at (left_here name seat.cursors c has) (ended_left e new sid seat name o sound at here ends c has))
          (one_fewer e.boxes w name seat.cursors (cursors_in (w.sessions sid)) (cursors_at e w sid seat is at a)),
    ) a
  where
    now : World
    now = with_session w sid (Some (without_cursor (session_in w sid seat.user) name))

pub not_fetched : (e : Shown) (new : List (Option BoxState)) (sid : ℕ) (text : List ℕ) (seat : Seated) (name : Name) (asked : CountTree) (o : Opened) (c : Cause) (count : ℕ) → IsRead e sid text seat.user (on_cursors (fetch asked name))
    → seat_of e.seats sid ≡ Some seat → IsSound e → opened_named name seat.cursors ≡ Some o → GivesNone c e.boxes new → Ends o.run e.boxes new → PullsEnded asked o.run e.boxes new → HasRisen seat.asked count
    → Leads e sid (sql text) (refused c) (with_cursors e sid (having_asked seat count) (without_named name seat.cursors) new)
not_fetched e new sid text seat name asked o c count read at sound here (no_memory is) ends pulls risen =
    subst (λ (d : Cause). Leads e sid (sql text) (refused d) (with_cursors e sid (having_asked seat count) (without_named name seat.cursors) new)) (sym is) (record {
      trouble = record { memory = true; asked = true; source = false; numbers = false };
      befell = record { source = λ x. absurd (false≢true x); numbers = λ x. absurd (false≢true x) };
      asked = λ x. subst (λ (n : ℕ). HasRisen n (asked_of now_seats sid)) (sym (ap asked_in at)) (subst (λ (n : ℕ). HasRisen seat.asked n) (sym (ap asked_in (seat_put e.seats sid seat left at))) risen);
      rises = run_rises (held o.run) none_held e.boxes new (ends_serve o.run e.boxes new ends);
      asks = asks_read e sid text seat.user (on_cursors (fetch asked name)) (refused OutOfMemory) (with_cursors e sid (having_asked seat count) (without_named name seat.cursors) new) read (few_refused e new sid seat name asked o read.is_sid sound at here pulls);
      step = λ w a. (
        with_session w sid (Some (without_cursor (session_in w sid seat.user) name)),
        fetch_lacks_memory refl refl (session_in w sid seat.user) asked name (known e w sid text seat.user (on_cursors (fetch asked name)) a read).is refl refl,
        gone_agrees e w new sid seat name o count read.is_sid at sound here ends a,
      );
    })
  where
    left : Seated
    left = record seat { cursors = without_named name seat.cursors; asked = count }

    now_seats : List (Option Seated)
    now_seats = slice_set e.seats (sid - 1) (Some left)
not_fetched e new sid text seat name asked o c count read at sound here (box_fails is h) ends pulls risen =
    subst (λ (d : Cause). Leads e sid (sql text) (refused d) (with_cursors e sid (having_asked seat count) (without_named name seat.cursors) new)) (sym is) (record {
      trouble = record { memory = false; asked = false; source = true; numbers = false };
      befell = record {
        source = λ x. h;
        numbers = λ x. absurd (false≢true x);
      };
      asked = λ x. absurd (false≢true x);
      rises = run_rises (held o.run) none_held e.boxes new (ends_serve o.run e.boxes new ends);
      asks = asks_read e sid text seat.user (on_cursors (fetch asked name)) (refused SourceFault) (with_cursors e sid (having_asked seat count) (without_named name seat.cursors) new) read (few_refused e new sid seat name asked o read.is_sid sound at here pulls);
      step = λ w a. (
        with_session w sid (Some (without_cursor (session_in w sid seat.user) name)),
        source_fails refl (session_in w sid seat.user) (on_cursors (fetch asked name)) (known e w sid text seat.user (on_cursors (fetch asked name)) a read).is (late w a) refl refl,
        gone_agrees e w new sid seat name o count read.is_sid at sound here ends a,
      );
    })
  where
    late : (w : World) → Agrees e w → NoneBeforeState w sid (sql text)
    late w a = before_tree w sid text (session_in w sid seat.user) (on_cursors (fetch asked name)) (known e w sid text seat.user (on_cursors (fetch asked name)) a read)
        (λ p d x. absurd (none_fetched e w sid text seat name asked o a read at here d x))

pub closed : (e : Shown) (new : List (Option BoxState)) (sid : ℕ) (text : List ℕ) (seat : Seated) (name : Name) (o : Opened) → IsRead e sid text seat.user (on_cursors (close name)) → seat_of e.seats sid ≡ Some seat → IsSound e
    → opened_named name seat.cursors ≡ Some o → Ends o.run e.boxes new → Leads e sid (sql text) (done (codes "CLOSE CURSOR")) (with_cursors e sid seat (without_named name seat.cursors) new)
closed e new sid text seat name o read at sound here ends = record {
  trouble = calm;
  befell = calm_befell e.boxes new;
  asked = λ x. absurd (calm_unasked x);
  rises = run_rises (held o.run) none_held e.boxes new (ends_serve o.run e.boxes new ends);
  asks = asks_read e sid text seat.user (on_cursors (close name)) (done (codes "CLOSE CURSOR")) (with_cursors e sid seat (without_named name seat.cursors) new) read tt;
  step = λ w a. (
    with_session w sid (Some (without_cursor (session_in w sid seat.user) name)),
    is_done no_pick (picks_none e w sid text seat (close name) a read)
        (none_tree w sid no_pick text (session_in w sid seat.user) (on_cursors (close name)) (known e w sid text seat.user (on_cursors (close name)) a read) (none w a))
        (session_in w sid seat.user, on_cursors (close name), (known e w sid text seat.user (on_cursors (close name)) a read).is, (refl, refl)),
    gone_agrees e w new sid seat name o seat.asked read.is_sid at sound here ends a,
  );
}
  where
    none : (w : World) → Agrees e w → (d : Cause) → CursorCauses w (session_in w sid seat.user) (close name) d → ⊥
    none w a d x =
        let f = found_at e w sid seat name o read.is_sid at a here in
        none_some f.cursor (find (is_cursor name) (cursors_in (w.sessions sid))) x.1 f.is
