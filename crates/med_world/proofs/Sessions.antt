-- Sessions are opened and closed.
use Rattle.std.proofs.Common.{◌≡◌, ◌≢◌, ℕ, ◌-◌, ◌<◌, ◌⊎◌, [], Contains, true, false, cond, List, Option, Some, None, is_some, option_map, slice_get, slice_set, slice_index_or, length, codes, refl, ap, sym, ◌∙◌, subst, arith, inl, inr, eqb, zero, suc, replicate}
use Rattle.std.proofs.lemmas.Bool.{false≢true}
use Rattle.std.proofs.lemmas.Bool.Decides.{eqb_tells}
use Rattle.std.proofs.lemmas.List.{length-set, length-replicate}
use Rattle.std.proofs.lemmas.Option.{slice_get-get_or, same_Some}
use Rattle.std.specs.List.{IsDistinct}
use Rattle.med_value.specs.declared.cause.Cause.TheVariants.{Protocol, NoConnection}
use Rattle.med_syntax.specs.Tree.{Name}
use Rattle.fdw_api.specs.State.{BoxState}
use Rattle.med_exec.specs.Prelude.{ServesRun, none_held}
use Rattle.med_exec.specs.Rests.{held}
use Rattle.med_exec.proofs.Served.{all_served}
use Rattle.med_world.specs.Open.{Opened, Seated, held_by, AreHeld, AreOwn, all_cursors}
use Rattle.med_value.specs.Limits.{session_count}
use Rattle.sql_meaning.specs.Prelude.{opening, bye, IsSid, IsUser, no_pick, World, Session, new_session, IsOpen, with_session, without_sessions, NoneStands, done, refused, is_done}
use Rattle.med_world.specs.Seats.{seat_in, seat_of, user_of, new_seat, IsSoundSeat, AreSoundSeats, IsOpenAt, SeatAgrees}
use Rattle.med_world.specs.Engine.{Shown, EachBox, IsAtRest, AreHeldOnce, IsSound, Agrees, Leads, Closes, ClosesAll}
use Rattle.med_world.specs.Laws.{with_seats, with_boxes}
use Rattle.med_world.proofs.Seats.{IsIn, place_there, open_in, seat_stays, stands_still}
use Rattle.med_world.proofs.Scans.{apart_none, Turned, turned_scans, others_stay, quiet_turn, one_of, among, seat_own, all_own, seat_held, all_held, closed_rest, all_closed_scans}
use Rattle.med_world.proofs.Faring.{set_same, set_other, none_rises}
use Rattle.med_world.proofs.Serving.{run_rises, sources_served, rows_served, none_typed, run_sound}
use Rattle.med_world.proofs.Asks.{asks_refused, asks_unread}
use Rattle.med_world.proofs.Told.{told_protocol, told_bye}
use Rattle.med_world.proofs.Leading.{calm, calm_befell, calm_unasked, leads_refused}

-- ---- open, or not

open_same : (boxes : List (Option BoxState)) (w : World) (seat : Option Seated) (s : Option Session) → SeatAgrees boxes w seat s → is_some s ≡ is_some (option_map (λ (x : Seated). x.user) seat)
open_same boxes w None None h = refl
open_same boxes w None (Some s) h = absurd h
open_same boxes w (Some seat) None h = absurd h
open_same boxes w (Some seat) (Some s) h = refl

pub is_open_by : (e : Shown) (w : World) (sid : ℕ) → Agrees e w → IsSid sid → is_some (user_of e.seats sid) ≡ true → IsOpen w sid
is_open_by e w sid a s h = open_same e.boxes w (seat_of e.seats sid) (w.sessions sid) (a.sessions sid s) ∙ h

pub is_closed_by : (e : Shown) (w : World) (sid : ℕ) → Agrees e w → IsSid sid → is_some (user_of e.seats sid) ≡ false → IsOpen w sid → ⊥
is_closed_by e w sid a s h o = false≢true (sym h ∙ sym (open_same e.boxes w (seat_of e.seats sid) (w.sessions sid) (a.sessions sid s)) ∙ o)

-- ---- one session is another one now

-- its place
pub seat_now : (seats : List (Option Seated)) (sid : ℕ) (seat : Option Seated) → IsSid sid → length seats ≡ session_count → seat_of (slice_set seats (sid - 1) seat) sid ≡ seat
seat_now seats sid seat (one, most) long =
    let within : sid - 1 < length seats = omega arith in
    ap seat_in (set_same seats (sid - 1) (slice_index_or seats (sid - 1) None) seat (slice_get-get_or seats (sid - 1) None within))

-- the places of others
seat_other : (seats : List (Option Seated)) (sid s : ℕ) (seat : Option Seated) → IsSid sid → IsSid s → s ≢ sid → seat_of (slice_set seats (sid - 1) seat) s ≡ seat_of seats s
seat_other seats sid s seat (one, most) (one', most') ne =
    let apart : s - 1 ≢ sid - 1 = λ h. ne (omega arith) in
    ap seat_in (set_other seats (sid - 1) (s - 1) seat apart)

-- two sessions have two places
places_apart : (k sid : ℕ) → IsSid k → IsSid sid → k ≢ sid → k - 1 ≢ sid - 1
places_apart k sid (one, most) (one', most') ne = λ h. ne (omega arith)

pub sid_within : (seats : List (Option Seated)) (sid : ℕ) → IsSid sid → length seats ≡ session_count → sid - 1 < length seats
sid_within seats sid (one, most) long = omega (arith, long)

-- The session becomes this one, in the engine as in the world, whose boxes have served those cursors that go or run on.
pub turned_agrees : (e : Shown) (w : World) (new : List (Option BoxState)) (sid : ℕ) (seat : Option Seated) (s : Option Session) → IsSid sid → length e.seats ≡ session_count → Turned e (sid - 1) seat new
    → SeatAgrees new (with_session w sid s) seat s → Agrees e w → Agrees (with_boxes (with_seats e (slice_set e.seats (sid - 1) seat)) new) (with_session w sid s)
turned_agrees e w new sid seat s is long t here a = record {
  catalog = a.catalog;
  scans = turned_scans e (sid - 1) seat new (sid_within e.seats sid is long) a.scans t;
  sources = a.sources ∙ sym (sources_served t.first t.last e.labels e.boxes new t.serves);
  rows = rows_served t.first t.last e.boxes new t.serves e.bound w.rows a.rows;
  sessions = λ k is_k. split k is_k (eqb_tells k sid);
}
  where
    after : World
    after = with_session w sid s

    split : (k : ℕ) → IsSid k → ((eqb k sid ≡ true) × (k ≡ sid)) ⊎ ((eqb k sid ≡ false) × (k ≢ sid)) → SeatAgrees new after (seat_of (slice_set e.seats (sid - 1) seat) k) (cond (eqb k sid) s (w.sessions k))
    split k is_k (inl same) =
        let place : seat_of (slice_set e.seats (sid - 1) seat) k ≡ seat = ap (seat_of (slice_set e.seats (sid - 1) seat)) same.1 ∙ seat_now e.seats sid seat is long in
        subst (λ (b : Option Session). SeatAgrees new after (seat_of (slice_set e.seats (sid - 1) seat) k) b) (sym (ap (λ b. cond b s (w.sessions k)) same.0))
        (subst (λ (x : Option Seated). SeatAgrees new after x s) (sym place) here)
    split k is_k (inr other) =
        subst (λ (b : Option Session). SeatAgrees new after (seat_of (slice_set e.seats (sid - 1) seat) k) b) (sym (ap (λ b. cond b s (w.sessions k)) other.0))
        (subst (λ (x : Option Seated). SeatAgrees new after x (w.sessions k)) (sym (seat_other e.seats sid k seat is is_k other.1))
        (seat_stays e.boxes new w after (seat_of e.seats k) (w.sessions k) (λ l e x. stands_still w after l refl refl x)
        (λ o has. others_stay e (sid - 1) seat new (sid_within e.seats sid is long) a.scans t (k - 1) o (open_in e.seats k o has) (places_apart k sid is_k is other.1)) (a.sessions k is_k)))

none_some_seat : (s : Seated) → None ≡ Some s → ⊥
none_some_seat s e = cc

-- one of them
seat_turned : (seats : List (Option Seated)) (place : ℕ) (seat : Option Seated) → place < length seats → AreSoundSeats seats → ((s : Seated) → seat ≡ Some s → IsSoundSeat s) → AreSoundSeats (slice_set seats place seat)
seat_turned seats place seat within h here k s at = split (eqb_tells k place)
  where
    split : ((eqb k place ≡ true) × (k ≡ place)) ⊎ ((eqb k place ≡ false) × (k ≢ place)) → IsSoundSeat s
    split (inl same) =
        let now : slice_get (slice_set seats place seat) place ≡ Some seat = set_same seats place (slice_index_or seats place None) seat (slice_get-get_or seats place None within) in
        here s (same_Some seat (Some s) (sym now ∙ ap (slice_get (slice_set seats place seat)) (sym same.1) ∙ at))
    split (inr other) = h k s (sym (set_other seats place k seat other.1) ∙ at)

pub turned_sound : (e : Shown) (new : List (Option BoxState)) (sid : ℕ) (seat : Option Seated) → IsSid sid → Turned e (sid - 1) seat new → IsSound e → ((s : Seated) → seat ≡ Some s → IsSoundSeat s)
    → IsSound (with_boxes (with_seats e (slice_set e.seats (sid - 1) seat)) new)
turned_sound e new sid seat is t sound here =
    let within = sid_within e.seats sid is sound.sessions in
    run_sound e (slice_set e.seats (sid - 1) seat) new t.first t.last sound (length-set e.seats (sid - 1) seat ∙ sound.sessions) (seat_turned e.seats (sid - 1) seat within sound.seated here) t.serves
    (λ slot number b scan has at live. (t.owns slot number b scan has at live).4)
    (turned_scans e (sid - 1) seat new within sound.scans t)

-- ---- OPEN

new_seat_sound : (user : Name) → IsSoundSeat (new_seat user)
unfolding IsDistinct
new_seat_sound user = record { apart = tt; few = omega arith }

no_user : (o : Option Seated) → is_some (option_map (λ (x : Seated). x.user) o) ≡ false → o ≡ None
no_user None h = refl
no_user (Some x) h = absurd (false≢true (sym h))

-- a session that is closed has no cursor
closed_none : (seats : List (Option Seated)) (sid : ℕ) (c : Opened) → seat_of seats sid ≡ None → IsOpenAt seats (sid - 1) c → ⊥
closed_none seats sid c closed h = none_some_seat h.seat (sym closed ∙ ap seat_in h.there)

new_none : (user : Name) (c : Opened) → IsIn (Some (new_seat user)) c → ⊥
new_none user c h = none_there c (subst (λ (s : Seated). Contains s.cursors c) (sym (same_Some (new_seat user) h.0 h.1)) h.2)
  where
    none_there : (c : Opened) → Contains [] c → ⊥
    none_there c has = let within = has.1 in omega arith

opened_turn : (e : Shown) (sid : ℕ) (user : Name) → is_some (user_of e.seats sid) ≡ false → Turned e (sid - 1) (Some (new_seat user)) e.boxes
opened_turn e sid user closed = quiet_turn e (sid - 1) (Some (new_seat user)) (all_served e.boxes) (λ c h. closed_none e.seats sid c (no_user (seat_of e.seats sid) closed) h) (new_none user)

pub opened : (e : Shown) (sid : ℕ) (user : Name) → IsSid sid → IsUser user → length e.seats ≡ session_count → is_some (user_of e.seats sid) ≡ false
    → Leads e sid (opening user) (done (codes "OPEN")) (with_seats e (slice_set e.seats (sid - 1) (Some (new_seat user))))
opened e sid user is is_user long closed = record {
  trouble = calm;
  befell = calm_befell e.boxes e.boxes;
  asked = λ x. absurd (calm_unasked x);
  rises = none_rises e.boxes;
  asks = asks_unread e sid (opening user) (done (codes "OPEN")) (with_seats e (slice_set e.seats (sid - 1) (Some (new_seat user)))) (λ text is. absurd (cc));
  step = λ w a. (
    with_session w sid (Some (new_session user)),
    is_done no_pick (λ s t x formed. absurd x) (none w a) (refl, refl),
    turned_agrees e w e.boxes sid (Some (new_seat user)) (Some (new_session user)) is long (opened_turn e sid user closed) (refl, tt) a,
  );
}
  where
    none : (w : World) → Agrees e w → NoneStands w sid no_pick (opening user)
    none w a c (inl (is_c, inl o)) = is_closed_by e w sid a is closed o
    none w a c (inl (is_c, inr n)) = n is_user
    none w a c (inr s) = s

pub opened_twice : (e : Shown) (sid : ℕ) (user : Name) → IsSid sid → (is_some (user_of e.seats sid) ≡ true) ⊎ (IsUser user → ⊥) → Leads e sid (opening user) (refused Protocol) e
opened_twice e sid user is h = leads_refused e e sid (opening user) Protocol (asks_refused e sid (opening user) Protocol e refl) (none_rises e.boxes) (λ w a. a) (λ w a. (no_pick, (λ s t x formed. absurd x), told_protocol w sid no_pick user (why w a h)))
  where
    why : (w : World) → Agrees e w → (is_some (user_of e.seats sid) ≡ true) ⊎ (IsUser user → ⊥) → IsOpen w sid ⊎ (IsUser user → ⊥)
    why w a (inl o) = inl (is_open_by e w sid a is o)
    why w a (inr n) = inr n

pub opened_sound : (e : Shown) (sid : ℕ) (user : Name) → IsSid sid → IsSound e → is_some (user_of e.seats sid) ≡ false → IsSound (with_seats e (slice_set e.seats (sid - 1) (Some (new_seat user))))
opened_sound e sid user is sound closed =
    turned_sound e e.boxes sid (Some (new_seat user)) is (opened_turn e sid user closed) sound
    (λ s same. subst IsSoundSeat (same_Some (new_seat user) s same) (new_seat_sound user))

-- ---- BYE, and the end of a session

-- the runs of its cursors were closed
shut_turn : (e : Shown) (new : List (Option BoxState)) (sid : ℕ) (seat : Seated) → seat_of e.seats sid ≡ Some seat → AreHeldOnce e.seats → ServesRun (held_by seat.cursors) none_held e.boxes new → Turned e (sid - 1) None new
shut_turn e new sid seat there once ends = record {
  first = held_by seat.cursors;
  last = none_held;
  serves = ends;
  name = [];
  others = λ j c is_open ne. (
    (λ slot number a b. let d = one_of seat.cursors slot number b in ne (once j (sid - 1) c d.0 slot number is_open (record { seat = seat; there = here; has = d.1 }) a d.2).0),
    apart_none (held c.run),
  );
  stay = λ c is_in. absurd (none_some_seat is_in.0 is_in.1);
  ends = λ c is_open. inr (among seat.cursors c (subst (λ (s : Seated). Contains s.cursors c) (same_Some is_open.seat seat (same_Some (Some is_open.seat) (Some seat) (sym is_open.there ∙ here))) is_open.has));
  owns = λ slot number t scan has at live. absurd (let n = has.1 in omega arith);
}
  where
    here : slice_get e.seats (sid - 1) ≡ Some (Some seat)
    here = place_there (slice_get e.seats (sid - 1)) seat there

-- no cursor was open
still_turn : (e : Shown) (sid : ℕ) → seat_of e.seats sid ≡ None → Turned e (sid - 1) None e.boxes
still_turn e sid closed = quiet_turn e (sid - 1) None (all_served e.boxes) (λ c h. closed_none e.seats sid c closed h) (λ c h. none_some_seat h.0 h.1)

shut_agrees : (e : Shown) (w : World) (new : List (Option BoxState)) (sid : ℕ) → IsSid sid → length e.seats ≡ session_count → Turned e (sid - 1) None new → Agrees e w
    → Agrees (with_boxes (with_seats e (slice_set e.seats (sid - 1) None)) new) (with_session w sid None)
shut_agrees e w new sid is long t a = turned_agrees e w new sid None None is long t tt a

pub closed : (e : Shown) (new : List (Option BoxState)) (sid : ℕ) (seat : Seated) → IsSid sid → length e.seats ≡ session_count → seat_of e.seats sid ≡ Some seat → ServesRun (held_by seat.cursors) none_held e.boxes new
    → Leads e sid bye (done (codes "BYE")) (with_boxes (with_seats e (slice_set e.seats (sid - 1) None)) new)
closed e new sid seat is long there ends = record {
  trouble = calm;
  befell = calm_befell e.boxes new;
  asked = λ x. absurd (calm_unasked x);
  rises = run_rises (held_by seat.cursors) none_held e.boxes new ends;
  asks = asks_unread e sid bye (done (codes "BYE")) (with_boxes (with_seats e (slice_set e.seats (sid - 1) None)) new) (λ text is. absurd (cc));
  step = λ w a. (with_session w sid None, is_done no_pick (λ s t x formed. absurd x) (none w a) (refl, refl), shut_agrees e w new sid is long (shut_turn e new sid seat there a.scans.once ends) a);
}
  where
    none : (w : World) → Agrees e w → NoneStands w sid no_pick bye
    none w a c (inl s) = s.1 (is_open_by e w sid a is (ap (λ (o : Option Seated). is_some (option_map (λ (x : Seated). x.user) o)) there))
    none w a c (inr s) = s

pub closed_twice : (e : Shown) (sid : ℕ) → IsSid sid → is_some (user_of e.seats sid) ≡ false → Leads e sid bye (refused NoConnection) e
closed_twice e sid is h = leads_refused e e sid bye NoConnection (asks_refused e sid bye NoConnection e refl) (none_rises e.boxes) (λ w a. a) (λ w a. (no_pick, (λ s t x formed. absurd x), told_bye w sid no_pick (is_closed_by e w sid a is h)))

shut_sound : (e : Shown) (new : List (Option BoxState)) (sid : ℕ) → IsSid sid → Turned e (sid - 1) None new → IsSound e → IsSound (with_boxes (with_seats e (slice_set e.seats (sid - 1) None)) new)
shut_sound e new sid is t sound = turned_sound e new sid None is t sound (λ s same. absurd (none_some_seat s same))

pub closed_sound : (e : Shown) (new : List (Option BoxState)) (sid : ℕ) (seat : Seated) → IsSid sid → IsSound e → seat_of e.seats sid ≡ Some seat → ServesRun (held_by seat.cursors) none_held e.boxes new
    → IsSound (with_boxes (with_seats e (slice_set e.seats (sid - 1) None)) new)
closed_sound e new sid seat is sound there ends = shut_sound e new sid is (shut_turn e new sid seat there sound.scans.once ends) sound

pub none_sound : (e : Shown) (sid : ℕ) → IsSid sid → IsSound e → seat_of e.seats sid ≡ None → IsSound (with_seats e (slice_set e.seats (sid - 1) None))
none_sound e sid is sound closed = shut_sound e e.boxes sid is (still_turn e sid closed) sound

pub closes : (e : Shown) (new : List (Option BoxState)) (sid : ℕ) (seat : Seated) → IsSid sid → length e.seats ≡ session_count → seat_of e.seats sid ≡ Some seat → ServesRun (held_by seat.cursors) none_held e.boxes new
    → Closes e sid (with_boxes (with_seats e (slice_set e.seats (sid - 1) None)) new)
closes e new sid seat is long there ends =
    record { others = refl; rises = run_rises (held_by seat.cursors) none_held e.boxes new ends; world = λ w a. shut_agrees e w new sid is long (shut_turn e new sid seat there a.scans.once ends) a }

pub closes_none : (e : Shown) (sid : ℕ) → IsSid sid → length e.seats ≡ session_count → seat_of e.seats sid ≡ None → Closes e sid (with_seats e (slice_set e.seats (sid - 1) None))
closes_none e sid is long closed = record { others = refl; rises = none_rises e.boxes; world = λ w a. shut_agrees e w e.boxes sid is long (still_turn e sid closed) a }

-- ---- all sessions

none_at : (n k : ℕ) → seat_in (slice_get (replicate n None) k) ≡ None
none_at zero k = refl
none_at (suc n) zero = refl
none_at (suc n) (suc k) = none_at n k

-- closed places
pub all_shut : (boxes : List (Option BoxState)) (w : World) (seats : List (Option Seated)) (sid : ℕ) → seats ≡ replicate session_count None → SeatAgrees boxes w (seat_of seats sid) None
all_shut boxes w seats sid closed =
    subst (λ (x : Option Seated). SeatAgrees boxes w x None) (sym (ap (λ (s : List (Option Seated)). seat_of s sid) closed ∙ none_at session_count (sid - 1))) tt

-- no cursor is open then
pub none_open : (seats : List (Option Seated)) → seats ≡ replicate session_count None → (place : ℕ) (c : Opened) → IsOpenAt seats place c → ⊥
none_open seats closed place c h =
    none_some_seat h.seat (sym (none_at session_count place) ∙ ap seat_in (sym (ap (λ (l : List (Option Seated)). slice_get l place) closed) ∙ h.there))

pub shut_seats : (seats : List (Option Seated)) → seats ≡ replicate session_count None → AreSoundSeats seats
shut_seats seats closed place s at =
    absurd (none_some_seat s (sym (none_at session_count place) ∙ ap seat_in (sym (ap (λ (l : List (Option Seated)). slice_get l place) closed) ∙ at)))

pub shut_many : (seats : List (Option Seated)) → seats ≡ replicate session_count None → length seats ≡ session_count
shut_many seats closed = ap length closed ∙ length-replicate {A = Option Seated} session_count None

pub closes_all : (e : Shown) (new : List (Option BoxState)) (seats : List (Option Seated)) → seats ≡ replicate session_count None → ServesRun (held_by (all_cursors e.seats)) none_held e.boxes new → ClosesAll e (with_boxes (with_seats e seats) new)
closes_all e new seats closed ends = record {
  others = refl;
  rises = run_rises (held_by (all_cursors e.seats)) none_held e.boxes new ends;
  world = λ w a. record {
    catalog = a.catalog;
    scans = all_closed_scans e new seats ends (none_open seats closed) a.scans;
    sources = a.sources ∙ sym (sources_served (held_by (all_cursors e.seats)) none_held e.labels e.boxes new ends);
    rows = rows_served (held_by (all_cursors e.seats)) none_held e.boxes new ends e.bound w.rows a.rows;
    sessions = λ sid is. all_shut new (without_sessions w) seats sid closed;
  };
}

pub closes_all_sound : (e : Shown) (new : List (Option BoxState)) (seats : List (Option Seated)) → IsSound e → seats ≡ replicate session_count None → ServesRun (held_by (all_cursors e.seats)) none_held e.boxes new → IsSound (with_boxes (with_seats e seats) new)
closes_all_sound e new seats sound closed ends =
    run_sound e seats new (held_by (all_cursors e.seats)) none_held sound (shut_many seats closed) (shut_seats seats closed) ends (none_typed new) (all_closed_scans e new seats ends (none_open seats closed) sound.scans)

-- no scan is live then
pub closed_at_rest : (e : Shown) → IsSound e → e.seats ≡ replicate session_count None → EachBox IsAtRest e.boxes
closed_at_rest e sound closed = closed_rest e sound.scans (none_open e.seats closed)

-- ---- cursors that are to be closed

pub seat_may_close : (e : Shown) (sid : ℕ) (seat : Seated) → IsSound e → seat_of e.seats sid ≡ Some seat → AreHeld seat.cursors e.boxes × AreOwn seat.cursors
seat_may_close e sid seat sound there =
    let here = place_there (slice_get e.seats (sid - 1)) seat there in
    (seat_held e.seats (sid - 1) seat e.boxes here sound.scans.running, seat_own e.seats (sid - 1) seat sound.scans.once sound.seated here)

pub all_may_close : (e : Shown) → IsSound e → AreHeld (all_cursors e.seats) e.boxes × AreOwn (all_cursors e.seats)
all_may_close e sound = (all_held e.seats e.boxes sound.scans.running, all_own e.seats sound.scans.once sound.seated)
