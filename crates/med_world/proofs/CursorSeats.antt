-- The session of a statement on cursors, in the engine and in a world that agrees; and engines that stay sound as its cursors change.
use Rattle.std.proofs.Common.{◌≡◌, ◌≢◌, ℕ, zero, suc, ◌+◌, ◌-◌, ◌<◌, ◌≤◌, ◌⊎◌, inl, inr, Bool, true, false, not, cond, Contains, List, [], ◌∷◌, ◌++◌, Option, Some, None, IsSome, is_some, length, slice_get, slice_set, refl, ap, sym, ◌∙◌, subst, arith}
use Rattle.std.proofs.lemmas.Bool.{false≢true, leb-true, leb-false}
use Rattle.std.proofs.lemmas.List.{length_push}
use Rattle.std.proofs.lemmas.List.Elements.{Contains-append_left, Contains-append_right, Contains-append_cases}
use Rattle.std.proofs.lemmas.Option.{same_Some}
use Rattle.med_value.specs.Datum.{Tuple}
use Rattle.med_value.specs.declared.cause.Cause.{Cause}
use Rattle.med_syntax.specs.Prelude.{Name, SelectTree, CountTree, CursorTree}
use Rattle.fdw_api.specs.Prelude.{Scan, BoxState, scan_of, IsTableOf}
use Rattle.med_exec.specs.Prelude.{BoxAt, AreApart, LeavesRun}
use Rattle.med_exec.specs.Rests.{held}
use Rattle.med_exec.specs.declared.running.Run.{Run}
use Rattle.med_exec.specs.Running.{Held as Scans, Served, ServesRun, none_held}
use Rattle.med_exec.proofs.Served.{serves_on}
use Rattle.med_exec.proofs.Leaving.{is_some_of, served_leaves, served_fresh}
use Rattle.med_exec.proofs.Left.{run_goes_on, run_is_held, held_is_live}
use Rattle.med_parser.specs.CommandTree.{on_cursors}
use Rattle.med_world.specs.Open.{Opened, Seated, is_full, has_name, opened_named, without_named, runs_on, with_run}
use Rattle.med_world.specs.Starting.{ScansOne, Starts, StartFails, not_bound, is_risky, no_room, too_many, run_fails}
use Rattle.med_world.specs.Fetching.{GivesRows}
use Rattle.sql_meaning.specs.Prelude.{sql, IsSid, no_pick, World, Session, cursor_named, IsPickOf}
use Rattle.med_world.specs.Seats.{seat_in, seat_of, IsSoundSeat, IsOpenAt, CursorsAgree, SeatAgrees}
use Rattle.med_world.specs.Engine.{Shown, LeasesNumber, IsOwned, IsSound, Agrees}
use Rattle.med_world.specs.Turning.{new_opened, with_cursors, having_asked, Ends, at_once, later}
use Rattle.med_world.specs.Laws.{IsRead, with_boxes}
use Rattle.med_world.proofs.Lists.{none_some, same_bytes, bytes_same, bytes_other}
use Rattle.med_world.proofs.NamedTables.{place_of, at_place, map_place, found_place, found_passes}
use Rattle.med_world.proofs.Faring.{same_box, set_same}
use Rattle.med_world.proofs.Seats.{RestsStay, on_stays, IsIn, place_there, here_first, here_later}
use Rattle.med_world.proofs.Scans.{apart_none, IsSpared, TurnsOn, Turned}
use Rattle.med_world.proofs.CursorRows.{place_leased}
use Rattle.med_world.proofs.Told.{pick_tree}
use Rattle.med_world.proofs.Leading.{cursors_in, session_in, known}
use Rattle.med_world.proofs.Serving.{served_onward, serving_sound}
use Rattle.med_world.proofs.Sessions.{turned_sound}
use Rattle.med_world.proofs.CursorLists.{IsFound, found, as_found, as_many, named_one, more_apart, fewer_apart, fewer_most, run_apart, run_most}

-- ---- its cursors

cursors_of : (boxes : List (Option BoxState)) (w : World) (seat : Option Seated) (s : Option Session) (x : Seated) → SeatAgrees boxes w seat s → seat ≡ Some x → CursorsAgree boxes w x.cursors (cursors_in s)
cursors_of boxes w None s x h e = absurd cc
cursors_of boxes w (Some seat) None x h e = absurd h
cursors_of boxes w (Some seat) (Some s) x h e = subst (λ (y : Seated). CursorsAgree boxes w y.cursors s.cursors) (same_Some seat x e) h.1

pub cursors_at : (e : Shown) (w : World) (sid : ℕ) (seat : Seated) → IsSid sid → seat_of e.seats sid ≡ Some seat → Agrees e w → CursorsAgree e.boxes w seat.cursors (cursors_in (w.sessions sid))
cursors_at e w sid seat is at a = cursors_of e.boxes w (seat_of e.seats sid) (w.sessions sid) seat (a.sessions sid is) at

-- a statement on cursors picks nothing
pub picks_none : (e : Shown) (w : World) (sid : ℕ) (text : List ℕ) (seat : Seated) (t : CursorTree) → Agrees e w → IsRead e sid text seat.user (on_cursors t) → IsPickOf w sid (sql text) no_pick
picks_none e w sid text seat t a read = pick_tree w sid no_pick text (session_in w sid seat.user) (on_cursors t) (known e w sid text seat.user (on_cursors t) a read) tt

-- the session has a cursor of a name in a world where it has one in the engine
pub not_named : (e : Shown) (w : World) (sid : ℕ) (seat : Seated) (name : Name) → IsSid sid → seat_of e.seats sid ≡ Some seat → Agrees e w → opened_named name seat.cursors ≡ None
    → IsSome (cursor_named name (session_in w sid seat.user)) → ⊥
not_named e w sid seat name is at a none there =
    false≢true (sym (ap is_some none) ∙ sym (as_found e.boxes w name seat.cursors (cursors_in (w.sessions sid)) (cursors_at e w sid seat is at a)) ∙ there)

pub is_named : (e : Shown) (w : World) (sid : ℕ) (seat : Seated) (name : Name) → IsSid sid → seat_of e.seats sid ≡ Some seat → Agrees e w → is_some (opened_named name seat.cursors) ≡ true → IsSome (cursor_named name (session_in w sid seat.user))
is_named e w sid seat name is at a there = as_found e.boxes w name seat.cursors (cursors_in (w.sessions sid)) (cursors_at e w sid seat is at a) ∙ there

none_of : {X : Type 0} (o : Option X) → (IsSome o → ⊥) → o ≡ None
none_of None h = refl
none_of (Some x) h = absurd (h refl)

pub has_none : (e : Shown) (w : World) (sid : ℕ) (seat : Seated) (name : Name) → IsSid sid → seat_of e.seats sid ≡ Some seat → Agrees e w → opened_named name seat.cursors ≡ None → cursor_named name (session_in w sid seat.user) ≡ None
has_none e w sid seat name is at a none = none_of (cursor_named name (session_in w sid seat.user)) (not_named e w sid seat name is at a none)

pub found_at : (e : Shown) (w : World) (sid : ℕ) (seat : Seated) (name : Name) (o : Opened) → IsSid sid → seat_of e.seats sid ≡ Some seat → Agrees e w → opened_named name seat.cursors ≡ Some o → IsFound e.boxes w name o (cursors_in (w.sessions sid))
found_at e w sid seat name o is at a here = found e.boxes w name seat.cursors (cursors_in (w.sessions sid)) o (cursors_at e w sid seat is at a) here

-- so many cursors
pub not_full : (e : Shown) (w : World) (sid : ℕ) (seat : Seated) → IsSid sid → seat_of e.seats sid ≡ Some seat → Agrees e w → is_full seat.cursors ≡ false → 16 ≤ length (session_in w sid seat.user).cursors → ⊥
not_full e w sid seat is at a room many =
    let same : length (cursors_in (w.sessions sid)) ≡ length seat.cursors = as_many e.boxes w seat.cursors (cursors_in (w.sessions sid)) (cursors_at e w sid seat is at a) in
    let few : length seat.cursors < 16 = leb-false 16 (length seat.cursors) room in
    omega (arith, same, few, many)

pub full_there : (e : Shown) (w : World) (sid : ℕ) (seat : Seated) → IsSid sid → seat_of e.seats sid ≡ Some seat → Agrees e w → is_full seat.cursors ≡ true → 16 ≤ length (session_in w sid seat.user).cursors
full_there e w sid seat is at a full =
    let same : length (cursors_in (w.sessions sid)) ≡ length seat.cursors = as_many e.boxes w seat.cursors (cursors_in (w.sessions sid)) (cursors_at e w sid seat is at a) in
    let many : 16 ≤ length seat.cursors = leb-true 16 (length seat.cursors) full in
    omega (arith, same, many)

-- ---- cursors that go, come or run on

pub here_of : (e : Shown) (sid : ℕ) (seat : Seated) → seat_of e.seats sid ≡ Some seat → slice_get e.seats (sid - 1) ≡ Some (Some seat)
here_of e sid seat at = place_there (slice_get e.seats (sid - 1)) seat at

-- the session whose seat was put in has it
pub seat_put : (seats : List (Option Seated)) (sid : ℕ) (seat after : Seated) → seat_of seats sid ≡ Some seat → seat_of (slice_set seats (sid - 1) (Some after)) sid ≡ Some after
seat_put seats sid seat after at = ap seat_in (set_same seats (sid - 1) (Some seat) (Some after) (place_there (slice_get seats (sid - 1)) seat at))

pub old_seat : (e : Shown) (sid : ℕ) (seat : Seated) → IsSound e → seat_of e.seats sid ≡ Some seat → IsSoundSeat seat
old_seat e sid seat sound at = sound.seated (sid - 1) seat (here_of e sid seat at)

some_seat : (a b : Seated) → Some (Some a) ≡ Some (Some b) → a ≡ b
some_seat a b e = cc

same_cursors : (a b : Seated) (c : Opened) → a ≡ b → Contains a.cursors c → Contains b.cursors c
same_cursors a b c e h = subst (λ (s : Seated). Contains s.cursors c) e h

module _ (e : Shown) (sid : ℕ) (seat : Seated) (sound : IsSound e) (at : seat_of e.seats sid ≡ Some seat) where
  pub open_here : (c : Opened) → Contains seat.cursors c → IsOpenAt e.seats (sid - 1) c
  open_here c has = record { seat = seat; there = here_of e sid seat at; has = has }

  pub is_here : (c : Opened) → IsOpenAt e.seats (sid - 1) c → Contains seat.cursors c
  is_here c h = same_cursors h.seat seat c (some_seat h.seat seat (sym h.there ∙ here_of e sid seat at)) h.has

  -- the scans of a cursor that is here are no other's
  module _ (o : Opened) (has_o : Contains seat.cursors o) where
    apart_there : (j : ℕ) (c : Opened) → IsOpenAt e.seats j c → j ≢ sid - 1 → AreApart (held c.run) (held o.run)
    apart_there j c is_open ne slot number a b = ne (sound.scans.once j (sid - 1) c o slot number is_open (open_here o has_o) a b).0

    apart_here : (c : Opened) → Contains seat.cursors c → (c.name ≡ o.name → ⊥) → AreApart (held c.run) (held o.run)
    apart_here c has ne slot number a b = ne (sound.scans.once (sid - 1) (sid - 1) c o slot number (open_here c has) (open_here o has_o) a b).1

-- ---- one goes

pub name_of : (name : Name) (cursors : List Opened) (o : Opened) → opened_named name cursors ≡ Some o → o.name ≡ name
name_of name cursors o here = bytes_same o.name name (found_passes (has_name name) cursors o here)

pub has_of : (name : Name) (cursors : List Opened) (o : Opened) → opened_named name cursors ≡ Some o → Contains cursors o
has_of name cursors o here = let p = found_place (has_name name) cursors o here in at_place cursors p.0 o p.1

other_name : (name : Name) (cursors : List Opened) (o c : Opened) → opened_named name cursors ≡ Some o → has_name name c ≡ false → c.name ≡ o.name → ⊥
other_name name cursors o c here ne same = bytes_other c.name name ne (same ∙ name_of name cursors o here)

-- what is left out by a test, and what is not
left_in : (name : Name) (cursors : List Opened) (c : Opened) → Contains (without_named name cursors) c → Contains cursors c × (has_name name c ≡ false)
left_in name [] c h = absurd (let n = h.1 in omega arith)
left_in name (x ∷ xs) c h = split (λ k. let r = left_in name xs c k in (here_later x c xs r.0, r.1)) (has_name name x) refl h
  where
    at : (Contains (without_named name xs) c → Contains (x ∷ xs) c × (has_name name c ≡ false)) → (b : Bool) → has_name name x ≡ b → b ≡ false → (k : ℕ) × (slice_get (x ∷ without_named name xs) k ≡ Some c) → Contains (x ∷ xs) c × (has_name name c ≡ false)
    at rest b is none (zero, p) = let same : x ≡ c = same_Some x c p in (subst (λ (y : Opened). Contains (x ∷ xs) y) same (here_first x xs), ap (has_name name) (sym same) ∙ is ∙ none)
    at rest b is none (suc k, p) = rest (at_place (without_named name xs) k c p)

    split : (Contains (without_named name xs) c → Contains (x ∷ xs) c × (has_name name c ≡ false)) → (b : Bool) → has_name name x ≡ b → Contains (cond (not b) (x ∷ without_named name xs) (without_named name xs)) c → Contains (x ∷ xs) c × (has_name name c ≡ false)
    split rest true is k = rest k
    split rest false is k = at rest false is refl (place_of (x ∷ without_named name xs) c k)

still_in : (name : Name) (cursors : List Opened) (c : Opened) → Contains cursors c → has_name name c ≡ false → Contains (without_named name cursors) c
still_in name [] c h ne = h
still_in name (x ∷ xs) c h ne = split (λ later. still_in name xs c later ne) (has_name name x) refl (place_of (x ∷ xs) c h)
  where
    split : (Contains xs c → Contains (without_named name xs) c) → (b : Bool) → has_name name x ≡ b → (k : ℕ) × (slice_get (x ∷ xs) k ≡ Some c) → Contains (cond (not b) (x ∷ without_named name xs) (without_named name xs)) c
    split rest true is (zero, p) = absurd (false≢true (sym ne ∙ ap (has_name name) (sym (same_Some x c p)) ∙ is))
    split rest true is (suc k, p) = rest (at_place xs k c p)
    split rest false is (zero, p) = subst (λ (y : Opened). Contains (x ∷ without_named name xs) y) (same_Some x c p) (here_first x (without_named name xs))
    split rest false is (suc k, p) = here_later x c (without_named name xs) (rest (at_place xs k c p))

-- a run that was closed, whatever was asked of it before
pub ends_serve : (run : Run) (old new : List (Option BoxState)) → Ends run old new → ServesRun (held run) none_held old new
ends_serve run old new (at_once h) = h
ends_serve run old new (later after mid h k) = serves_on (held run) (held after) none_held old mid new h k

by_name : {P : Type 0} (name : Name) (c : Opened) → (has_name name c ≡ true → P) → (has_name name c ≡ false → P) → P
by_name {P} name c has lacks = split (has_name name c) refl
  where
    split : (b : Bool) → has_name name c ≡ b → P
    split true is = has is
    split false is = lacks is

pub ended_turn : (e : Shown) (new : List (Option BoxState)) (sid : ℕ) (seat : Seated) (name : Name) (o : Opened) (asked : ℕ) → IsSound e → seat_of e.seats sid ≡ Some seat → opened_named name seat.cursors ≡ Some o → Ends o.run e.boxes new
    → Turned e (sid - 1) (Some (record seat { cursors = without_named name seat.cursors; asked = asked })) new
ended_turn e new sid seat name o asked sound at here ends = record {
  first = held o.run;
  last = none_held;
  serves = ends_serve o.run e.boxes new ends;
  name = name;
  others = λ j c is_open ne. (apart_there e sid seat sound at o has_o j c is_open ne, apart_none (held c.run));
  stay = λ c is_in. let r = left_in name seat.cursors c (same_cursors is_in.0 after c (some_seat is_in.0 after (ap Some (sym is_in.1))) is_in.2) in
      inl (open_here e sid seat sound at c r.0, (apart_here e sid seat sound at o has_o c r.0 (other_name name seat.cursors o c here r.1), apart_none (held c.run)));
  ends = λ c is_open. let has = is_here e sid seat sound at c is_open in by_name name c
      (λ is. inr (λ slot number own. subst (λ (x : Opened). Contains (held x.run slot) number) (named_one name seat.cursors o c (old_seat e sid seat sound at).apart here has is) own))
      (λ ne. inl (after, refl, still_in name seat.cursors c has ne));
  owns = λ slot number t scan has b live. absurd (let n = has.1 in omega arith);
}
  where
    after : Seated
    after = record seat { cursors = without_named name seat.cursors; asked = asked }

    has_o : Contains seat.cursors o
    has_o = has_of name seat.cursors o here

-- ---- one runs on

-- the cursors of a session one of which runs on
ran_on : (name : Name) (run : Run) (cursors : List Opened) (c : Opened) → Contains (with_run name run cursors) c → (d : Opened) × Contains cursors d × (runs_on name run d ≡ c)
ran_on name run [] c h = absurd (let n = h.1 in omega arith)
ran_on name run (x ∷ xs) c h = split (λ later. ran_on name run xs c later) (place_of (with_run name run (x ∷ xs)) c h)
  where
    split : (Contains (with_run name run xs) c → (d : Opened) × Contains xs d × (runs_on name run d ≡ c)) → (k : ℕ) × (slice_get (runs_on name run x ∷ with_run name run xs) k ≡ Some c) → (d : Opened) × Contains (x ∷ xs) d × (runs_on name run d ≡ c)
    split rest (zero, p) = (x, here_first x xs, same_Some (runs_on name run x) c p)
    split rest (suc k, p) = let r = rest (at_place (with_run name run xs) k c p) in (r.0, here_later x r.0 xs r.1, r.2)

runs_in : (name : Name) (run : Run) (cursors : List Opened) (d : Opened) → Contains cursors d → Contains (with_run name run cursors) (runs_on name run d)
runs_in name run cursors d h = let p = place_of cursors d h in at_place (with_run name run cursors) p.0 (runs_on name run d) (map_place (runs_on name run) cursors p.0 d p.1)

it_runs : (name : Name) (run : Run) (d : Opened) → has_name name d ≡ true → runs_on name run d ≡ record d { run = run }
it_runs name run d is = ap (λ b. cond b (record d { run = run }) d) is

it_stays : (name : Name) (run : Run) (d : Opened) → has_name name d ≡ false → runs_on name run d ≡ d
it_stays name run d ne = ap (λ b. cond b (record d { run = run }) d) ne

module _ (e : Shown) (new : List (Option BoxState)) (sid : ℕ) (seat : Seated) (name : Name) (asked : CountTree) (o : Opened) (rows : List Tuple) (run : Run) (count : ℕ) (sound : IsSound e) (at : seat_of e.seats sid ≡ Some seat)
    (here : opened_named name seat.cursors ≡ Some o) (g : GivesRows o.run asked e.boxes rows run new) where
  abbrev pub after : Seated
  after = record seat { cursors = with_run name run seat.cursors; asked = count }

  has_o : Contains seat.cursors o
  has_o = has_of name seat.cursors o here

  abbrev now : Opened
  now = record o { run = run }

  is_o : (c : Opened) → Contains seat.cursors c → has_name name c ≡ true → c ≡ o
  is_o c has is = named_one name seat.cursors o c (old_seat e sid seat sound at).apart here has is

  goes : (slot number : ℕ) → Contains (held run slot) number → Contains (held o.run slot) number
  goes slot number own = subst (λ (h : Scans). Contains (h slot) number) g.same own

  apart_both : (c : Opened) → AreApart (held c.run) (held o.run) → IsSpared (held o.run) (held run) c
  apart_both c h = (h, (λ slot number a b. h slot number a (goes slot number b)))

  -- the cursor, once it has run on
  now_in : Contains after.cursors now
  now_in = subst (λ (x : Opened). Contains after.cursors x) (it_runs name run o (found_passes (has_name name) seat.cursors o here)) (runs_in name run seat.cursors o has_o)

  stays : (c : Opened) → Contains after.cursors c → (IsOpenAt e.seats (sid - 1) c × IsSpared (held o.run) (held run) c) ⊎ TurnsOn o.name (held run) new c
  stays c h = let d = ran_on name run seat.cursors c h in by_name name d.0
      (λ is. inr (subst (TurnsOn o.name (held run) new) (ap (λ (x : Opened). record x { run = run }) (sym (is_o d.0 d.1 is)) ∙ sym (it_runs name run d.0 is) ∙ d.2) (record { named = refl; running = g.running; within = λ slot number own. own })))
      (λ ne. inl (subst (λ (x : Opened). IsOpenAt e.seats (sid - 1) x × IsSpared (held o.run) (held run) x) (sym (it_stays name run d.0 ne) ∙ d.2)
      (open_here e sid seat sound at d.0 d.1, apart_both d.0 (apart_here e sid seat sound at o has_o d.0 d.1 (other_name name seat.cursors o d.0 here ne)))))

  -- what it holds is of the table that it was of
  owns : (slot number : ℕ) (t : BoxState) (scan : Scan) → Contains (held run slot) number → slice_get new slot ≡ Some (Some t) → scan_of t number ≡ Some scan
      → (c : Opened) × IsIn (Some after) c × Contains (held c.run slot) number × LeasesNumber e.catalog.tables e.bound c slot scan.table × IsTableOf t scan.table scan.kinds
  owns slot number t scan own at_t live = (now, (after, refl, now_in), own, leases, bound)
    where
      was_own : Contains (held o.run slot) number
      was_own = goes slot number own

      was : BoxAt e.boxes slot (λ s. IsSome (scan_of s number))
      was = held_is_live o.run e.boxes slot number (run_is_held o.run e.boxes (sound.scans.running (sid - 1) o (open_here e sid seat sound at o has_o))) was_own

      before : (x : Scan) × (scan_of was.box number ≡ Some x)
      before = is_some_of (scan_of was.box number) was.holds

      same : (scan.table ≡ before.0.table) × (scan.kinds ≡ before.0.kinds)
      same = g.tables slot number was_own was.box t was.there at_t before.0 scan before.1 live

      owned : IsOwned e slot number before.0.table
      owned = sound.scans.owned slot number was.box before.0 was.there before.1

      once : (owned.place ≡ sid - 1) × (owned.cursor.name ≡ o.name)
      once = sound.scans.once owned.place (sid - 1) owned.cursor o slot number owned.is_open (open_here e sid seat sound at o has_o) owned.holds was_own

      its : owned.cursor ≡ o
      its = is_o owned.cursor (is_here e sid seat sound at owned.cursor (subst (λ (k : ℕ). IsOpenAt e.seats k owned.cursor) once.0 owned.is_open))
          (same_bytes owned.cursor.name name (once.1 ∙ name_of name seat.cursors o here))

      old_leases : LeasesNumber e.catalog.tables e.bound o slot scan.table
      old_leases = subst (λ (x : Opened). LeasesNumber e.catalog.tables e.bound x slot scan.table) its (subst (LeasesNumber e.catalog.tables e.bound owned.cursor slot) (sym same.0) owned.leased)

      leases : LeasesNumber e.catalog.tables e.bound now slot scan.table
      leases = record {
        place = old_leases.place;
        table = old_leases.table;
        at = old_leases.at;
        there = old_leases.there;
        is_bound = old_leases.is_bound;
        source_is = old_leases.source_is;
        number_is = old_leases.number_is;
        leases = old_leases.leases;
      }

      table : IsTableOf was.box before.0.table before.0.kinds
      table = (sound.sound_boxes slot was.box was.there).scans number before.0 before.1

      p : (c : BoxState) × (slice_get new slot ≡ Some (Some c)) × Served (held o.run slot) (held run slot) was.box c
      p = served_onward (held o.run) (held run) e.boxes new g.served slot was.box was.there

      bound : IsTableOf t scan.table scan.kinds
      bound = subst (λ (n : ℕ). IsTableOf t n scan.kinds) (sym same.0) (subst (IsTableOf t before.0.table) (sym same.1)
          (subst (λ (b : BoxState). IsTableOf b before.0.table before.0.kinds) (same_box p.0 t (sym p.1 ∙ at_t)) (table.0, ap (λ f. f before.0.table) p.2.tables ∙ table.1, table.2)))

  pub fetched_turn : Turned e (sid - 1) (Some after) new
  fetched_turn = record {
    first = held o.run;
    last = held run;
    serves = g.served;
    name = o.name;
    others = λ j c is_open ne. apart_both c (apart_there e sid seat sound at o has_o j c is_open ne);
    stay = λ c is_in. stays c (same_cursors is_in.0 after c (some_seat is_in.0 after (ap Some (sym is_in.1))) is_in.2);
    ends = λ c is_open. let has = is_here e sid seat sound at c is_open in by_name name c
        (λ is. inr (λ slot number own. subst (λ (x : Opened). Contains (held x.run slot) number) (is_o c has is) own))
        (λ ne. inl (after, refl, subst (λ (x : Opened). Contains after.cursors x) (it_stays name run c ne) (runs_in name run seat.cursors c has)));
    owns = owns;
  }

  -- the other cursors of the session are left
  pub fetched_left : (c : Opened) → Contains seat.cursors c → has_name name c ≡ false → LeavesRun c.run e.boxes new
  fetched_left c has ne = let s = apart_both c (apart_here e sid seat sound at o has_o c has (other_name name seat.cursors o c here ne)) in served_leaves c.run (held o.run) (held run) e.boxes new g.served s.0 s.1

-- ---- one comes

module _ (e : Shown) (new : List (Option BoxState)) (sid : ℕ) (seat : Seated) (name : Name) (q : SelectTree) (names : List Name) (run : Run) (sound : IsSound e) (at : seat_of e.seats sid ≡ Some seat)
    (h : Starts e.catalog seat.user e.bound q (is_full seat.cursors) e.boxes names run new) where
  abbrev opened_now : Opened
  opened_now = new_opened name names q run

  abbrev pub seat_now : Seated
  seat_now = record seat { cursors = seat.cursors ++ opened_now ∷ [] }

  -- what it holds was not live, and what the others hold was
  fresh : (j : ℕ) (c : Opened) → IsOpenAt e.seats j c → AreApart (held c.run) (held run)
  fresh j c is_open slot number a b =
      let was = held_is_live c.run e.boxes slot number (run_is_held c.run e.boxes (sound.scans.running j c is_open)) a in
      let live = is_some_of (scan_of was.box number) was.holds in
      none_some live.0 (scan_of was.box number) (served_fresh (held run) e.boxes new slot number was.box h.served b was.there) live.1

  spared : (j : ℕ) (c : Opened) → IsOpenAt e.seats j c → IsSpared none_held (held run) c
  spared j c is_open = (apart_none (held c.run), fresh j c is_open)

  now_is : (c : Opened) → Contains (opened_now ∷ []) c → opened_now ≡ c
  now_is c has = one_place (place_of (opened_now ∷ []) c has)
    where
      one_place : (k : ℕ) × (slice_get (opened_now ∷ []) k ≡ Some c) → opened_now ≡ c
      one_place (zero, p) = same_Some opened_now c p
      one_place (suc k, p) = absurd (no_more k p)
        where
          no_more : (k : ℕ) → slice_get {X = Opened} [] k ≡ Some c → ⊥
          no_more k e = cc

  new_owns : (slot number : ℕ) (t : BoxState) (scan : Scan) → Contains (held run slot) number → slice_get new slot ≡ Some (Some t) → scan_of t number ≡ Some scan
      → (c : Opened) × IsIn (Some seat_now) c × Contains (held c.run slot) number × LeasesNumber e.catalog.tables e.bound c slot scan.table × IsTableOf t scan.table scan.kinds
  new_owns slot number t scan own at_t live = (opened_now, (seat_now, refl, Contains-append_right seat.cursors (opened_now ∷ []) opened_now (here_first opened_now [])), own, leases, bound)
    where
      x : BoxAt new slot (ScansOne h.places slot number)
      x = h.holds slot number own

      box : x.box ≡ t
      box = same_box x.box t (sym x.there ∙ at_t)

      one : x.holds.scan ≡ scan
      one = same_Some x.holds.scan scan (sym x.holds.live ∙ ap (λ (b : BoxState). scan_of b number) box ∙ live)

      leases : LeasesNumber e.catalog.tables e.bound opened_now slot scan.table
      leases = place_leased e.catalog seat.user e.bound q names name run h.places slot scan.table x.holds.place h.bindable h.are x.holds.is_one x.holds.source (x.holds.table ∙ ap (λ (s : Scan). s.table) one)

      bound : IsTableOf t scan.table scan.kinds
      bound = subst (λ (s : Scan). IsTableOf t s.table s.kinds) one (subst (λ (b : BoxState). IsTableOf b x.holds.scan.table x.holds.scan.kinds) box x.holds.bound)

  pub declared_turn : Turned e (sid - 1) (Some seat_now) new
  declared_turn = record {
    first = none_held;
    last = held run;
    serves = h.served;
    name = name;
    others = λ j c is_open ne. spared j c is_open;
    stay = λ c is_in. split c (Contains-append_cases seat.cursors (opened_now ∷ []) c (same_cursors is_in.0 seat_now c (some_seat is_in.0 seat_now (ap Some (sym is_in.1))) is_in.2));
    ends = λ c is_open. inl (seat_now, refl, Contains-append_left seat.cursors (opened_now ∷ []) c (is_here e sid seat sound at c is_open));
    owns = new_owns;
  }
    where
      split : (c : Opened) → Contains seat.cursors c ⊎ Contains (opened_now ∷ []) c → (IsOpenAt e.seats (sid - 1) c × IsSpared none_held (held run) c) ⊎ TurnsOn name (held run) new c
      split c (inl was) = let o = open_here e sid seat sound at c was in inl (o, spared (sid - 1) c o)
      split c (inr is) = inr (subst (TurnsOn name (held run) new) (now_is c is) (record { named = refl; running = h.running; within = λ slot number own. own }))

  pub declared_left : (c : Opened) → Contains seat.cursors c → LeavesRun c.run e.boxes new
  declared_left c has = let s = spared (sid - 1) c (open_here e sid seat sound at c has) in served_leaves c.run none_held (held run) e.boxes new h.served s.0 s.1

-- the cursors that stay where one goes are left
pub ended_left : (e : Shown) (new : List (Option BoxState)) (sid : ℕ) (seat : Seated) (name : Name) (o : Opened) → IsSound e → seat_of e.seats sid ≡ Some seat → opened_named name seat.cursors ≡ Some o → Ends o.run e.boxes new
    → (c : Opened) → Contains (without_named name seat.cursors) c → LeavesRun c.run e.boxes new
ended_left e new sid seat name o sound at here ends c has =
    let r = left_in name seat.cursors c has in
    served_leaves c.run (held o.run) none_held e.boxes new (ends_serve o.run e.boxes new ends)
    (apart_here e sid seat sound at o (has_of name seat.cursors o here) c r.0 (other_name name seat.cursors o c here r.1)) (apart_none (held c.run))

-- a run of this session that is left goes on as it was
pub here_stays : (e : Shown) (new : List (Option BoxState)) (sid : ℕ) (seat : Seated) (c : Opened) → IsSound e → seat_of e.seats sid ≡ Some seat → Contains seat.cursors c → LeavesRun c.run e.boxes new → RestsStay e.boxes new c
here_stays e new sid seat c sound at has left = on_stays e.boxes new c (run_goes_on c.run e.boxes new (sound.scans.running (sid - 1) c (record { seat = seat; there = here_of e sid seat at; has = has })) left)

pub left_here : (name : Name) (cursors : List Opened) (c : Opened) → Contains (without_named name cursors) c → Contains cursors c
left_here name cursors c has = (left_in name cursors c has).0

-- ---- engines that stay sound

turned_here : (e : Shown) (new : List (Option BoxState)) (sid : ℕ) (seat : Seated) (cursors : List Opened) → IsSid sid → Turned e (sid - 1) (Some (record seat { cursors = cursors })) new → IsSound e → IsSoundSeat (record seat { cursors = cursors }) → IsSound (with_cursors e sid seat cursors new)
turned_here e new sid seat cursors is t sound here =
    turned_sound e new sid (Some (record seat { cursors = cursors })) is t sound (λ s same. subst IsSoundSeat (same_Some (record seat { cursors = cursors }) s same) here)

pub declared_sound : (e : Shown) (new : List (Option BoxState)) (sid : ℕ) (seat : Seated) (name : Name) (q : SelectTree) (names : List Name) (run : Run) → IsSid sid → IsSound e → seat_of e.seats sid ≡ Some seat → opened_named name seat.cursors ≡ None
    → Starts e.catalog seat.user e.bound q (is_full seat.cursors) e.boxes names run new → IsSound (with_cursors e sid seat (seat.cursors ++ new_opened name names q run ∷ []) new)
declared_sound e new sid seat name q names run is sound at none h =
    let old = old_seat e sid seat sound at in
    let few : length seat.cursors < 16 = leb-false 16 (length seat.cursors) h.room in
    let one_more : length (seat.cursors ++ new_opened name names q run ∷ []) ≡ length seat.cursors + 1 = length_push seat.cursors (new_opened name names q run) in
    turned_here e new sid seat (seat.cursors ++ new_opened name names q run ∷ []) is (declared_turn e new sid seat name q names run sound at h) sound
    (record { apart = more_apart seat.cursors (new_opened name names q run) none old.apart; few = omega (arith, few, one_more) })

pub not_declared_sound : (e : Shown) (new : List (Option BoxState)) (seat : Seated) (q : SelectTree) (c : Cause) → IsSound e → StartFails e.catalog seat.user e.bound q (is_full seat.cursors) e.boxes c new → IsSound (with_boxes e new)
not_declared_sound e new seat q c sound (not_bound why same) = subst (λ (x : List (Option BoxState)). IsSound (with_boxes e x)) (sym same) sound
not_declared_sound e new seat q c sound (is_risky b risk is same) = subst (λ (x : List (Option BoxState)). IsSound (with_boxes e x)) (sym same) sound
not_declared_sound e new seat q c sound (no_room b safe full is same) = subst (λ (x : List (Option BoxState)). IsSound (with_boxes e x)) (sym same) sound
not_declared_sound e new seat q c sound (too_many b safe many is same) = subst (λ (x : List (Option BoxState)). IsSound (with_boxes e x)) (sym same) sound
not_declared_sound e new seat q c sound (run_fails b safe room few served places are why) = serving_sound e new served sound

pub fetched_sound : (e : Shown) (new : List (Option BoxState)) (sid : ℕ) (seat : Seated) (name : Name) (asked : CountTree) (o : Opened) (rows : List Tuple) (after : Run) (count : ℕ) → IsSid sid → IsSound e → seat_of e.seats sid ≡ Some seat
    → opened_named name seat.cursors ≡ Some o → GivesRows o.run asked e.boxes rows after new → IsSound (with_cursors e sid (having_asked seat count) (with_run name after seat.cursors) new)
fetched_sound e new sid seat name asked o rows after count is sound at here g =
    let old = old_seat e sid seat sound at in
    let most : length seat.cursors ≤ 16 = old.few in
    let same : length (with_run name after seat.cursors) ≡ length seat.cursors = run_most name after seat.cursors in
    turned_here e new sid (having_asked seat count) (with_run name after seat.cursors) is (fetched_turn e new sid seat name asked o rows after count sound at here g) sound
    (record { apart = run_apart name after seat.cursors old.apart; few = omega (arith, most, same) })

pub ended_sound : (e : Shown) (new : List (Option BoxState)) (sid : ℕ) (seat : Seated) (name : Name) (o : Opened) (asked : ℕ) → IsSid sid → IsSound e → seat_of e.seats sid ≡ Some seat → opened_named name seat.cursors ≡ Some o → Ends o.run e.boxes new
    → IsSound (with_cursors e sid (having_asked seat asked) (without_named name seat.cursors) new)
ended_sound e new sid seat name o asked is sound at here ends =
    let old = old_seat e sid seat sound at in
    let most : length seat.cursors ≤ 16 = old.few in
    let fewer : length (without_named name seat.cursors) ≤ length seat.cursors = fewer_most (λ c. not (has_name name c)) seat.cursors in
    turned_here e new sid (having_asked seat asked) (without_named name seat.cursors) is (ended_turn e new sid seat name o asked sound at here ends) sound
    (record { apart = fewer_apart (λ c. not (has_name name c)) seat.cursors old.apart; few = omega (arith, most, fewer) })
