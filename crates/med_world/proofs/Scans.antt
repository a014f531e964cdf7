-- Live scans of an engine's boxes, and the open cursors that hold them.
use Rattle.std.proofs.Common.{◌≡◌, ◌≢◌, ℕ, zero, suc, ◌-◌, ◌<◌, ◌⊎◌, inl, inr, eqb, true, false, List, [], ◌∷◌, ◌++◌, Option, Some, None, Contains, slice_get, slice_set, slice_index_or, length, map, refl, ap, sym, ◌∙◌, subst, arith, bytes_eq}
use Rattle.std.specs.List.{IsDistinct}
use Rattle.std.proofs.lemmas.Bool.{false≢true}
use Rattle.std.proofs.lemmas.Bool.Decides.{eqb_tells}
use Rattle.std.proofs.lemmas.List.Elements.{Contains-append_left, Contains-append_right, Contains-append_cases}
use Rattle.std.proofs.lemmas.Option.{slice_get-get_or, same_Some}
use Rattle.med_syntax.specs.Tree.{Name}
use Rattle.fdw_api.specs.Prelude.{BoxState, Scan, scan_of, NoScan, IsTableOf}
use Rattle.med_exec.specs.Prelude.{BoxAt, Held, ServesRun, AllServed, none_held, AreApart, LeavesRun, GoesOn}
use Rattle.med_exec.specs.Rests.{held, IsRunning}
use Rattle.med_exec.proofs.Served.{box_inj, before_service}
use Rattle.med_exec.proofs.Leaving.{in_or_not, served_leaves, served_had}
use Rattle.med_exec.proofs.Left.{run_goes_on, run_is_held}
use Rattle.med_catalog.specs.Objects.{TableObject}
use Rattle.med_binder.specs.Places.{Attached}
use Rattle.med_world.specs.Open.{Opened, Seated, AreNamedApart, leases_table, seat_leases, any_leases, held_by, AreHeld, AreOwn, seat_cursors, all_cursors}
use Rattle.med_world.specs.Seats.{AreSoundSeats, IsOpenAt}
use Rattle.med_world.specs.Engine.{Shown, leased, EachBox, IsAtRest, LeasesNumber, IsOwned, AreHeldOnce, IsUnstaged, KeepsScans}
use Rattle.med_world.specs.Laws.{with_boxes, with_seats}
use Rattle.med_world.proofs.Lists.{bytes_other, each_at}
use Rattle.med_world.proofs.NamedTables.{place_of, at_place, map_place}
use Rattle.med_world.proofs.Faring.{set_same, set_other}
use Rattle.med_world.proofs.Seats.{RestsStay, on_stays, AllStay, IsIn, any_at, here_first, here_later}

none_in : (number : ℕ) → Contains [] number → ⊥
none_in number h = let n = h.1 in omega arith

pub apart_none : (own : Held) → AreApart own none_held
apart_none own slot number a b = none_in number b

-- ---- boxes change, and no session does

-- each scan that is live now was so before
abbrev pub HadScans : List (Option BoxState) → List (Option BoxState) → Type 0
HadScans old new = (slot number : ℕ) (t : BoxState) (scan : Scan) → slice_get new slot ≡ Some (Some t) → scan_of t number ≡ Some scan → BoxAt old slot (λ s. scan_of s number ≡ Some scan)

-- the scans of all open cursors are left
abbrev pub AllLeft : Shown → List (Option BoxState) → Type 0
AllLeft e new = (place : ℕ) (c : Opened) → IsOpenAt e.seats place c → LeavesRun c.run e.boxes new

-- a table that a cursor leases is bound as it was
abbrev pub KeepsLeases : Shown → Shown → Type 0
KeepsLeases e n =
    (place : ℕ) (c : Opened) (slot number : ℕ) → IsOpenAt e.seats place c → LeasesNumber e.catalog.tables e.bound c slot number → LeasesNumber n.catalog.tables n.bound c slot number

pub leases_itself : (e : Shown) (place : ℕ) (c : Opened) (slot number : ℕ) → IsOpenAt e.seats place c → LeasesNumber e.catalog.tables e.bound c slot number → LeasesNumber e.catalog.tables e.bound c slot number
leases_itself e place c slot number is_open h = h

pub scans_kept : (e n : Shown) → n.seats ≡ e.seats → KeepsScans e → EachBox IsUnstaged n.boxes → AllLeft e n.boxes → HadScans e.boxes n.boxes → KeepsLeases e n → KeepsScans n
scans_kept e n same k unstaged left had leases = record {
  unstaged = unstaged;
  running = λ place c is_open. let was = back place c is_open in (run_goes_on c.run e.boxes n.boxes (k.running place c was) (left place c was)).running;
  owned = λ slot number t scan at live.
      let s = had slot number t scan at live in
      let o = k.owned slot number s.box scan s.there s.holds in
      record { place = o.place; cursor = o.cursor; is_open = subst (λ (seats : List (Option Seated)). IsOpenAt seats o.place o.cursor) (sym same) o.is_open; holds = o.holds; leased = leases o.place o.cursor slot scan.table o.is_open o.leased };
  once = subst AreHeldOnce (sym same) k.once;
}
  where
    back : (place : ℕ) (c : Opened) → IsOpenAt n.seats place c → IsOpenAt e.seats place c
    back place c h = subst (λ (seats : List (Option Seated)). IsOpenAt seats place c) same h

pub all_stay : (e : Shown) (new : List (Option BoxState)) → KeepsScans e → AllLeft e new → AllStay e new
all_stay e new k left j o is_open = on_stays e.boxes new o (run_goes_on o.run e.boxes new (k.running j o is_open) (left j o is_open))

-- ---- boxes that served runs

pub served_unstaged : (first last : Held) (old new : List (Option BoxState)) → ServesRun first last old new → EachBox IsUnstaged old → EachBox IsUnstaged new
served_unstaged first last old new h each slot t at =
    let p = before_service first last old new slot t h at in
    ap (λ (b : BoxState). b.ledger.staged) (sym (box_inj p.after t (sym p.is ∙ at))) ∙ p.served.staged ∙ each slot p.before p.was

pub all_left : (e : Shown) (new : List (Option BoxState)) → AllServed e.boxes new → AllLeft e new
all_left e new h place c is_open = served_leaves c.run none_held none_held e.boxes new h (apart_none (held c.run)) (apart_none (held c.run))

pub serving_scans : (e : Shown) (new : List (Option BoxState)) → AllServed e.boxes new → KeepsScans e → KeepsScans (with_boxes e new)
serving_scans e new h k =
    scans_kept e (with_boxes e new) refl k (served_unstaged none_held none_held e.boxes new h k.unstaged) (all_left e new h)
    (λ slot number t scan at live. (served_had none_held none_held e.boxes new slot number t scan h (none_in number) at live).0) (leases_itself e)

-- ---- a table that is not leased has no live scan

pub leased_by : (seats : List (Option Seated)) (place : ℕ) (c : Opened) (name : Name) → IsOpenAt seats place c → leases_table name c ≡ true → any_leases seats name ≡ true
leased_by seats place c name is_open leases =
    let p = place_of is_open.seat.cursors c is_open.has in
    any_at (seat_leases name) seats place (Some is_open.seat) is_open.there (any_at (leases_table name) is_open.seat.cursors p.0 c p.1 leases)

-- no two places have one table of a box
abbrev pub BoundOnce : List Attached → Type 0
BoundOnce bound = (j k : ℕ) (a b : Attached) → slice_get bound j ≡ Some a → slice_get bound k ≡ Some b → a.source ≡ b.source → a.number ≡ b.number → j ≡ k

pub unleased_scan : (e : Shown) (k : ℕ) (t : TableObject) (a : Attached) (s : BoxState) → BoundOnce e.bound → KeepsScans e → slice_get e.catalog.tables k ≡ Some t → slice_get e.bound k ≡ Some a → leased e t.name ≡ false
    → slice_get e.boxes a.source ≡ Some (Some s) → NoScan s a.number
unleased_scan e k t a s once keeps at_t at_a free there q scan live same =
    let o = keeps.owned a.source q s scan there live in
    let l = o.leased in
    let one : l.place ≡ k = once l.place k l.at a l.is_bound at_a l.source_is (l.number_is ∙ same) in
    let is_t : l.table ≡ t = same_Some l.table t (sym l.there ∙ ap (slice_get e.catalog.tables) one ∙ at_t) in
    false≢true (sym free ∙ leased_by e.seats o.place o.cursor t.name o.is_open (ap (λ (x : TableObject). leases_table x.name o.cursor) (sym is_t) ∙ l.leases))

-- ---- one session becomes another one

-- the scans of a cursor are none of these, and none of those
abbrev pub IsSpared : Held → Held → Opened → Type 0
IsSpared first last c = AreApart (held c.run) first × AreApart (held c.run) last

abbrev pub AllIn : Opened → Held → Type 0
AllIn c own = (slot number : ℕ) → Contains (held c.run slot) number → Contains (own slot) number

-- a cursor that is new, or has run on
pub record TurnsOn (name : Name) (last : Held) (new : List (Option BoxState)) (c : Opened) : Type 0 where
  pub named : c.name ≡ name
  pub running : IsRunning c.run new
  pub within : AllIn c last

-- A session's cursors change with the boxes: those that go held scans that were ended, those that stay none that was asked, and the scans that are held
-- instead are those of a cursor that is new or has run on.
pub record Turned (e : Shown) (place : ℕ) (seat : Option Seated) (new : List (Option BoxState)) : Type 0 where
  pub first : Held
  pub last : Held
  pub serves : ServesRun first last e.boxes new
  pub name : Name
  pub others : (j : ℕ) (c : Opened) → IsOpenAt e.seats j c → j ≢ place → IsSpared first last c
  pub stay : (c : Opened) → IsIn seat c → (IsOpenAt e.seats place c × IsSpared first last c) ⊎ TurnsOn name last new c
  pub ends : (c : Opened) → IsOpenAt e.seats place c → IsIn seat c ⊎ AllIn c first
  pub owns : (slot number : ℕ) (t : BoxState) (scan : Scan) → Contains (last slot) number → slice_get new slot ≡ Some (Some t) → scan_of t number ≡ Some scan
      → (c : Opened) × IsIn seat c × Contains (held c.run slot) number × LeasesNumber e.catalog.tables e.bound c slot scan.table × IsTableOf t scan.table scan.kinds

pub seat_set : (seats : List (Option Seated)) (place : ℕ) (seat : Option Seated) → place < length seats → slice_get (slice_set seats place seat) place ≡ Some seat
seat_set seats place seat within = set_same seats place (slice_index_or seats place None) seat (slice_get-get_or seats place None within)

-- whether a number is another one
pub same_or_not : {P : Type 0} (j k : ℕ) → (j ≡ k → P) → (j ≢ k → P) → P
same_or_not {P} j k a b = split (eqb_tells j k)
  where
    split : ((eqb j k ≡ true) × (j ≡ k)) ⊎ ((eqb j k ≡ false) × (j ≢ k)) → P
    split (inl s) = a s.1
    split (inr s) = b s.1

module _ (seats : List (Option Seated)) (place : ℕ) (seat : Option Seated) (within : place < length seats) where
  open_after : (j : ℕ) (c : Opened) → IsOpenAt (slice_set seats place seat) j c → (IsOpenAt seats j c × (j ≢ place)) ⊎ ((j ≡ place) × IsIn seat c)
  open_after j c h = same_or_not j place
      (λ same. inr (same, (h.seat, same_Some seat (Some h.seat) (sym (seat_set seats place seat within) ∙ ap (slice_get (slice_set seats place seat)) (sym same) ∙ h.there), h.has)))
      (λ ne. inl (record { seat = h.seat; there = sym (set_other seats place j seat ne) ∙ h.there; has = h.has }, ne))

  open_now : (c : Opened) → IsIn seat c → IsOpenAt (slice_set seats place seat) place c
  open_now c h = record { seat = h.0; there = seat_set seats place seat within ∙ ap Some h.1; has = h.2 }

  open_still : (j : ℕ) (c : Opened) → j ≢ place → IsOpenAt seats j c → IsOpenAt (slice_set seats place seat) j c
  open_still j c ne h = record { seat = h.seat; there = set_other seats place j seat ne ∙ h.there; has = h.has }

module _ (e : Shown) (place : ℕ) (seat : Option Seated) (new : List (Option BoxState)) (within : place < length e.seats) (keeps : KeepsScans e) (t : Turned e place seat new) where
  -- a run that is spared goes on
  pub spared_on : (j : ℕ) (c : Opened) → IsOpenAt e.seats j c → IsSpared t.first t.last c → GoesOn c.run e.boxes new
  spared_on j c is_open spared = run_goes_on c.run e.boxes new (keeps.running j c is_open) (served_leaves c.run t.first t.last e.boxes new t.serves spared.0 spared.1)

  abbrev Cases : ℕ → Opened → Type 0
  Cases j c = (IsOpenAt e.seats j c × IsSpared t.first t.last c) ⊎ ((j ≡ place) × TurnsOn t.name t.last new c)

  here : (j : ℕ) (c : Opened) → j ≡ place → (IsOpenAt e.seats place c × IsSpared t.first t.last c) ⊎ TurnsOn t.name t.last new c → Cases j c
  here j c same (inl s) = inl (subst (λ (k : ℕ). IsOpenAt e.seats k c) (sym same) s.0, s.1)
  here j c same (inr s) = inr (same, s)

  cases : (j : ℕ) (c : Opened) → IsOpenAt (slice_set e.seats place seat) j c → Cases j c
  cases j c h = split (open_after e.seats place seat within j c h)
    where
      split : (IsOpenAt e.seats j c × (j ≢ place)) ⊎ ((j ≡ place) × IsIn seat c) → Cases j c
      split (inl s) = inl (s.0, t.others j c s.0 s.1)
      split (inr s) = here j c s.0 (t.stay c s.1)

  runs : (j : ℕ) (c : Opened) → Cases j c → IsRunning c.run new
  runs j c (inl s) = (spared_on j c s.0 s.1).running
  runs j c (inr s) = s.1.running

  both : (j k : ℕ) (c d : Opened) (slot number : ℕ) → Cases j c → Cases k d → Contains (held c.run slot) number → Contains (held d.run slot) number → (j ≡ k) × (c.name ≡ d.name)
  both j k c d slot number (inl x) (inl y) a b = keeps.once j k c d slot number x.0 y.0 a b
  both j k c d slot number (inl x) (inr y) a b = absurd (x.1.1 slot number a (y.1.within slot number b))
  both j k c d slot number (inr x) (inl y) a b = absurd (y.1.1 slot number b (x.1.within slot number a))
  both j k c d slot number (inr x) (inr y) a b = (x.0 ∙ sym y.0, x.1.named ∙ sym y.1.named)

  owned_now : (slot number : ℕ) (s : BoxState) (scan : Scan) → slice_get new slot ≡ Some (Some s) → scan_of s number ≡ Some scan → IsOwned (with_boxes (with_seats e (slice_set e.seats place seat)) new) slot number scan.table
  owned_now slot number s scan at live = split (in_or_not number (t.last slot))
    where
      split : Contains (t.last slot) number ⊎ (Contains (t.last slot) number → ⊥) → IsOwned (with_boxes (with_seats e (slice_set e.seats place seat)) new) slot number scan.table
      split (inl has) =
          let o = t.owns slot number s scan has at live in
          record { place = place; cursor = o.0; is_open = open_now e.seats place seat within o.0 o.1; holds = o.2; leased = o.3 }
      split (inr out) =
          let was = served_had t.first t.last e.boxes new slot number s scan t.serves out at live in
          let o = keeps.owned slot number was.0.box scan was.0.there was.0.holds in
          same_or_not o.place place
          (λ same. stays o.cursor o.holds o.leased was.1 (t.ends o.cursor (subst (λ (k : ℕ). IsOpenAt e.seats k o.cursor) same o.is_open)))
          (λ ne. record { place = o.place; cursor = o.cursor; is_open = open_still e.seats place seat within o.place o.cursor ne o.is_open; holds = o.holds; leased = o.leased })
        where
          stays : (c : Opened) → Contains (held c.run slot) number → LeasesNumber e.catalog.tables e.bound c slot scan.table → (Contains (t.first slot) number → ⊥) → IsIn seat c ⊎ AllIn c t.first
              → IsOwned (with_boxes (with_seats e (slice_set e.seats place seat)) new) slot number scan.table
          stays c holds leases out_first (inl is_in) = record { place = place; cursor = c; is_open = open_now e.seats place seat within c is_in; holds = holds; leased = leases }
          stays c holds leases out_first (inr all) = absurd (out_first (all slot number holds))

  pub turned_scans : KeepsScans (with_boxes (with_seats e (slice_set e.seats place seat)) new)
  turned_scans = record {
    unstaged = served_unstaged t.first t.last e.boxes new t.serves keeps.unstaged;
    running = λ j c h. runs j c (cases j c h);
    owned = owned_now;
    once = λ j k c d slot number x y a b. both j k c d slot number (cases j c x) (cases k d y) a b;
  }

  -- what the runs of other sessions may still give stays
  pub others_stay : (j : ℕ) (c : Opened) → IsOpenAt e.seats j c → j ≢ place → RestsStay e.boxes new c
  others_stay j c is_open ne = on_stays e.boxes new c (spared_on j c is_open (t.others j c is_open ne))

-- nothing is asked, where the session had no cursor and gets none
pub quiet_turn : (e : Shown) (place : ℕ) (seat : Option Seated) → AllServed e.boxes e.boxes → ((c : Opened) → IsOpenAt e.seats place c → ⊥) → ((c : Opened) → IsIn seat c → ⊥) → Turned e place seat e.boxes
quiet_turn e place seat served was is = record {
  first = none_held;
  last = none_held;
  serves = served;
  name = [];
  others = λ j c is_open ne. (apart_none (held c.run), apart_none (held c.run));
  stay = λ c is_in. absurd (is c is_in);
  ends = λ c is_open. absurd (was c is_open);
  owns = λ slot number t scan has at live. absurd (none_in number has);
}

-- ---- the scans of several cursors

pub one_of : (cursors : List Opened) (slot number : ℕ) → Contains (held_by cursors slot) number → (c : Opened) × Contains cursors c × Contains (held c.run slot) number
one_of [] slot number h = absurd (none_in number h)
one_of (c ∷ cursors) slot number h = split (λ b. one_of cursors slot number b) (Contains-append_cases (held c.run slot) (held_by cursors slot) number h)
  where
    split : (Contains (held_by cursors slot) number → (d : Opened) × Contains cursors d × Contains (held d.run slot) number) → Contains (held c.run slot) number ⊎ Contains (held_by cursors slot) number → (d : Opened) × Contains (c ∷ cursors) d × Contains (held d.run slot) number
    split rest (inl a) = (c, here_first c cursors, a)
    split rest (inr b) = let r = rest b in (r.0, here_later c r.0 cursors r.1, r.2)

held_at : (cursors : List Opened) (k : ℕ) (c : Opened) (slot number : ℕ) → slice_get cursors k ≡ Some c → Contains (held c.run slot) number → Contains (held_by cursors slot) number
held_at [] k c slot number at own = absurd cc
held_at (d ∷ cursors) zero c slot number at own = Contains-append_left (held d.run slot) (held_by cursors slot) number (subst (λ (x : Opened). Contains (held x.run slot) number) (sym (same_Some d c at)) own)
held_at (d ∷ cursors) (suc k) c slot number at own = Contains-append_right (held d.run slot) (held_by cursors slot) number (held_at cursors k c slot number at own)

pub among : (cursors : List Opened) (c : Opened) → Contains cursors c → AllIn c (held_by cursors)
among cursors c has slot number own = let p = place_of cursors c has in held_at cursors p.0 c slot number p.1 own

-- cursors of one session, each of which holds its scans alone
own_names : (cursors : List Opened) → AreNamedApart cursors → ((c d : Opened) (slot number : ℕ) → Contains cursors c → Contains cursors d → Contains (held c.run slot) number → Contains (held d.run slot) number → c.name ≡ d.name) → AreOwn cursors
unfolding IsDistinct
own_names [] apart once = tt
own_names (c ∷ cursors) apart once = (
  (λ slot number a b. let d = one_of cursors slot number b in let p = place_of cursors d.0 d.1 in
      bytes_other c.name d.0.name (each_at (λ n. bytes_eq c.name n ≡ false) (map (λ (x : Opened). x.name) cursors) p.0 d.0.name apart.0 (map_place (λ (x : Opened). x.name) cursors p.0 d.0 p.1))
      (once c d.0 slot number (here_first c cursors) (here_later c d.0 cursors d.1) a d.2)),
  own_names cursors apart.1 (λ x y slot number hx hy. once x y slot number (here_later c x cursors hx) (here_later c y cursors hy)),
)

pub seat_own : (seats : List (Option Seated)) (place : ℕ) (s : Seated) → AreHeldOnce seats → AreSoundSeats seats → slice_get seats place ≡ Some (Some s) → AreOwn s.cursors
seat_own seats place s once sound there = own_names s.cursors (sound place s there).apart
    (λ c d slot number hc hd a b. (once place place c d slot number (record { seat = s; there = there; has = hc }) (record { seat = s; there = there; has = hd }) a b).1)

held_joined : (zs ys : List Opened) (slot number : ℕ) → Contains (held_by (zs ++ ys) slot) number → Contains (held_by zs slot) number ⊎ Contains (held_by ys slot) number
held_joined [] ys slot number b = inr b
held_joined (z ∷ zs) ys slot number b = first (λ p. held_joined zs ys slot number p) (Contains-append_cases (held z.run slot) (held_by (zs ++ ys) slot) number b)
  where
    later : Contains (held_by zs slot) number ⊎ Contains (held_by ys slot) number → Contains (held_by (z ∷ zs) slot) number ⊎ Contains (held_by ys slot) number
    later (inl p) = inl (Contains-append_right (held z.run slot) (held_by zs slot) number p)
    later (inr q) = inr q

    first : (Contains (held_by (zs ++ ys) slot) number → Contains (held_by zs slot) number ⊎ Contains (held_by ys slot) number) → Contains (held z.run slot) number ⊎ Contains (held_by (zs ++ ys) slot) number
        → Contains (held_by (z ∷ zs) slot) number ⊎ Contains (held_by ys slot) number
    first rest (inl p) = inl (Contains-append_left (held z.run slot) (held_by zs slot) number p)
    first rest (inr q) = later (rest q)

pub own_both : (xs ys : List Opened) → AreOwn xs → AreOwn ys → AreApart (held_by xs) (held_by ys) → AreOwn (xs ++ ys)
own_both [] ys own_x own_y apart = own_y
own_both (x ∷ xs) ys own_x own_y apart = (
  (λ slot number a b. split slot number a (held_joined xs ys slot number b)),
  own_both xs ys own_x.1 own_y (λ slot number a b. apart slot number (Contains-append_right (held x.run slot) (held_by xs slot) number a) b),
)
  where
    split : (slot number : ℕ) → Contains (held x.run slot) number → Contains (held_by xs slot) number ⊎ Contains (held_by ys slot) number → ⊥
    split slot number a (inl p) = own_x.0 slot number a p
    split slot number a (inr q) = apart slot number (Contains-append_left (held x.run slot) (held_by xs slot) number a) q

-- those of all sessions
pub open_among : (seats : List (Option Seated)) (c : Opened) → Contains (all_cursors seats) c → (place : ℕ) × IsOpenAt seats place c
open_among [] c h = absurd (let n = h.1 in omega arith)
open_among (x ∷ seats) c h = split (λ b. open_among seats c b) x (Contains-append_cases (seat_cursors x) (all_cursors seats) c h)
  where
    split : (Contains (all_cursors seats) c → (place : ℕ) × IsOpenAt seats place c) → (y : Option Seated) → Contains (seat_cursors y) c ⊎ Contains (all_cursors seats) c → (place : ℕ) × IsOpenAt (y ∷ seats) place c
    split rest None (inl a) = absurd (let n = a.1 in omega arith)
    split rest (Some s) (inl a) = (zero, record { seat = s; there = refl; has = a })
    split rest y (inr b) = let r = rest b in (suc r.0, record { seat = r.1.seat; there = r.1.there; has = r.1.has })

pub is_among : (seats : List (Option Seated)) (place : ℕ) (c : Opened) → IsOpenAt seats place c → Contains (all_cursors seats) c
is_among [] place c h = absurd (let at = h.there in cc)
is_among (x ∷ seats) zero c h = Contains-append_left (seat_cursors x) (all_cursors seats) c (subst (λ (y : Option Seated). Contains (seat_cursors y) c) (sym (same_Some x (Some h.seat) h.there)) h.has)
is_among (x ∷ seats) (suc place) c h = Contains-append_right (seat_cursors x) (all_cursors seats) c (is_among seats place c (record { seat = h.seat; there = h.there; has = h.has }))

zero≢suc : (n : ℕ) → zero ≡ suc n → ⊥
zero≢suc n e = absurd cc

suc_same : (i k : ℕ) → suc i ≡ suc k → i ≡ k
suc_same i k e = omega arith

pub all_own : (seats : List (Option Seated)) → AreHeldOnce seats → AreSoundSeats seats → AreOwn (all_cursors seats)
all_own [] once sound = tt
all_own (x ∷ seats) once sound = own_both (seat_cursors x) (all_cursors seats) (first x refl) (all_own seats later_once (λ place s at. sound (suc place) s at)) (λ slot number a b. apart slot number a b x refl)
  where
    later : (j : ℕ) (c : Opened) → IsOpenAt seats j c → IsOpenAt (x ∷ seats) (suc j) c
    later j c h = record { seat = h.seat; there = h.there; has = h.has }

    later_once : AreHeldOnce seats
    later_once j k c d slot number p q a b = let r = once (suc j) (suc k) c d slot number (later j c p) (later k d q) a b in (suc_same j k r.0, r.1)

    first : (y : Option Seated) → x ≡ y → AreOwn (seat_cursors y)
    first None same = tt
    first (Some s) same = seat_own (x ∷ seats) zero s once sound (ap Some same)

    apart : (slot number : ℕ) → Contains (held_by (seat_cursors x) slot) number → Contains (held_by (all_cursors seats) slot) number → (y : Option Seated) → x ≡ y → ⊥
    apart slot number a b None same = none_in number (subst (λ (z : Option Seated). Contains (held_by (seat_cursors z) slot) number) same a)
    apart slot number a b (Some s) same =
        let c = one_of s.cursors slot number (subst (λ (z : Option Seated). Contains (held_by (seat_cursors z) slot) number) same a) in
        let d = one_of (all_cursors seats) slot number b in
        let at = open_among seats d.0 d.1 in
        zero≢suc at.0 (once zero (suc at.0) c.0 d.0 slot number (record { seat = s; there = ap Some same; has = c.1 }) (later at.0 d.0 at.1) c.2 d.2).0

pub all_held : (seats : List (Option Seated)) (boxes : List (Option BoxState)) → ((place : ℕ) (c : Opened) → IsOpenAt seats place c → IsRunning c.run boxes) → AreHeld (all_cursors seats) boxes
all_held seats boxes running k d lt =
    let c : Opened = slice_index_or (all_cursors seats) k d in
    let at = open_among seats c (at_place (all_cursors seats) k c (slice_get-get_or (all_cursors seats) k d lt)) in
    run_is_held c.run boxes (running at.0 c at.1)

pub seat_held : (seats : List (Option Seated)) (place : ℕ) (s : Seated) (boxes : List (Option BoxState)) → slice_get seats place ≡ Some (Some s) → ((place : ℕ) (c : Opened) → IsOpenAt seats place c → IsRunning c.run boxes) → AreHeld s.cursors boxes
seat_held seats place s boxes there running k d lt =
    let c : Opened = slice_index_or s.cursors k d in
    run_is_held c.run boxes (running place c (record { seat = s; there = there; has = at_place s.cursors k c (slice_get-get_or s.cursors k d lt) }))

-- ---- where no session is open

-- no scan is live
pub closed_rest : (e : Shown) → KeepsScans e → ((place : ℕ) (c : Opened) → IsOpenAt e.seats place c → ⊥) → EachBox IsAtRest e.boxes
closed_rest e k closed slot s at = record {
  no_scan = λ q. none_at q (scan_of s q) refl;
  no_staging = k.unstaged slot s at;
}
  where
    none_at : (q : ℕ) (o : Option Scan) → scan_of s q ≡ o → scan_of s q ≡ None
    none_at q None is = is
    none_at q (Some scan) is = absurd (let o = k.owned slot q s scan at is in closed o.place o.cursor o.is_open)

-- the close of all cursors leaves none
pub all_closed_scans : (e : Shown) (new : List (Option BoxState)) (seats : List (Option Seated)) → ServesRun (held_by (all_cursors e.seats)) none_held e.boxes new → ((place : ℕ) (c : Opened) → IsOpenAt seats place c → ⊥) → KeepsScans e
    → KeepsScans (with_boxes (with_seats e seats) new)
all_closed_scans e new seats h closed k = record {
  unstaged = served_unstaged (held_by (all_cursors e.seats)) none_held e.boxes new h k.unstaged;
  running = λ place c is_open. absurd (closed place c is_open);
  owned = λ slot number t scan at live.
      let was = served_had (held_by (all_cursors e.seats)) none_held e.boxes new slot number t scan h (none_in number) at live in
      let o = k.owned slot number was.0.box scan was.0.there was.0.holds in
      absurd (was.1 (among (all_cursors e.seats) o.cursor (is_among e.seats o.place o.cursor o.is_open) slot number o.holds));
  once = λ j m c d slot number x. absurd (closed j c x);
}
