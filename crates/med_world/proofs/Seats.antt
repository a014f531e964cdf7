-- Sessions of an engine and of a world: what changes of boxes and of tables leave of their cursors, and which tables are leased.
use Rattle.std.proofs.Common.{◌≡◌, ◌↔◌, ℕ, ◌-◌, ◌<◌, ◌≤◌, ◌||◌, ◌⊎◌, ◌≢◌, inl, inr, eqb, Bool, true, false, cond, List, [], ◌∷◌, ◌++◌, Option, Some, None, IsSome, is_some, Contains, find, slice_get, length, map, refl, ap, sym, ◌∙◌, subst, zero, suc, arith, bytes_eq}
use Rattle.std.specs.List.{list_any}
use Rattle.std.proofs.lemmas.Bool.{false≢true}
use Rattle.std.proofs.lemmas.Bool.Decides.{eqb_tells}
use Rattle.std.proofs.lemmas.Option.{same_Some}
use Rattle.med_value.specs.Prelude.{Tuple, session_count}
use Rattle.med_syntax.specs.Tree.{Name}
use Rattle.fdw_api.specs.Prelude.{Held, BoxState}
use Rattle.scan_loops.specs.Running.{HonestFor}
use Rattle.med_exec.specs.Prelude.{levels_in, GoesOn}
use Rattle.med_exec.specs.Rests.{Rests}
use Rattle.med_binder.specs.Places.{Attached}
use Rattle.med_catalog.specs.Prelude.{TableObject, Objects, table_named, new_table, no_table, without}
use Rattle.med_world.specs.Open.{Opened, Seated, leases_table, seat_leases, any_leases}
use Rattle.sql_meaning.specs.Prelude.{IsSid, World, Leased, Cursor, Session, cells_of, rows_named, rows_with, beside_without, reads_table, leases, any_session, is_leased, with_catalog}
use Rattle.med_world.specs.Seats.{seat_in, seat_of, IsOpenAt, StillStands, CursorAgrees, CursorsAgree, SeatAgrees}
use Rattle.med_world.specs.Engine.{Shown, leased, IsSound, RowsAgree, Agrees}
use Rattle.med_world.proofs.Lists.{same_bytes, bytes_same, other_bytes}
use Rattle.med_world.proofs.NamedTables.{place_of, at_place, find_fewer, still_found, some_of}

-- ---- runs over other boxes

-- Where a cursor's run reads honest boxes alone, it does so after, and what it may give over the boxes before, it may give over those
-- after, and the other way round.
abbrev pub RestsStay : List (Option BoxState) → List (Option BoxState) → Opened → Type 0
RestsStay old new o = HonestFor (levels_in o.run) old → HonestFor (levels_in o.run) new × ((rows : List Tuple) → Rests o.run old rows ↔ Rests o.run new rows)

pub on_stays : (old new : List (Option BoxState)) (o : Opened) → GoesOn o.run old new → RestsStay old new o
on_stays old new o h honest = (h.honest honest, h.rests honest)

-- an open cursor of this session
abbrev pub IsIn : Option Seated → Opened → Type 0
IsIn seat c = (s : Seated) × (seat ≡ Some s) × Contains s.cursors c

pub place_there : (o : Option (Option Seated)) (seat : Seated) → seat_in o ≡ Some seat → o ≡ Some (Some seat)
place_there None seat e = absurd cc
place_there (Some x) seat e = ap Some e

pub open_in : (seats : List (Option Seated)) (sid : ℕ) (c : Opened) → IsIn (seat_of seats sid) c → IsOpenAt seats (sid - 1) c
open_in seats sid c h = record { seat = h.0; there = place_there (slice_get seats (sid - 1)) h.0 h.1; has = h.2 }

pub here_first : (o : Opened) (os : List Opened) → Contains (o ∷ os) o
here_first o os = at_place (o ∷ os) 0 o refl

pub here_later : (o x : Opened) (os : List Opened) → Contains os x → Contains (o ∷ os) x
here_later o x os has = let p = place_of os x has in at_place (o ∷ os) (suc p.0) x p.1

-- ---- which tables are leased

pub or_true : (a b : Bool) → b ≡ true → (a || b) ≡ true
or_true true b e = refl
or_true false b e = e

pub any_at : {X : Type 0} (p : X → Bool) (xs : List X) (k : ℕ) (x : X) → slice_get xs k ≡ Some x → p x ≡ true → list_any p xs ≡ true
any_at p [] k x at e = absurd cc
any_at p (y ∷ ys) zero x at e = ap (λ b. b || list_any p ys) (ap p (same_Some y x at) ∙ e)
any_at p (y ∷ ys) (suc k) x at e = or_true (p y) (list_any p ys) (any_at p ys k x at e)

-- a cursor reads the tables that it leases
reads_its : (c : Cursor) (l : Leased) → Contains c.reads l → reads_table l.table c ≡ true
reads_its c l has = let p = place_of c.reads l has in any_at (λ (m : Leased). bytes_eq l.table m.table) c.reads p.0 l p.1 (same_bytes l.table l.table refl)

any_mapped : (name : Name) (reads : List Leased) → list_any (λ (l : Leased). bytes_eq name l.table) reads ≡ list_any (bytes_eq name) (map (λ (l : Leased). l.table) reads)
any_mapped name [] = refl
any_mapped name (l ∷ ls) = ap (λ b. bytes_eq name l.table || b) (any_mapped name ls)

cursor_leases : (boxes : List (Option BoxState)) (w : World) (name : Name) (o : Opened) (c : Cursor) → CursorAgrees boxes w o c → reads_table name c ≡ leases_table name o
cursor_leases boxes w name o c h = any_mapped name c.reads ∙ ap (λ ls. list_any (bytes_eq name) ls) h.leases

cursors_lease : (boxes : List (Option BoxState)) (w : World) (name : Name) (os : List Opened) (cs : List Cursor) → CursorsAgree boxes w os cs → list_any (reads_table name) cs ≡ list_any (leases_table name) os
cursors_lease boxes w name [] [] h = refl
cursors_lease boxes w name [] (c ∷ cs) h = absurd h
cursors_lease boxes w name (o ∷ os) [] h = absurd h
cursors_lease boxes w name (o ∷ os) (c ∷ cs) h = λ i. cursor_leases boxes w name o c h.0 i || cursors_lease boxes w name os cs h.1 i

seat_lease : (boxes : List (Option BoxState)) (w : World) (name : Name) (seat : Option Seated) (s : Option Session) → SeatAgrees boxes w seat s → leases name s ≡ seat_leases name seat
seat_lease boxes w name None None h = refl
seat_lease boxes w name None (Some s) h = absurd h
seat_lease boxes w name (Some seat) None h = absurd h
seat_lease boxes w name (Some seat) (Some s) h = cursors_lease boxes w name seat.cursors s.cursors h.1

or_along : (a b c : Bool) → (a || (b || c)) ≡ (b || (a || c))
or_along true true c = refl
or_along true false c = refl
or_along false b c = refl

any_first : (p : ℕ → Bool) (n : ℕ) → any_session p (suc n) ≡ (p 1 || any_session (λ k. p (suc k)) n)
any_first p zero = refl
any_first p (suc n) = ap (λ b. p (suc (suc n)) || b) (any_first p n) ∙ or_along (p (suc (suc n))) (p 1) (any_session (λ k. p (suc k)) n)

any_in_order : (name : Name) (p : ℕ → Bool) (seats : List (Option Seated)) → ((k : ℕ) (seat : Option Seated) → slice_get seats k ≡ Some seat → p (suc k) ≡ seat_leases name seat) → any_session p (length seats) ≡ any_leases seats name
any_in_order name p [] each = refl
any_in_order name p (s ∷ ss) each =
    any_first p (length ss)
    ∙ (λ i. each zero s refl i || any_in_order name (λ k. p (suc k)) ss (λ k seat at. each (suc k) seat at) i)

within_seats : (seats : List (Option Seated)) (k : ℕ) (seat : Option Seated) → slice_get seats k ≡ Some seat → k < length seats
within_seats [] k seat at = absurd cc
within_seats (s ∷ ss) zero seat at = omega arith
within_seats (s ∷ ss) (suc k) seat at = let r = within_seats ss k seat at in omega arith

pub seat_there : (seats : List (Option Seated)) (k : ℕ) (seat : Option Seated) → slice_get seats k ≡ Some seat → seat_of seats (suc k) ≡ seat
seat_there seats k seat at = let back : suc k - 1 ≡ k = omega arith in ap (λ (j : ℕ). seat_in (slice_get seats j)) back ∙ ap seat_in at

pub leases_same : (e : Shown) (w : World) → IsSound e → Agrees e w → is_leased w ≡ leased e
leases_same e w sound a = λ i name. (ap (any_session (λ sid. leases name (w.sessions sid))) (sym sound.sessions) ∙ any_in_order name (λ sid. leases name (w.sessions sid)) e.seats (each name)) i
  where
    each : (name : Name) (k : ℕ) (seat : Option Seated) → slice_get e.seats k ≡ Some seat → leases name (w.sessions (suc k)) ≡ seat_leases name seat
    each name k seat at =
        let few : k < length e.seats = within_seats e.seats k seat at in
        let many : length e.seats ≡ session_count = sound.sessions in
        let is : IsSid (suc k) = (omega arith, omega (arith, few, many)) in
        seat_lease e.boxes w name (seat_of e.seats (suc k)) (w.sessions (suc k)) (a.sessions (suc k) is) ∙ ap (seat_leases name) (seat_there e.seats k seat at)

pub left_false : (a b : Bool) → (a || b) ≡ false → a ≡ false
left_false true b e = e
left_false false b e = refl

pub right_false : (a b : Bool) → (a || b) ≡ false → b ≡ false
right_false true b e = absurd (false≢true (sym e))
right_false false b e = e

none_session : (p : ℕ → Bool) (n sid : ℕ) → any_session p n ≡ false → 1 ≤ sid → sid ≤ n → p sid ≡ false
none_session p zero sid e low high = absurd (omega arith)
none_session p (suc n) sid e low high = split (eqb_tells sid (suc n)) (λ h. none_session p n sid (right_false (p (suc n)) (any_session p n) e) low h)
  where
    split : ((eqb sid (suc n) ≡ true) × (sid ≡ suc n)) ⊎ ((eqb sid (suc n) ≡ false) × (sid ≢ suc n)) → (sid ≤ n → p sid ≡ false) → p sid ≡ false
    split (inl same) rest = ap p same.1 ∙ left_false (p (suc n)) (any_session p n) e
    split (inr other) rest = let ne : sid ≢ suc n = other.1 in rest (omega (arith, ne))

-- a table that is not leased is read by no cursor of any session
pub unleased : (w : World) (name : Name) (sid : ℕ) → is_leased w name ≡ false → IsSid sid → leases name (w.sessions sid) ≡ false
unleased w name sid e is = none_session (λ k. leases name (w.sessions k)) session_count sid e is.0 is.1

-- ---- cursors after a change

-- the tables that cursors read stand in the other world too
abbrev pub StandsOn : World → World → List Cursor → Type 0
StandsOn w v cs = (l : Leased) → list_any (reads_table l.table) cs ≡ true → StillStands w l → StillStands v l

pub cursor_stays : (old new : List (Option BoxState)) (w v : World) (o : Opened) (c : Cursor) → ((l : Leased) → reads_table l.table c ≡ true → StillStands w l → StillStands v l) → RestsStay old new o → CursorAgrees old w o c → CursorAgrees new v o c
cursor_stays old new w v o c on stay h = record {
  name = h.name;
  names = h.names;
  leases = h.leases;
  stand = λ l has. on l (reads_its c l has) (h.stand l has);
  some = λ known. let r = h.some known in (r.0, ((stay (h.honest known)).1 r.0).0 r.1);
  honest = λ known. (stay (h.honest known)).0;
  answers = λ known rows r. h.answers known rows (((stay (h.honest known)).1 rows).1 r);
  bare = h.bare;
}

pub cursors_stay : (old new : List (Option BoxState)) (w v : World) (os : List Opened) (cs : List Cursor) → StandsOn w v cs → ((o : Opened) → Contains os o → RestsStay old new o) → CursorsAgree old w os cs → CursorsAgree new v os cs
cursors_stay old new w v [] [] on stay h = tt
cursors_stay old new w v [] (c ∷ cs) on stay h = absurd h
cursors_stay old new w v (o ∷ os) [] on stay h = absurd h
cursors_stay old new w v (o ∷ os) (c ∷ cs) on stay h = (
  cursor_stays old new w v o c (λ l e. on l (ap (λ b. b || list_any (reads_table l.table) cs) e)) (stay o (here_first o os)) h.0,
  cursors_stay old new w v os cs (λ l e. on l (or_true (reads_table l.table c) (list_any (reads_table l.table) cs) e)) (λ x has. stay x (here_later o x os has)) h.1,
)

pub seat_stays : (old new : List (Option BoxState)) (w v : World) (seat : Option Seated) (s : Option Session) → ((l : Leased) → leases l.table s ≡ true → StillStands w l → StillStands v l) → ((o : Opened) → IsIn seat o → RestsStay old new o)
    → SeatAgrees old w seat s → SeatAgrees new v seat s
seat_stays old new w v None None on stay h = tt
seat_stays old new w v None (Some s) on stay h = absurd h
seat_stays old new w v (Some seat) None on stay h = absurd h
seat_stays old new w v (Some seat) (Some s) on stay h = (h.0, cursors_stay old new w v seat.cursors s.cursors on (λ o has. stay o (seat, refl, has)) h.1)

-- where tables and their rows are as they were
pub stands_still : (w v : World) (l : Leased) → v.catalog.tables ≡ w.catalog.tables → v.rows ≡ w.rows → StillStands w l → StillStands v l
stands_still w v l tables rows h = record {
  there = subst (λ (ts : List TableObject). IsSome (find (λ (t : TableObject). bytes_eq l.table t.name) ts)) (sym tables) h.there;
  rows = h.rows ∙ (λ i. cells_of (rows_named l.table (sym tables i) (sym rows i)));
}

-- so for each open cursor
abbrev pub AllStay : Shown → List (Option BoxState) → Type 0
AllStay e new = (j : ℕ) (o : Opened) → IsOpenAt e.seats j o → RestsStay e.boxes new o

-- the sessions of a world in which nothing but these changes
pub sessions_stay : (e : Shown) (new : List (Option BoxState)) (w v : World) → v.sessions ≡ w.sessions → ((l : Leased) → is_leased w l.table ≡ true → StillStands w l → StillStands v l) → AllStay e new → Agrees e w
    → (sid : ℕ) → IsSid sid → SeatAgrees new v (seat_of e.seats sid) (v.sessions sid)
sessions_stay e new w v same on stay a sid is =
    subst (λ (f : ℕ → Option Session). SeatAgrees new v (seat_of e.seats sid) (f sid)) (sym same)
    (seat_stays e.boxes new w v (seat_of e.seats sid) (w.sessions sid) (λ l e h. on l (leased_by l.table e) h) (λ o has. stay (sid - 1) o (open_in e.seats sid o has)) (a.sessions sid is))
  where
    leased_by : (name : Name) → leases name (w.sessions sid) ≡ true → is_leased w name ≡ true
    leased_by name e = pick (is_leased w name) refl
      where
        pick : (b : Bool) → is_leased w name ≡ b → is_leased w name ≡ true
        pick true h = h
        pick false h = absurd (false≢true (sym (unleased w name sid h is) ∙ e))

-- where no table changes, nor its rows
pub sessions_still : (e : Shown) (new : List (Option BoxState)) (w v : World) → v.sessions ≡ w.sessions → v.catalog.tables ≡ w.catalog.tables → v.rows ≡ w.rows → AllStay e new → Agrees e w
    → (sid : ℕ) → IsSid sid → SeatAgrees new v (seat_of e.seats sid) (v.sessions sid)
sessions_still e new w v same tables rows = sessions_stay e new w v same (λ l e h. stands_still w v l tables rows h)

-- ---- the rows of a table after a change of another

-- a table that is leased is none of this name, which is not
pub named_apart : (w : World) (a name : Name) → is_leased w a ≡ true → is_leased w name ≡ false → a ≡ name → ⊥
named_apart w a name taken free same = false≢true (sym free ∙ sym (ap (is_leased w) same) ∙ taken)

apart_from : (a name n : Name) → (a ≡ name → ⊥) → bytes_eq name n ≡ true → bytes_eq a n ≡ false
apart_from a name n apart is = other_bytes a n (λ same. apart (same ∙ sym (bytes_same name n is)))

pub rows_written_apart : (a name : Name) (now : List Held) (tables : List TableObject) (rows : List (List Held)) → (a ≡ name → ⊥) → rows_named a tables (rows_with name now tables rows) ≡ rows_named a tables rows
rows_written_apart a name now [] rows apart = refl
rows_written_apart a name now (t ∷ ts) [] apart = refl
rows_written_apart a name now (t ∷ ts) (r ∷ rs) apart = split (bytes_eq name t.name) refl (rows_written_apart a name now ts rs apart)
  where
    split : (b : Bool) → bytes_eq name t.name ≡ b → rows_named a ts (rows_with name now ts rs) ≡ rows_named a ts rs
        → rows_named a (t ∷ ts) (cond b (now ∷ rs) (r ∷ rows_with name now ts rs)) ≡ cond (bytes_eq a t.name) r (rows_named a ts rs)
    split true is rest =
        let other : bytes_eq a t.name ≡ false = apart_from a name t.name apart is in
        ap (λ c. cond c now (rows_named a ts rs)) other ∙ sym (ap (λ c. cond c r (rows_named a ts rs)) other)
    split false is rest = ap (λ (found : List Held). cond (bytes_eq a t.name) r found) rest

none_left_rows : (a : Name) (tables : List TableObject) → rows_named a tables [] ≡ []
none_left_rows a [] = refl
none_left_rows a (t ∷ ts) = refl

pub rows_dropped_apart : (a name : Name) (tables : List TableObject) (rows : List (List Held)) → (a ≡ name → ⊥)
    → rows_named a (without (λ (t : TableObject). bytes_eq name t.name) tables) (beside_without name tables rows) ≡ rows_named a tables rows
rows_dropped_apart a name [] rows apart = refl
rows_dropped_apart a name (t ∷ ts) [] apart = none_left_rows a (without (λ (x : TableObject). bytes_eq name x.name) (t ∷ ts))
rows_dropped_apart a name (t ∷ ts) (r ∷ rs) apart = split (bytes_eq name t.name) refl (rows_dropped_apart a name ts rs apart)
  where
    split : (b : Bool) → bytes_eq name t.name ≡ b → rows_named a (without (λ (x : TableObject). bytes_eq name x.name) ts) (beside_without name ts rs) ≡ rows_named a ts rs
        → rows_named a (cond b ts (t ∷ without (λ (x : TableObject). bytes_eq name x.name) ts)) (cond b rs (r ∷ beside_without name ts rs)) ≡ cond (bytes_eq a t.name) r (rows_named a ts rs)
    split true is rest = sym (ap (λ c. cond c r (rows_named a ts rs)) (apart_from a name t.name apart is))
    split false is rest = ap (λ (found : List Held). cond (bytes_eq a t.name) r found) rest

no_table_there : (a : Name) → IsSome (find (λ (t : TableObject). bytes_eq a t.name) []) → ⊥
no_table_there a h = false≢true h

pub rows_pushed : (a : Name) (tables : List TableObject) (rows : List (List Held)) (t : TableObject) (r : List Held) → length rows ≡ length tables → IsSome (find (λ (x : TableObject). bytes_eq a x.name) tables)
    → rows_named a (tables ++ t ∷ []) (rows ++ r ∷ []) ≡ rows_named a tables rows
rows_pushed a [] rows t r many there = absurd (no_table_there a there)
rows_pushed a (x ∷ xs) [] t r many there = absurd (omega arith)
rows_pushed a (x ∷ xs) (y ∷ ys) t r many there = split (bytes_eq a x.name) refl there (λ has. rows_pushed a xs ys t r (omega arith) has)
  where
    split : (b : Bool) → bytes_eq a x.name ≡ b → IsSome (cond b (Some x) (find (λ (z : TableObject). bytes_eq a z.name) xs))
        → (IsSome (find (λ (z : TableObject). bytes_eq a z.name) xs) → rows_named a (xs ++ t ∷ []) (ys ++ r ∷ []) ≡ rows_named a xs ys)
        → cond (bytes_eq a x.name) y (rows_named a (xs ++ t ∷ []) (ys ++ r ∷ [])) ≡ cond (bytes_eq a x.name) y (rows_named a xs ys)
    split true is has rest = ap (λ c. cond c y (rows_named a (xs ++ t ∷ []) (ys ++ r ∷ []))) is ∙ sym (ap (λ c. cond c y (rows_named a xs ys)) is)
    split false is has rest = ap (λ (found : List Held). cond (bytes_eq a x.name) y found) (rest has)

-- ---- a table that is leased stands on after a change of another

-- a table is made
pub pushed_stands : (w : World) (t : TableObject) (r : List Held) (l : Leased) → length w.rows ≡ length w.catalog.tables → StillStands w l
    → StillStands (record (with_catalog w (new_table t)) { rows = w.rows ++ r ∷ [] }) l
pushed_stands w t r l many h =
    let found = some_of (table_named w.catalog l.table) h.there in
    record {
      there = ap is_some (still_found (λ (x : TableObject). bytes_eq l.table x.name) w.catalog.tables (t ∷ []) found.0 found.1);
      rows = h.rows ∙ ap cells_of (sym (rows_pushed l.table w.catalog.tables w.rows t r many h.there));
    }

-- one of another name goes
pub dropped_stands : (w : World) (name : Name) (l : Leased) → (l.table ≡ name → ⊥) → StillStands w l
    → StillStands (record (with_catalog w (no_table name)) { rows = beside_without name w.catalog.tables w.rows }) l
dropped_stands w name l apart h = record {
  there = ap is_some (find_fewer (λ (x : TableObject). bytes_eq l.table x.name) (λ (x : TableObject). bytes_eq name x.name) (λ x is. apart_from l.table name x.name apart is) w.catalog.tables) ∙ h.there;
  rows = h.rows ∙ ap cells_of (sym (rows_dropped_apart l.table name w.catalog.tables w.rows apart));
}

-- another is written
pub written_stands : (w v : World) (name : Name) (now : List Held) (l : Leased) → v.catalog ≡ w.catalog → v.rows ≡ rows_with name now w.catalog.tables w.rows → (l.table ≡ name → ⊥) → StillStands w l → StillStands v l
written_stands w v name now l catalog rows apart h = record {
  there = ap (λ (o : Objects). is_some (table_named o l.table)) catalog ∙ h.there;
  rows = h.rows ∙ ap cells_of (sym (rows_written_apart l.table name now w.catalog.tables w.rows apart)) ∙ (λ i. cells_of (rows_named l.table (sym catalog i).tables (sym rows i)));
}

pub many_rows : (boxes : List (Option BoxState)) (bound : List Attached) (rows : List (List Held)) → RowsAgree boxes bound rows → length rows ≡ length bound
many_rows boxes [] [] h = refl
many_rows boxes [] (r ∷ rs) h = absurd h
many_rows boxes (b ∷ bs) [] h = absurd h
many_rows boxes (b ∷ bs) (r ∷ rs) h = ap suc (many_rows boxes bs rs h.1)
