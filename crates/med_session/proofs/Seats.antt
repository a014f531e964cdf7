-- Seats by the numbers of their sessions: taken out, put in, and put back.
use Rattle.std.proofs.Common.{◌≡◌, ℕ, ◌-◌, zero, suc, List, [], ◌∷◌, Option, Some, None, Contains, is_some, option_map, false, length, slice_get, slice_set, refl, ap, sym, ◌∙◌, subst}
use Rattle.std.proofs.lemmas.List.{length-map, length-set}
use Rattle.med_syntax.specs.Prelude.{declare, StatementTree, select, Name}
use Rattle.med_binder.specs.Looked.{query_in}
use Rattle.med_world.specs.declared.cursors.Seat.{Seat}
use Rattle.fdw_api.specs.State.{BoxState}
use Rattle.med_exec.specs.Rests.{IsRunning}
use Rattle.med_world.specs.Prelude.{Opened, Seated, seated, seats_shown, Shown, IsSound, IsRead, with_boxes, with_seats, seat_in, seat_of, user_of, IsSoundSeat, with_cursors}
use Rattle.med_parser.specs.CommandTree.{CommandTree, on_cursors}
use Rattle.med_value.specs.Limits.{session_count}
use Rattle.med_session.specs.Cursors.{having}

pub set_twice : {A : Type 0} (xs : List A) (k : ℕ) (x y : A) → slice_set (slice_set xs k x) k y ≡ slice_set xs k y
set_twice [] k x y = refl
set_twice (z ∷ zs) zero x y = refl
set_twice (z ∷ zs) (suc k) x y = ap (λ l. z ∷ l) (set_twice zs k x y)

pub set_back : {A : Type 0} (xs : List A) (k : ℕ) (x : A) → slice_get xs k ≡ Some x → slice_set xs k x ≡ xs
set_back [] k x at = refl
set_back (z ∷ zs) zero x at =
    let e : z ≡ x = cc in
    ap (λ y. y ∷ zs) (sym e)
set_back (z ∷ zs) (suc k) x at = ap (λ l. z ∷ l) (set_back zs k x at)

pub place_there : (o : Option (Option Seated)) (s : Seated) → seat_in o ≡ Some s → o ≡ Some (Some s)
place_there None s e = absurd cc
place_there (Some None) s e = absurd cc
place_there (Some (Some t)) s e = ap Some e

-- a seat that was taken out and put in with other cursors
pub put_other : (e : Shown) (sid : ℕ) (seat after : Seated) (cursors : List Opened) (left seats : List (Option Seated)) (boxes : List (Option BoxState)) → left ≡ slice_set e.seats (sid - 1) None → seats ≡ slice_set left (sid - 1) (Some after) → after ≡ having seat cursors
    → record e { seats = seats; boxes = boxes } ≡ with_cursors e sid seat cursors boxes
put_other e sid seat after cursors left seats boxes l s is =
    ap (λ (x : List (Option Seated)). record e { seats = x; boxes = boxes })
    (s ∙ ap (λ (x : List (Option Seated)). slice_set x (sid - 1) (Some after)) l ∙ set_twice e.seats (sid - 1) None (Some after) ∙ ap (λ (x : Seated). slice_set e.seats (sid - 1) (Some x)) is)

-- one that was taken out and put back as it was
pub put_back : (e : Shown) (sid : ℕ) (seat after : Seated) (left seats : List (Option Seated)) (boxes : List (Option BoxState)) → seat_of e.seats sid ≡ Some seat → left ≡ slice_set e.seats (sid - 1) None → seats ≡ slice_set left (sid - 1) (Some after) → after ≡ seat
    → record e { seats = seats; boxes = boxes } ≡ record e { boxes = boxes }
put_back e sid seat after left seats boxes is_open l s is =
    ap (λ (x : List (Option Seated)). record e { seats = x; boxes = boxes })
    (s ∙ ap (λ (x : List (Option Seated)). slice_set x (sid - 1) (Some after)) l ∙ set_twice e.seats (sid - 1) None (Some after) ∙ ap (λ (x : Seated). slice_set e.seats (sid - 1) (Some x)) is
    ∙ set_back e.seats (sid - 1) (Some seat) (place_there (slice_get e.seats (sid - 1)) seat is_open))

-- the user of a statement is that of the seat
pub read_seat : (e : Shown) (sid : ℕ) (text : List ℕ) (user : Name) (t : CommandTree) (seat : Seated) → IsRead e sid text user t → seat_of e.seats sid ≡ Some seat → IsRead e sid text seat.user t
read_seat e sid text user t seat read is_open = subst (λ (u : Name). IsRead e sid text u t) same read
  where
    same : user ≡ seat.user
    same =
        let a : user_of e.seats sid ≡ Some user = read.is_user in
        cc

-- a statement of DECLARE, with its query
pub read_declare : (e : Shown) (sid : ℕ) (text : List ℕ) (user name : Name) (t : StatementTree) (seat : Seated) → IsRead e sid text user (on_cursors (declare name t)) → seat_of e.seats sid ≡ Some seat → IsRead e sid text seat.user (on_cursors (declare name (select (query_in t))))
read_declare e sid text user name (select q) seat read is_open = read_seat e sid text user (on_cursors (declare name (select q))) seat read is_open

-- ---- closed sessions

no_seat : (o : Option (Option Seated)) → seat_in o ≡ None → (x : Option Seated) → o ≡ Some x → x ≡ None
no_seat o e None is = refl
no_seat o e (Some s) is =
    let bad : seat_in o ≡ Some s = ap seat_in is in
    absurd cc

pub set_none : (xs : List (Option Seated)) (k : ℕ) → seat_in (slice_get xs k) ≡ None → slice_set xs k None ≡ xs
set_none [] k e = refl
set_none (x ∷ xs) zero e = ap (λ (y : Option Seated). y ∷ xs) (sym (no_seat (Some x) e x refl))
set_none (x ∷ xs) (suc k) e = ap (λ l. x ∷ l) (set_none xs k e)

-- a session without a seat has no user
pub no_user : (seats : List (Option Seated)) (sid : ℕ) → seat_of seats sid ≡ None → is_some (user_of seats sid) ≡ false
no_user seats sid e = ap (λ (o : Option Seated). is_some (option_map (λ (s : Seated). s.user) o)) e

-- a seat that was taken out, and its cursors closed
pub vacated : (e : Shown) (sid : ℕ) (left : List (Option Seated)) (boxes : List (Option BoxState)) → left ≡ slice_set e.seats (sid - 1) None → record e { seats = left; boxes = boxes } ≡ with_boxes (with_seats e (slice_set e.seats (sid - 1) None)) boxes
vacated e sid left boxes l = ap (λ (x : List (Option Seated)). record e { seats = x; boxes = boxes }) l

pub shut : (e : Shown) (sid : ℕ) (left : List (Option Seated)) → left ≡ slice_set e.seats (sid - 1) None → record e { seats = left } ≡ with_seats e (slice_set e.seats (sid - 1) None)
shut e sid left l = ap (λ (x : List (Option Seated)). with_seats e x) l

-- where the session was closed, all is as it was
pub left_shut : (e : Shown) (sid : ℕ) (left : List (Option Seated)) → seat_of e.seats sid ≡ None → left ≡ slice_set e.seats (sid - 1) None → record e { seats = left } ≡ e
left_shut e sid left none l = ap (λ (x : List (Option Seated)). with_seats e x) (l ∙ set_none e.seats (sid - 1) none)

-- ---- what the calls ask

pub seat_sound : (e : Shown) (sid : ℕ) (seat : Seated) → IsSound e → seat_of e.seats sid ≡ Some seat → IsSoundSeat seat
seat_sound e sid seat h is_open = h.seated (sid - 1) seat (place_there (slice_get e.seats (sid - 1)) seat is_open)

pub seat_running : (e : Shown) (sid : ℕ) (seat : Seated) → IsSound e → seat_of e.seats sid ≡ Some seat → (c : Opened) → Contains seat.cursors c → IsRunning c.run e.boxes
seat_running e sid seat h is_open c has = h.scans.running (sid - 1) c (record { seat = seat; there = place_there (slice_get e.seats (sid - 1)) seat is_open; has = has })

pub left_long : (now : List (Option Seat)) (was : List (Option Seated)) (k : ℕ) (x : Option Seated) → seats_shown now ≡ slice_set was k x → length was ≡ session_count → length now ≡ session_count
left_long now was k x e long = sym (length-map now (option_map seated)) ∙ ap length e ∙ length-set was k x ∙ long
