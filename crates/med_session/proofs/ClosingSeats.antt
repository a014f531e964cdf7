-- Sessions that are closed one after the other: what is left to be closed.
use Rattle.std.proofs.Common.{◌≡◌, ℕ, zero, suc, List, [], ◌∷◌, ◌++◌, Option, Some, None, Contains, slice_get, slice_set, slice_index_or, option_map, length, ◌<◌, replicate, inl, inr, ◌⊎◌, refl, ap, sym, ◌∙◌, subst, append_assoc, arith}
use Rattle.std.proofs.lemmas.List.Elements.{All-append, Contains-append_left, Contains-append_right, Contains-append_cases}
use Rattle.std.proofs.lemmas.Option.{slice_get-map, slice_get-get_or, same_Some}
use Rattle.std.proofs.lemmas.List.{map-set}
use Rattle.med_world.specs.declared.cursors.Seat.{Seat}
use Rattle.fdw_api.specs.State.{BoxState}
use Rattle.med_exec.specs.Prelude.{Held, ServesRun, none_held, AreApart}
use Rattle.med_exec.specs.Rests.{held, IsHeld}
use Rattle.med_exec.proofs.Leaving.{with_held, serves_beside, serves_before}
use Rattle.med_world.specs.Open.{Opened, Seated, seated, seats_shown, held_by, AreHeld, AreOwn, seat_cursors, all_cursors}
use Rattle.med_world.proofs.Closing.{StaysHeld, apart_none}
use Rattle.med_world.proofs.NamedTables.{at_place}
use Rattle.med_world.proofs.Scans.{own_both, among}

held_join : (xs ys : List Opened) (slot : ℕ) → held_by (xs ++ ys) slot ≡ held_by xs slot ++ held_by ys slot
held_join [] ys slot = refl
held_join (x ∷ xs) ys slot = ap (λ (ns : List ℕ). held x.run slot ++ ns) (held_join xs ys slot) ∙ sym (append_assoc (held x.run slot) (held_by xs slot) (held_by ys slot))

joined : (xs ys : List Opened) → held_by (xs ++ ys) ≡ with_held (held_by xs) (held_by ys)
joined xs ys = λ i slot. held_join xs ys slot i

in_first : (xs ys : List Opened) (slot number : ℕ) → Contains (held_by xs slot) number → Contains (held_by (xs ++ ys) slot) number
in_first xs ys slot number h = subst (λ (ns : List ℕ). Contains ns number) (sym (held_join xs ys slot)) (Contains-append_left (held_by xs slot) (held_by ys slot) number h)

in_second : (xs ys : List Opened) (slot number : ℕ) → Contains (held_by ys slot) number → Contains (held_by (xs ++ ys) slot) number
in_second xs ys slot number h = subst (λ (ns : List ℕ). Contains ns number) (sym (held_join xs ys slot)) (Contains-append_right (held_by xs slot) (held_by ys slot) number h)

in_either : (xs ys : List Opened) (slot number : ℕ) → Contains (held_by (xs ++ ys) slot) number → Contains (held_by xs slot) number ⊎ Contains (held_by ys slot) number
in_either xs ys slot number h = Contains-append_cases (held_by xs slot) (held_by ys slot) number (subst (λ (ns : List ℕ). Contains ns number) (held_join xs ys slot) h)

-- of two lists each is of its own, and they are apart
own_first : (xs ys : List Opened) → AreOwn (xs ++ ys) → AreOwn xs
own_first [] ys h = tt
own_first (x ∷ xs) ys h = ((λ slot number a b. h.0 slot number a (in_first xs ys slot number b)), own_first xs ys h.1)

own_second : (xs ys : List Opened) → AreOwn (xs ++ ys) → AreOwn ys
own_second [] ys h = h
own_second (x ∷ xs) ys h = own_second xs ys h.1

own_apart : (xs ys : List Opened) → AreOwn (xs ++ ys) → AreApart (held_by xs) (held_by ys)
own_apart [] ys h slot number a b = let n = a.1 in absurd (omega arith)
own_apart (x ∷ xs) ys h slot number a b = split (λ p. own_apart xs ys h.1 slot number p b) (Contains-append_cases (held x.run slot) (held_by xs slot) number a)
  where
    split : (Contains (held_by xs slot) number → ⊥) → Contains (held x.run slot) number ⊎ Contains (held_by xs slot) number → ⊥
    split rest (inl p) = h.0 slot number p (in_second xs ys slot number b)
    split rest (inr p) = rest p

held_first : (xs ys : List Opened) (boxes : List (Option BoxState)) → AreHeld (xs ++ ys) boxes → (c : Opened) → Contains xs c → IsHeld c.run boxes
held_first xs ys boxes h c has = at (Contains-append_left xs ys c has)
  where
    at : Contains (xs ++ ys) c → IsHeld c.run boxes
    at p = subst (λ (x : Opened). IsHeld x.run boxes) p.2 (h p.0 c p.1)

held_second : (xs ys : List Opened) (boxes : List (Option BoxState)) → AreHeld (xs ++ ys) boxes → (c : Opened) → Contains ys c → IsHeld c.run boxes
held_second xs ys boxes h c has = at (Contains-append_right xs ys c has)
  where
    at : Contains (xs ++ ys) c → IsHeld c.run boxes
    at p = subst (λ (x : Opened). IsHeld x.run boxes) p.2 (h p.0 c p.1)

each_held : (cursors : List Opened) (boxes : List (Option BoxState)) → ((c : Opened) → Contains cursors c → IsHeld c.run boxes) → AreHeld cursors boxes
each_held cursors boxes h k d lt = h (slice_index_or cursors k d) (at_place cursors k (slice_index_or cursors k d) (slice_get-get_or cursors k d lt))

-- cursors that hold none of the scans that are ended are good for their close still
still_held : StaysHeld → (cursors : List Opened) (own : Held) (old new : List (Option BoxState)) → ((c : Opened) → Contains cursors c → IsHeld c.run old) → AreApart (held_by cursors) own → ServesRun own none_held old new → (c : Opened) → Contains cursors c → IsHeld c.run new
still_held law cursors own old new good apart h c has = law c.run own none_held old new (good c has) (λ slot number a b. apart slot number (among cursors c has slot number a) b) (apart_none (held c.run)) h

-- ---- the session in one place is closed

-- it was open, and has these cursors
abbrev pub shut_at : List (Option Seated) → ℕ → List (Option Seated)
shut_at seats place = slice_set seats place None

seat_within : (seats : List (Option Seated)) (place : ℕ) (s : Seated) (slot number : ℕ) → slice_get seats place ≡ Some (Some s) → Contains (held_by s.cursors slot) number → Contains (held_by (all_cursors seats) slot) number
seat_within [] place s slot number at h = absurd cc
seat_within (x ∷ seats) zero s slot number at h = in_first (seat_cursors x) (all_cursors seats) slot number (subst (λ (y : Option Seated). Contains (held_by (seat_cursors y) slot) number) (sym (same_Some x (Some s) at)) h)
seat_within (x ∷ seats) (suc place) s slot number at h = in_second (seat_cursors x) (all_cursors seats) slot number (seat_within seats place s slot number at h)

shut_within : (seats : List (Option Seated)) (place slot number : ℕ) → Contains (held_by (all_cursors (shut_at seats place)) slot) number → Contains (held_by (all_cursors seats) slot) number
shut_within [] place slot number h = h
shut_within (x ∷ seats) zero slot number h = in_second (seat_cursors x) (all_cursors seats) slot number h
shut_within (x ∷ seats) (suc place) slot number h = split (λ p. shut_within seats place slot number p) (in_either (seat_cursors x) (all_cursors (shut_at seats place)) slot number h)
  where
    split : (Contains (held_by (all_cursors (shut_at seats place)) slot) number → Contains (held_by (all_cursors seats) slot) number) → Contains (held_by (seat_cursors x) slot) number ⊎ Contains (held_by (all_cursors (shut_at seats place)) slot) number → Contains (held_by (all_cursors (x ∷ seats)) slot) number
    split rest (inl p) = in_first (seat_cursors x) (all_cursors seats) slot number p
    split rest (inr p) = in_second (seat_cursors x) (all_cursors seats) slot number (rest p)

pub shut_own : (seats : List (Option Seated)) (place : ℕ) → AreOwn (all_cursors seats) → AreOwn (all_cursors (shut_at seats place))
shut_own [] place h = h
shut_own (x ∷ seats) zero h = own_second (seat_cursors x) (all_cursors seats) h
shut_own (x ∷ seats) (suc place) h =
    own_both (seat_cursors x) (all_cursors (shut_at seats place)) (own_first (seat_cursors x) (all_cursors seats) h) (shut_own seats place (own_second (seat_cursors x) (all_cursors seats) h))
    (λ slot number a b. own_apart (seat_cursors x) (all_cursors seats) h slot number a (shut_within seats place slot number b))

pub one_own : (seats : List (Option Seated)) (place : ℕ) (s : Seated) → slice_get seats place ≡ Some (Some s) → AreOwn (all_cursors seats) → AreOwn s.cursors
one_own [] place s at h = absurd cc
one_own (x ∷ seats) zero s at h = subst (λ (y : Option Seated). AreOwn (seat_cursors y)) (same_Some x (Some s) at) (own_first (seat_cursors x) (all_cursors seats) h)
one_own (x ∷ seats) (suc place) s at h = one_own seats place s at (own_second (seat_cursors x) (all_cursors seats) h)

one_there : (seats : List (Option Seated)) (place : ℕ) (s : Seated) (c : Opened) → slice_get seats place ≡ Some (Some s) → Contains s.cursors c → Contains (all_cursors seats) c
one_there [] place s c at h = absurd cc
one_there (x ∷ seats) zero s c at h = Contains-append_left (seat_cursors x) (all_cursors seats) c (subst (λ (y : Option Seated). Contains (seat_cursors y) c) (sym (same_Some x (Some s) at)) h)
one_there (x ∷ seats) (suc place) s c at h = Contains-append_right (seat_cursors x) (all_cursors seats) c (one_there seats place s c at h)

held_of : (cursors : List Opened) (boxes : List (Option BoxState)) → AreHeld cursors boxes → (c : Opened) → Contains cursors c → IsHeld c.run boxes
held_of cursors boxes h c has = subst (λ (x : Opened). IsHeld x.run boxes) has.2 (h has.0 c has.1)

pub one_held : (seats : List (Option Seated)) (place : ℕ) (s : Seated) (boxes : List (Option BoxState)) → slice_get seats place ≡ Some (Some s) → AreHeld (all_cursors seats) boxes → AreHeld s.cursors boxes
one_held seats place s boxes at h = each_held s.cursors boxes (λ c has. held_of (all_cursors seats) boxes h c (one_there seats place s c at has))

-- the cursors of the others are good for their close still
pub shut_held : StaysHeld → (seats : List (Option Seated)) (place : ℕ) (s : Seated) (old new : List (Option BoxState)) → slice_get seats place ≡ Some (Some s) → AreOwn (all_cursors seats) → AreHeld (all_cursors seats) old → ServesRun (held_by s.cursors) none_held old new
    → AreHeld (all_cursors (shut_at seats place)) new
shut_held law [] place s old new at own good h = absurd cc
shut_held law (x ∷ seats) zero s old new at own good h = each_held (all_cursors seats) new
    (still_held law (all_cursors seats) (held_by s.cursors) old new (held_second (seat_cursors x) (all_cursors seats) old good)
    (λ slot number a b. own_apart (seat_cursors x) (all_cursors seats) own slot number (subst (λ (y : Option Seated). Contains (held_by (seat_cursors y) slot) number) (sym (same_Some x (Some s) at)) b) a) h)
shut_held law (x ∷ seats) (suc place) s old new at own good h =
    All-append (λ (c : Opened). IsHeld c.run new) (seat_cursors x) (all_cursors (shut_at seats place))
    (each_held (seat_cursors x) new (still_held law (seat_cursors x) (held_by s.cursors) old new (held_first (seat_cursors x) (all_cursors seats) old good)
    (λ slot number a b. own_apart (seat_cursors x) (all_cursors seats) own slot number a (seat_within seats place s slot number at b)) h))
    (shut_held law seats place s old new at (own_second (seat_cursors x) (all_cursors seats) own) (each_held (all_cursors seats) old (held_second (seat_cursors x) (all_cursors seats) old good)) h)

-- what the close of its cursors does to the boxes, told of the cursors of all
pub shut_served : (seats : List (Option Seated)) (place : ℕ) (s : Seated) (old new : List (Option BoxState)) → slice_get seats place ≡ Some (Some s) → ServesRun (held_by s.cursors) none_held old new
    → ServesRun (held_by (all_cursors seats)) (held_by (all_cursors (shut_at seats place))) old new
shut_served [] place s old new at h = absurd cc
shut_served (x ∷ seats) zero s old new at h =
    subst (λ (y : Option Seated). ServesRun (held_by (seat_cursors y ++ all_cursors seats)) (held_by (all_cursors seats)) old new) (sym (same_Some x (Some s) at))
    (subst (λ (own : Held). ServesRun own (held_by (all_cursors seats)) old new) (sym (joined s.cursors (all_cursors seats))) (serves_before (held_by (all_cursors seats)) (held_by s.cursors) none_held old new h))
shut_served (x ∷ seats) (suc place) s old new at h =
    subst (λ (own : Held). ServesRun own (held_by (seat_cursors x ++ all_cursors (shut_at seats place))) old new) (sym (joined (seat_cursors x) (all_cursors seats)))
    (subst (λ (own : Held). ServesRun (with_held (held_by (seat_cursors x)) (held_by (all_cursors seats))) own old new) (sym (joined (seat_cursors x) (all_cursors (shut_at seats place))))
    (serves_beside (held_by (seat_cursors x)) (held_by (all_cursors seats)) (held_by (all_cursors (shut_at seats place))) old new (shut_served seats place s old new at h)))

-- one that is closed already
pub shut_same : (seats : List (Option Seated)) (place : ℕ) → slice_get seats place ≡ Some None → shut_at seats place ≡ seats
shut_same [] place at = refl
shut_same (x ∷ seats) zero at = ap (λ (y : Option Seated). y ∷ seats) (sym (same_Some x None at))
shut_same (x ∷ seats) (suc place) at = ap (λ (ys : List (Option Seated)). x ∷ ys) (shut_same seats place at)

-- where all are closed, nothing is held
none_shut : (n : ℕ) → all_cursors (replicate n None) ≡ []
none_shut zero = refl
none_shut (suc n) = none_shut n

pub all_shut : (seats : List (Option Seated)) (n : ℕ) → seats ≡ replicate n None → held_by (all_cursors seats) ≡ none_held
all_shut seats n closed = ap (λ (s : List (Option Seated)). held_by (all_cursors s)) closed ∙ ap held_by (none_shut n)

-- ---- the places as they are held

pub shown_at : (seats : List (Option Seat)) (place : ℕ) (now : Option Seat) (seat : Seat) → place < length seats → now ≡ slice_index_or seats place now → now ≡ Some seat → slice_get (seats_shown seats) place ≡ Some (Some (seated seat))
shown_at seats place now seat lt value is = slice_get-map (option_map seated) seats place ∙ ap (option_map (option_map seated)) (slice_get-get_or seats place now lt ∙ ap Some (sym value ∙ is))

pub shown_none : (seats : List (Option Seat)) (place : ℕ) (now : Option Seat) → place < length seats → now ≡ slice_index_or seats place now → now ≡ None → slice_get (seats_shown seats) place ≡ Some None
shown_none seats place now lt value is = slice_get-map (option_map seated) seats place ∙ ap (option_map (option_map seated)) (slice_get-get_or seats place now lt ∙ ap Some (sym value ∙ is))

pub shown_set : (seats : List (Option Seat)) (place : ℕ) (o : Option Seat) → o ≡ None → seats_shown (slice_set seats place o) ≡ shut_at (seats_shown seats) place
shown_set seats place o e = map-set (option_map seated) seats place o ∙ ap (λ (x : Option Seat). slice_set (seats_shown seats) place (option_map seated x)) e
