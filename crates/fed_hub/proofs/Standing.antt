-- What was said, and the places.
use Rattle.std.proofs.Common.{◌≡◌, ◌≢◌, ℕ, zero, suc, ◌<◌, ◌==◌, Bool, true, false, Option, Some, None, List, [], ◌∷◌, ◌++◌, length}
use Rattle.std.proofs.Common.{slice_get, slice_set, refl, sym, ap, ◌∙◌, subst, append_assoc, append-nil, arith, flat_map, ◌⊎◌, inl, inr}
use Rattle.std.proofs.lemmas.List.{length-set}
use Rattle.std.proofs.lemmas.Grind.{flat_map-append}
use Rattle.std.proofs.lemmas.Option.{slice_get_within, same_Some}
use Rattle.std.proofs.lemmas.Bool.Decides.{nat_tests}
use Rattle.session_wire.specs.Run.{Steps}
use Rattle.session_wire.specs.Exchanges.{Exchanged}
use Rattle.fed_hub.specs.Said.{Said, exchanges_of, part_of, AreOf, bye_of}
use Rattle.fed_hub.specs.Accounts.{Visit, IsVisit, AreVisits, IsOfVisits, said_in, said_of}
use Rattle.fed_hub.specs.Guests.{IsAt, IsHere, IsGone, HasParted, IsParting, IsLeaving}
use Rattle.fed_hub.specs.Places.{Stands, AllStand, Advances}
use Rattle.fed_hub.specs.declared.link.Link.{Link}
use Rattle.fed_hub.specs.declared.guest.Guest.{Guest}
use Rattle.fed_hub.proofs.Links.{broke, at_some, at_none}
use Rattle.fed_hub.proofs.Parts.{said-append, part-append, part_own, part_other, get_set, get_other}

-- ---- visits

visits-append : {P : Type 0} (remaining contents : P → Option (List ℕ)) (xs ys : List (Visit P)) → AreVisits remaining contents xs
    → AreVisits remaining contents ys → AreVisits remaining contents (xs ++ ys)
visits-append remaining contents [] ys h k = k
visits-append remaining contents (x ∷ xs) ys h k = (h.0, visits-append remaining contents xs ys h.1 k)

-- a connection that was let go is one more
pub one_more : {P : Type 0} (remaining contents : P → Option (List ℕ)) (sid : ℕ) (taken : P) (past now : List Said)
    → IsOfVisits remaining contents sid past → IsGone remaining contents sid taken now → IsOfVisits remaining contents sid (past ++ now)
one_more {P} remaining contents sid taken past now h g = (
  h.0 ++ g.0 ∷ [],
  visits-append remaining contents h.0 (g.0 ∷ []) h.1 (g.2, tt),
  ap (λ l. l ++ now) h.2 ∙ ap (λ l. said_of sid h.0 ++ l) (g.3 ∙ sym (append-nil (said_in sid g.0)))
      ∙ sym (flat_map-append (λ (v : Visit P). said_in sid v) h.0 (g.0 ∷ [])),
)

-- its session is closed, and it is gone
pub gone : {P : Type 0} (remaining contents : P → Option (List ℕ)) (sid : ℕ) (taken : P) (k : Link P) (reply : List ℕ) (part : List Said)
    → HasParted remaining contents taken k part
    → IsGone remaining contents sid taken (part ++ bye_of sid reply ∷ [])
gone remaining contents sid taken k reply part h = (
  record { taken = taken; left = k.peer; account = h.account; farewell = reply },
  refl,
  record { passed = h.passed; parts = h.parts },
  ap (λ l. l ++ bye_of sid reply ∷ []) h.said,
)

-- it was closed before
pub gone_before : {P : Type 0} (remaining contents : P → Option (List ℕ)) (sid : ℕ) (taken : P) (k : Link P) (part : List Said)
    → IsLeaving remaining contents sid taken k part → IsGone remaining contents sid taken part
gone_before remaining contents sid taken k part h =
    let g = gone remaining contents sid taken k h.farewell h.lines h.parting.parted in
    (g.0, g.1, g.2, h.said ∙ g.3)

-- ---- places

pub same_or_not : (k j : ℕ) → (j ≡ k) ⊎ (j ≢ k)
same_or_not k j = cases_of (j == k) refl
  where
    cases_of : (t : Bool) → (j == k) ≡ t → (j ≡ k) ⊎ (j ≢ k)
    cases_of true e = inl (grind (arith, nat_tests))
    cases_of false e = inr (λ same. let no : (j == k) ≡ true = grind (arith, nat_tests) in absurd cc)

-- what was said in one place changes what is known of that place alone
pub stand_at : {P : Type 0} (remaining contents : P → Option (List ℕ)) (places : List (Option (Guest P))) (k : ℕ) (place new : Option
    (Guest P)) (said more : List Said) → slice_get places k ≡ Some place → AreOf (suc k) more
    → ((part : List Said) → Stands remaining contents (suc k) place part → Stands remaining contents (suc k) new (part ++ more))
    → AllStand remaining contents places said → AllStand remaining contents (slice_set places k new) (said ++ more)
stand_at {P} remaining contents places k place new said more there own step all j within = by_place (same_or_not k j)
  where
    inside : j < length places
    inside = omega (arith, within, length-set places k new)

    at : (o : Option (Guest P)) × (slice_get places j ≡ Some o) × Stands remaining contents (suc j) o (part_of (suc j) said)
    at = all j inside

    here : j ≡ k → Stands remaining contents (suc k) place (part_of (suc k) said)
    here e =
        let same : at.0 ≡ place = same_Some at.0 place (sym at.1 ∙ ap (slice_get places) e ∙ there) in
        subst (λ (o : Option (Guest P)). Stands remaining contents (suc k) o (part_of (suc k) said)) same (subst
        (λ n. Stands remaining contents (suc n) at.0 (part_of (suc n) said)) e at.2)

    by_place : (j ≡ k) ⊎ (j ≢ k) → (o : Option (Guest P)) × (slice_get (slice_set places k new) j ≡ Some o)
        × Stands remaining contents (suc j) o (part_of (suc j) (said ++ more))
    by_place (inl e) = (
      new,
      ap (λ n. slice_get (slice_set places k new) n) e ∙ get_set places k new (slice_get_within places k place there),
      subst (λ n. Stands remaining contents (suc n) new (part_of (suc n) (said ++ more))) (sym e)
          (subst (Stands remaining contents (suc k) new) (sym (part-append (suc k) said more
          ∙ ap (λ l. part_of (suc k) said ++ l) (part_own (suc k) more own)))
          (step (part_of (suc k) said) (here e))),
    )
    by_place (inr n) = (
      at.0,
      get_other places k j new n ∙ at.1,
      subst (Stands remaining contents (suc j) at.0) (sym (part-append (suc j) said more
          ∙ ap (λ l. part_of (suc j) said ++ l) (part_other (suc j) (suc k) more own (λ e. n (omega (arith, e))))
          ∙ append-nil (part_of (suc j) said))) at.2,
    )

-- nothing was said
pub stays : {P W : Type 0} (step : Steps W) (remaining contents : P → Option (List ℕ)) (old : W) (places after : List (Option (Guest P)))
    → ((said : List Said) → AllStand remaining contents places said → AllStand remaining contents after said)
    → Advances step remaining contents old places old after
stays step remaining contents old places after h = record {
  more = [];
  leads = refl;
  stand = λ said all. subst (AllStand remaining contents after) (sym (append-nil said)) (h said all);
}

-- one after the other
pub then_more : {P W : Type 0} (step : Steps W) (remaining contents : P → Option (List ℕ)) (old mid new : W) (places between after : List
    (Option (Guest P))) → Advances step remaining contents old places mid between
    → Advances step remaining contents mid between new after → Advances step remaining contents old places new after
then_more step remaining contents old mid new places between after h k = record {
  more = h.more ++ k.more;
  leads = said-append step old mid new h.more k.more h.leads k.leads;
  stand = λ said all. subst (AllStand remaining contents after) (append_assoc said h.more k.more) (k.stand (said ++ h.more)
      (h.stand said all));
}

-- in one place
pub at_place : {P W : Type 0} (step : Steps W) (remaining contents : P → Option (List ℕ)) (old mid new : W) (places between : List (Option
    (Guest P))) (k : ℕ) (place now : Option (Guest P)) (more : List Said)
    → Advances step remaining contents old places mid between → slice_get between k ≡ Some place → AreOf (suc k) more
    → Exchanged step mid (exchanges_of more) new
    → ((part : List Said) → Stands remaining contents (suc k) place part → Stands remaining contents (suc k) now (part ++ more))
    → Advances step remaining contents old places new (slice_set between k now)
at_place step remaining contents old mid new places between k place now more h there own leads stands =
    then_more step remaining contents old mid new places between (slice_set between k now) h
    (record {
      more = more;
      leads = leads;
      stand = λ said all. stand_at remaining contents between k place now said more there own stands
          all;
    })

-- a connection that stays
pub turned_stays : {P : Type 0} (remaining contents : P → Option (List ℕ)) (sid : ℕ) (old : Option (Guest P)) (guest new : Guest P)
    (more : List Said) → old ≡ Some guest
    → ((taken : P) (part : List Said) → IsHere remaining contents sid taken guest part
    → IsHere remaining contents sid taken new (part ++ more))
    → (part : List Said) → Stands remaining contents sid old part → Stands remaining contents sid (Some new) (part ++ more)
turned_stays {P} remaining contents sid old guest new more e step part stands =
    let h = subst (λ (o : Option (Guest P)). Stands remaining contents sid o part) e stands in
    (h.0, h.1, h.2 ++ more, h.3, step h.0 h.2 h.4, ap (λ l. l ++ more) h.5 ∙ append_assoc h.1 h.2 more)

-- one that goes
pub turned_goes : {P : Type 0} (remaining contents : P → Option (List ℕ)) (sid : ℕ) (old : Option (Guest P)) (guest : Guest P)
    (more : List Said) → old ≡ Some guest
    → ((taken : P) (part : List Said) → IsHere remaining contents sid taken guest part
    → IsGone remaining contents sid taken (part ++ more))
    → (part : List Said) → Stands remaining contents sid old part → IsOfVisits remaining contents sid (part ++ more)
turned_goes {P} remaining contents sid old guest more e step part stands =
    let h = subst (λ (o : Option (Guest P)). Stands remaining contents sid o part) e stands in
    subst (IsOfVisits remaining contents sid) (sym (ap (λ l. l ++ more) h.5 ∙ append_assoc h.1 h.2 more))
    (one_more remaining contents sid h.0 h.1 (h.2 ++ more) h.3 (step h.0 h.2 h.4))

-- one that comes
pub new_stands : {P : Type 0} (remaining contents : P → Option (List ℕ)) (sid : ℕ) (taken : P) (guest : Guest P)
    → IsHere remaining contents sid taken guest []
    → (part : List Said) → Stands remaining contents sid None part → Stands remaining contents sid (Some guest) (part ++ [])
new_stands remaining contents sid taken guest here part h = (taken, part, [], h, here, refl)

-- in one place, where nothing is said
pub stand_in : {P : Type 0} (remaining contents : P → Option (List ℕ)) (places : List (Option (Guest P))) (k : ℕ) (place new : Option
    (Guest P)) (said : List Said) → slice_get places k ≡ Some place
    → ((part : List Said) → Stands remaining contents (suc k) place part → Stands remaining contents (suc k) new (part ++ []))
    → AllStand remaining contents places said → AllStand remaining contents (slice_set places k new) said
stand_in {P} remaining contents places k place new said there step all =
    subst (AllStand remaining contents (slice_set places k new)) (append-nil said)
    (stand_at remaining contents places k place new said [] there tt step all)

-- its session is closed where it was open to it
pub left_open : {P F : Type 0} (remaining contents : P → Option (List ℕ)) (sid : ℕ) (k : Link P) (f : Option F) (room : F) (reply : List ℕ)
    → f ≡ Some room
    → (taken : P) (part : List Said) → IsAt remaining contents sid taken k f part
    → IsGone remaining contents sid taken (part ++ bye_of sid reply ∷ [])
left_open remaining contents sid k f room reply e taken part h =
    gone remaining contents sid taken k reply part (broke remaining contents taken k k _ part refl
    (at_some remaining contents sid taken k f room part e h))

pub left_closed : {P F : Type 0} (remaining contents : P → Option (List ℕ)) (sid : ℕ) (k : Link P) (f : Option F) → f ≡ None
    → (taken : P) (part : List Said) → IsAt remaining contents sid taken k f part → IsGone remaining contents sid taken (part ++ [])
left_closed remaining contents sid k f e taken part h =
    subst (IsGone remaining contents sid taken) (sym (append-nil part)) (gone_before remaining contents sid taken k part
    (at_none remaining contents sid taken k f part e h))

-- all places are free, and all was said by connections that went
pub all_free : {P : Type 0} (remaining contents : P → Option (List ℕ)) (places : List (Option (Guest P))) → ((k : ℕ) → k < length places
    → slice_get places k ≡ Some None) → AllStand remaining contents places []
all_free remaining contents places free k within = (None, free k within, ([], tt, refl))

pub all_gone : {P : Type 0} (remaining contents : P → Option (List ℕ)) (places : List (Option (Guest P))) (said : List Said)
    → AllStand remaining contents places said
    → (k : ℕ) → k < length places → slice_get places k ≡ Some None → IsOfVisits remaining contents (suc k) (part_of (suc k) said)
all_gone {P} remaining contents places said all k within free =
    let h = all k within in
    subst (λ (o : Option (Guest P)). Stands remaining contents (suc k) o (part_of (suc k) said)) (same_Some h.0 None (sym h.1 ∙ free)) h.2
