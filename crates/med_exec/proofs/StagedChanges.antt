-- Changes that are staged one by one.
use Rattle.std.proofs.Common.{◌≡◌, ℕ, Bool, true, false, ◌&&◌, List, [], ◌∷◌, ◌++◌, Some, IsSome, refl, ap, sym, ◌∙◌, subst, append_assoc, map}
use Rattle.std.specs.FinMap as finmap
use Rattle.std.specs.List.{list_all}
use Rattle.std.proofs.lemmas.List.{append-nil, map-append}
use Rattle.std.proofs.lemmas.Option.{same_Some}
use Rattle.fdw_api.specs.Prelude.{Change, Nature, Staging, Ledger, BoxState, is_honest, rows_of, LeavesAll, faults_after, CanChange, Stages, ChangeCause, RefusesChange, row_of_change_fits, id_is_there, is_first}
use Rattle.fdw_api.specs.declared.interface.Fault.{Fault}
use Rattle.fdw_api.specs.declared.interface.Fault.TheVariants.{NoMemory, Source, Refused}
use Rattle.med_exec.proofs.Served.{honest_on}
use Rattle.med_exec.specs.Staging.{all_first, AreStageable, IsStaged, BreaksStaging, ChangesCause}

pub both_first : (a b : Bool) → (a && b) ≡ true → a ≡ true
both_first true b e = refl
both_first false b e = absurd cc

pub both_second : (a b : Bool) → (a && b) ≡ true → b ≡ true
both_second true b e = e
both_second false b e = absurd cc

-- what holds of all holds of one
one_of : {X : Type 0} (p : X → Bool) (before : List X) (x : X) (after : List X) → list_all p (before ++ x ∷ after) ≡ true → p x ≡ true
one_of p [] x after e = both_first (p x) (list_all p after) e
one_of p (b ∷ bs) x after e = one_of p bs x after (both_second (p b) (list_all p (bs ++ x ∷ after)) e)

first_of_all : (before done : List Change) (c : Change) (after : List Change) → all_first before (done ++ c ∷ after) ≡ true → is_first (before ++ done) c ≡ true
first_of_all before [] c after e = rw (append-nil before) (both_first (is_first before c) (all_first (before ++ c ∷ []) after) e)
first_of_all before (d ∷ done) c after e =
    subst (λ (cs : List Change). is_first cs c ≡ true) (append_assoc before (d ∷ []) done)
    (first_of_all (before ++ d ∷ []) done c after (both_second (is_first before d) (all_first (before ++ d ∷ []) (done ++ c ∷ after)) e))

-- a write of these changes
abbrev pub staging_of : ℕ → List Change → Staging
staging_of t changes = record { table = t; changes = changes; broken = false }

-- all is left as it was, twice
pub leaves_twice : (a b c : BoxState) → b.ledger.live ≡ a.ledger.live → LeavesAll a b → LeavesAll b c → LeavesAll a c
leaves_twice a b c same k l = record {
  coming = λ q live o. l.coming q (subst (λ m. IsSome (finmap.get m q)) (sym same) live) o ∙ k.coming q live o;
  rows = λ t o. l.rows t o ∙ k.rows t o;
  holdings = λ r o. l.holdings r o ∙ k.holdings r o;
}

pub can_change : (old s : BoxState) (t : ℕ) (done : List Change) (c : Change) (after : List Change) → AreStageable old t (done ++ c ∷ after) → IsStaged old t done s → CanChange s c
can_change old s t done c after a h = record {
  staging = staging_of t done;
  is_staged = ap (λ z. z.staged) h.ledger;
  whole = refl;
  bound = a.bound;
  is = ap (λ (z : Ledger). z.tables t) h.ledger ∙ a.is;
  fits = one_of (row_of_change_fits a.bound.kinds) done c after a.fit;
  there = λ honest.
      let before : is_honest old = ap (λ (n : Nature). n.honest) (sym h.nature) ∙ honest in
      rw ((h.leaves before).rows t (λ n. n)) (one_of (id_is_there (rows_of old t)) done c after (a.there before));
  once = first_of_all [] done c after a.once;
}

pub staged_more : (old s new : BoxState) (t : ℕ) (done : List Change) (c : Change) → IsStaged old t done s → Stages s c new → IsStaged old t (done ++ c ∷ []) new
staged_more old s new t done c h g =
    let same : g.staging ≡ staging_of t done = same_Some _ _ (sym g.is_staged ∙ ap (λ z. z.staged) h.ledger) in
    record {
      nature = g.nature ∙ h.nature;
      ledger = g.ledger ∙ ap (λ (l : Ledger). record l { staged = Some (record g.staging { changes = g.staging.changes ++ c ∷ [] }) }) h.ledger ∙ ap (λ (z : Staging). record old.ledger { staged = Some (record z { changes = z.changes ++ c ∷ [] }) }) same;
      leaves = λ honest. leaves_twice old s new (ap (λ z. z.live) h.ledger) (h.leaves honest) (g.leaves (honest_on old s h.nature honest));
    }

cause_broken : (fault : Fault) (old s : BoxState) (t : ℕ) (done : List Change) (c : Change) (after : List Change) → IsStaged old t done s → ChangeCause s (staging_of t done) c fault → ChangesCause old t (done ++ c ∷ after) fault
cause_broken NoMemory old s t done c after h k = tt
cause_broken Source old s t done c after h k = tt
cause_broken (Refused cause) old s t done c after h k = (
  k.0,
  λ honest bound is.
      let left = h.leaves honest in
      let w = k.1 (honest_on old s h.nature honest) bound (ap (λ (z : Ledger). z.tables t) h.ledger ∙ is) in
      (w.0, rw (left.holdings bound.remote (λ n. n)) at w.1, rw (left.rows t (λ n. n)) at (w.2 after)),
)

pub staging_breaks : (fault : Fault) (old s new : BoxState) (t : ℕ) (done : List Change) (c : Change) (after : List Change) → IsStaged old t done s → RefusesChange s c fault new → BreaksStaging old t (done ++ c ∷ after) fault new
staging_breaks fault old s new t done c after h g =
    let same : g.staging ≡ staging_of t done = same_Some _ _ (sym g.is_staged ∙ ap (λ z. z.staged) h.ledger) in
    record {
      nature = g.nature ∙ h.nature;
      staging = record g.staging { broken = true };
      of_table = ap (λ (z : Staging). z.table) same;
      ledger = g.ledger ∙ ap (λ (l : Ledger). record l { staged = Some (record g.staging { broken = true }); faults = faults_after fault l.faults }) h.ledger;
      cause = cause_broken fault old s t done c after h (subst (λ (z : Staging). ChangeCause s z c fault) same g.cause);
      leaves = λ honest. leaves_twice old s new (ap (λ z. z.live) h.ledger) (h.leaves honest) (g.leaves (honest_on old s h.nature honest));
    }

-- ---- one change after another

pub split_seen : {X V : Type 0} (view : X → V) (before rest after all start : List X) (d : X) → start ≡ all → before ++ rest ≡ start → rest ≡ d ∷ after → map view all ≡ map view before ++ view d ∷ map view after
split_seen view before rest after all start d a b r = ap (map view) (rw (← a, ← b, r) refl) ∙ map-append view before (d ∷ after)

pub can_change_at : (old s : BoxState) (t : ℕ) (all done : List Change) (c : Change) (after : List Change) → all ≡ done ++ c ∷ after → AreStageable old t all → IsStaged old t done s → CanChange s c
can_change_at old s t all done c after e a h = can_change old s t done c after (subst (λ (cs : List Change). AreStageable old t cs) e a) h

pub staged_seen : {X : Type 0} (view : X → Change) (old s new : BoxState) (t : ℕ) (xs : List X) (d : X) → IsStaged old t (map view xs) s → Stages s (view d) new → IsStaged old t (map view (xs ++ d ∷ [])) new
staged_seen view old s new t xs d h g = subst (λ (cs : List Change). IsStaged old t cs new) (sym (map-append view xs (d ∷ []))) (staged_more old s new t (map view xs) (view d) h g)

pub breaks_at : (fault : Fault) (old s new : BoxState) (t : ℕ) (all done : List Change) (c : Change) (after : List Change) → all ≡ done ++ c ∷ after → IsStaged old t done s → RefusesChange s c fault new → BreaksStaging old t all fault new
breaks_at fault old s new t all done c after e h g = subst (λ (cs : List Change). BreaksStaging old t cs fault new) (sym e) (staging_breaks fault old s new t done c after h g)
