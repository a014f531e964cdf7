-- A write that is begun, staged and ended.
use Rattle.std.proofs.Common.{◌≡◌, ℕ, true, false, List, [], Option, Some, None, IsSome, refl, ap, sym, ◌∙◌, subst, arith}
use Rattle.std.specs.FinMap as finmap
use Rattle.std.proofs.lemmas.Option.{same_Some}
use Rattle.fdw_api.specs.Prelude.{Change, BoxTable, Staging, Ledger, BoxState, is_honest, LeavesAll, NoScan, faults_after, CanModify, Opens, CanClose, Closes, RefusesClose, CloseCause, Written}
use Rattle.fdw_api.specs.declared.interface.Fault.{Fault}
use Rattle.fdw_api.specs.declared.interface.Fault.TheVariants.{NoMemory, Source, Refused}
use Rattle.med_exec.proofs.Served.{honest_on}
use Rattle.med_exec.specs.Staging.{AreStageable, IsStaged, BreaksStaging, ChangesCause, MakesChanges, MakesNone}
use Rattle.med_exec.proofs.StagedChanges.{staging_of, leaves_twice}

-- ---- begun

pub just_begun : (old s : BoxState) (t : ℕ) → Opens old t s → IsStaged s t [] s
just_begun old s t o = record {
  nature = refl;
  ledger = o.ledger ∙ sym (ap (λ (l : Ledger). record l { staged = Some (staging_of t []) }) o.ledger);
  leaves = λ honest. record { coming = λ q live k. refl; rows = λ u k. refl; holdings = λ r k. refl };
}

pub still_stageable : (old s : BoxState) (t : ℕ) (cs : List Change) → Opens old t s → AreStageable old t cs → AreStageable s t cs
still_stageable old s t cs o a = record {
  bound = a.bound;
  is = ap (λ (l : Ledger). l.tables t) o.ledger ∙ a.is;
  fit = a.fit;
  there = λ honest.
      let before : is_honest old = honest_on s old (sym o.nature) honest in
      rw ((o.leaves before).rows t (λ n. n)) (a.there before);
  once = a.once;
}

pub staged_since : (old s last : BoxState) (t : ℕ) (cs : List Change) → Opens old t s → IsStaged s t cs last → IsStaged old t cs last
staged_since old s last t cs o h = record {
  nature = h.nature ∙ o.nature;
  ledger = h.ledger ∙ ap (λ (l : Ledger). record l { staged = Some (staging_of t cs) }) o.ledger;
  leaves = λ honest. leaves_twice old s last (ap (λ z. z.live) o.ledger) (o.leaves honest) (h.leaves (honest_on old s o.nature honest));
}

same_cause : (fault : Fault) (old s : BoxState) (t : ℕ) (cs : List Change) → Opens old t s → ChangesCause s t cs fault → ChangesCause old t cs fault
same_cause NoMemory old s t cs o k = tt
same_cause Source old s t cs o k = tt
same_cause (Refused c) old s t cs o k = (
  k.0,
  λ honest bound is.
      let left = o.leaves honest in
      let w = k.1 (honest_on old s o.nature honest) bound (ap (λ (l : Ledger). l.tables t) o.ledger ∙ is) in
      (w.0, rw (left.holdings bound.remote (λ n. n)) at w.1, rw (left.rows t (λ n. n)) at w.2),
)

pub broken_since : (fault : Fault) (old s last : BoxState) (t : ℕ) (cs : List Change) → Opens old t s → BreaksStaging s t cs fault last → BreaksStaging old t cs fault last
broken_since fault old s last t cs o h = record {
  nature = h.nature ∙ o.nature;
  staging = h.staging;
  of_table = h.of_table;
  ledger = h.ledger ∙ ap (λ (l : Ledger). record l { staged = Some h.staging; faults = faults_after fault l.faults }) o.ledger;
  cause = same_cause fault old s t cs o h.cause;
  leaves = λ honest. leaves_twice old s last (ap (λ z. z.live) o.ledger) (o.leaves honest) (h.leaves (honest_on old s o.nature honest));
}

-- ---- ended

no_scan_yet : (old s : BoxState) (t : ℕ) → s.ledger.live ≡ old.ledger.live → NoScan old t → NoScan s t
no_scan_yet old s t same h = λ q scan is. h q scan (ap (λ m. finmap.get m q) (sym same) ∙ is)

pub can_keep : (old s : BoxState) (t : ℕ) (cs : List Change) → CanModify old t → IsStaged old t cs s → CanClose s true
can_keep old s t cs can h = record {
  staging = staging_of t cs;
  is_staged = ap (λ z. z.staged) h.ledger;
  is_bound = subst IsSome (sym (ap (λ (l : Ledger). l.tables t) h.ledger)) can.is_bound;
  whole = λ e. refl;
  no_scan = λ e. no_scan_yet old s t (ap (λ z. z.live) h.ledger) can.no_scan;
}

-- what was written since is what was written from the start
pub written_since : (old s new : BoxState) (st : Staging) → s.ledger.tables ≡ old.ledger.tables → LeavesAll old s → s.ledger.live ≡ old.ledger.live → Written s st new → Written old st new
written_since old s new st tables left live w = record {
  bound = w.bound;
  is = ap (λ (f : ℕ → Option BoxTable). f st.table) (sym tables) ∙ w.is;
  entry = w.entry;
  picked = rw (left.holdings w.bound.remote (λ n. n)) at w.picked;
  no_cause = rw (left.rows st.table (λ n. n)) at w.no_cause;
  rows = rw (left.rows st.table (λ n. n)) at w.rows;
  once = w.once;
  holdings = rw (left.holdings w.bound.remote (λ n. n)) at w.holdings;
  leaves = record {
    coming = λ q is k. w.leaves.coming q (subst (λ m. IsSome (finmap.get m q)) (sym live) is) k ∙ left.coming q is k;
    rows = λ t k. w.leaves.rows t k ∙ left.rows t (λ n. n);
    holdings = λ r k. w.leaves.holdings r k ∙ left.holdings r (λ n. n);
  };
}

none_staged : (l : Ledger) → l.staged ≡ None → record l { staged = None } ≡ l
none_staged l e = ap (λ (x : Option Staging). record l { staged = x }) (sym e)

pub kept : (old s new : BoxState) (t : ℕ) (cs : List Change) → CanModify old t → IsStaged old t cs s → Closes s true new → MakesChanges old t cs new
kept old s new t cs can h g =
    let same : g.staging ≡ staging_of t cs = same_Some _ _ (sym g.is_staged ∙ ap (λ z. z.staged) h.ledger) in
    record {
      nature = g.nature ∙ h.nature;
      ledger = g.ledger ∙ ap (λ (l : Ledger). record l { staged = None }) h.ledger ∙ none_staged old.ledger can.not_staged;
      content = λ honest. written_since old s new (staging_of t cs) (ap (λ z. z.tables) h.ledger) (h.leaves honest) (ap (λ z. z.live) h.ledger)
          (subst (λ (z : Staging). Written s z new) same (g.content (honest_on old s h.nature honest)));
    }

close_cause : (fault : Fault) (old s : BoxState) (t : ℕ) (cs : List Change) → IsStaged old t cs s → CloseCause s (staging_of t cs) fault → ChangesCause old t cs fault
close_cause NoMemory old s t cs h k = tt
close_cause Source old s t cs h k = tt
close_cause (Refused c) old s t cs h k = (
  k.0,
  λ honest bound is.
      let left = h.leaves honest in
      let w = k.1 (honest_on old s h.nature honest) bound (ap (λ (l : Ledger). l.tables t) h.ledger ∙ is) in
      (w.0, rw (left.holdings bound.remote (λ n. n)) at w.1, rw (left.rows t (λ n. n)) at w.2),
)

pub not_kept : (fault : Fault) (old s new : BoxState) (t : ℕ) (cs : List Change) → CanModify old t → IsStaged old t cs s → RefusesClose s true fault new → MakesNone old t cs fault new
not_kept fault old s new t cs can h g =
    let same : g.staging ≡ staging_of t cs = same_Some _ _ (sym g.is_staged ∙ ap (λ z. z.staged) h.ledger) in
    record {
      nature = g.nature ∙ h.nature;
      next = old.ledger.next;
      rises = omega arith;
      stays = λ e. e;
      keeps = λ e. refl;
      ledger = g.ledger ∙ ap (λ (l : Ledger). record l { staged = None; faults = faults_after fault l.faults }) h.ledger ∙ ap (λ (l : Ledger). record l { faults = faults_after fault old.ledger.faults }) (none_staged old.ledger can.not_staged);
      cause = close_cause fault old s t cs h (subst (λ (z : Staging). CloseCause s z fault) same g.cause);
      leaves = λ honest. leaves_twice old s new (ap (λ z. z.live) h.ledger) (h.leaves honest) (g.leaves (honest_on old s h.nature honest));
    }

pub given_up : (fault : Fault) (old s new : BoxState) (t : ℕ) (cs : List Change) → CanModify old t → BreaksStaging old t cs fault s → Closes s false new → MakesNone old t cs fault new
given_up fault old s new t cs can h g = record {
  nature = g.nature ∙ h.nature;
  next = old.ledger.next;
  rises = omega arith;
  stays = λ e. e;
  keeps = λ e. refl;
  ledger = g.ledger ∙ ap (λ (l : Ledger). record l { staged = None }) h.ledger ∙ ap (λ (l : Ledger). record l { faults = faults_after fault old.ledger.faults }) (none_staged old.ledger can.not_staged);
  cause = h.cause;
  leaves = λ honest. leaves_twice old s new (ap (λ z. z.live) h.ledger) (h.leaves honest) (g.content (honest_on old s h.nature honest));
}
