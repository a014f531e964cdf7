-- Counts of boxes, of which nothing more was asked.
use Rattle.std.proofs.Common.{◌≡◌, ℕ, ◌+◌, ◌≤◌, Bool, true, false, cond, nat_eq, List, Option, refl, ap, sym, ◌∙◌, subst, arith}
use Rattle.fdw_api.specs.State.{BoxState}
use Rattle.med_exec.specs.declared.running.Run.{Run}
use Rattle.med_exec.specs.Prelude.{BeginsScans, levels_in, slot_in, skip_in, limit_in, pulled_at, PullsAtMost, many_in, IsBareRun, PullsAsked, PullsNext, Held, ServesRun}
use Rattle.med_exec.proofs.Served.{after_service}
use Rattle.scan_loops.specs.Prelude.{source_at, none_in}
use Rattle.scan_loops.specs.declared.levels.LoopLevel.{LoopLevel}
use Rattle.med_world.specs.Fetching.{PullsFor}

pub begins_on : (f g : Held) (count : ℕ → ℕ) (old mid new : List (Option BoxState)) → ServesRun f g old mid → BeginsScans count old mid → BeginsScans none_in mid new → BeginsScans count old new
begins_on f g count old mid new served first after slot s t was is =
    let at = after_service f g old mid slot s served was in
    let a : at.after.ledger.next ≡ s.ledger.next + count slot = first slot s at.after was at.is in
    let b : t.ledger.next ≡ at.after.ledger.next + 0 = after slot at.after t at.is is in
    omega (arith, a, b)

-- ---- rows that boxes give

pub none_called : (run : Run) (boxes : List (Option BoxState)) → PullsFor 0 run boxes run boxes
none_called run boxes = record {
  same = refl;
  none = λ e. refl;
  most = λ bare slot. omega arith;
  passed = λ bare. omega arith;
  offset = λ bare. omega arith;
  limit = λ bare n e. (n, e, omega arith);
}

most_on : (slot skip skip' n : ℕ) (old now new : List (Option BoxState)) → PullsAtMost (many_in slot (skip + n)) old now → pulled_at now slot + skip' ≤ pulled_at old slot + (skip + n) → PullsAtMost (many_in slot (skip' + 1)) now new → PullsAtMost (many_in slot (skip + (n + 1))) old new
most_on slot skip skip' n old now new first offset after other = split (nat_eq slot other) refl
  where
    split : (b : Bool) → nat_eq slot other ≡ b → pulled_at new other ≤ pulled_at old other + cond b (skip + (n + 1)) 0
    split false ne =
        let x : pulled_at now other ≤ pulled_at old other + many_in slot (skip + n) other = first other in
        let y : pulled_at new other ≤ pulled_at now other + many_in slot (skip' + 1) other = after other in
        let u : many_in slot (skip + n) other ≡ 0 = ap (λ (b : Bool). cond b (skip + n) 0) ne in
        let v : many_in slot (skip' + 1) other ≡ 0 = ap (λ (b : Bool). cond b (skip' + 1) 0) ne in
        omega (arith, x, y, u, v)
    split true is =
        let same : slot ≡ other = grind (arith, is) in
        let x : pulled_at now other + skip' ≤ pulled_at old other + (skip + n) = subst (λ (q : ℕ). pulled_at now q + skip' ≤ pulled_at old q + (skip + n)) same offset in
        let y : pulled_at new other ≤ pulled_at now other + many_in slot (skip' + 1) other = after other in
        let v : many_in slot (skip' + 1) other ≡ skip' + 1 = ap (λ (b : Bool). cond b (skip' + 1) 0) is in
        omega (arith, x, y, v)

pub one_called : (first run last : Run) (old now new : List (Option BoxState)) (n : ℕ) → PullsFor n first old run now → PullsNext run now last new → PullsFor (n + 1) first old last new
one_called first run last old now new n so_far next = record {
  same = next.same ∙ so_far.same;
  none = λ e. next.none (so_far.same ∙ e) ∙ so_far.none e;
  most = λ bare. most_on (slot_in first) (skip_in first) (skip_in run) n old now new (so_far.most bare) (so_far.offset bare) (asked bare).most;
  passed = λ bare.
      let x = so_far.passed bare in
      let y = (asked bare).passed in
      omega (arith, x, y);
  offset = λ bare.
      let x = so_far.offset bare in
      let y = (asked bare).offset in
      omega (arith, x, y);
  limit = λ bare k e.
      let x = so_far.limit bare k e in
      let y = (asked bare).limit x.0 x.1 in
      let a = x.2 in
      let b = y.2 in
      (y.0, y.1, omega (arith, a, b));
}
  where
    asked : IsBareRun (levels_in first) → PullsAsked (slot_in first) (skip_in run) (limit_in run) now (skip_in last) (limit_in last) new
    asked bare =
        subst (λ (ls : List LoopLevel). PullsAsked (source_at ls 0) (skip_in run) (limit_in run) now (skip_in last) (limit_in last) new) so_far.same
        (next.asked (subst IsBareRun (sym so_far.same) bare))
