use Rattle.std.proofs.Common.{◌≡◌, ◌∙◌, ◌≤◌, ◌-◌, ◌^◌, true, false, ap, subst, sym, ℕ, rules, arith}
use Rattle.fdw_api.specs.Calls.{bumped}
use Rattle.probe_wrapper.specs.Failing.{has_come}
use Rattle.probe_wrapper.proofs.FailingLemmas.{len_of, faults_before, faults_since}
use Rattle.probe_wrapper.proofs.failing.FailingWrapper.ledger.Goals as goal

pub returns-then-not-has_come : goal.returns-then-not-has_come
returns-then-not-has_come g c =
    let not_yet : has_come c.args.self.now.failure ≡ false = search rules in
    let few : c.ledger-counts.result.faults ≤ 2 ^ 64 - 1 = omega arith in
    record {
      next = c.ledger-counts.ensures.next;
      live = c.ledger-counts.ensures.live ∙ sym (len_of c.args.self.now.failure (g.W.Wrapper.meaning c.args.self.now.inner).ledger.live);
      pulled = c.ledger-counts.ensures.pulled;
      faults = c.ledger-counts.ensures.faults ∙ sym (faults_before c.args.self.now.failure (g.W.Wrapper.meaning c.args.self.now.inner).ledger.faults not_yet (subst (λ (n : ℕ). n ≤ 2 ^ 64 - 1) c.ledger-counts.ensures.faults few));
    }

pub returns : goal.returns
returns g c =
    let come : has_come c.args.self.now.failure ≡ true = search rules in
    record {
      next = c.ledger-counts.ensures.next;
      live = c.ledger-counts.ensures.live ∙ sym (len_of c.args.self.now.failure (g.W.Wrapper.meaning c.args.self.now.inner).ledger.live);
      pulled = c.ledger-counts.ensures.pulled;
      faults = c.saturating_add.ensures ∙ ap bumped c.ledger-counts.ensures.faults ∙ sym (faults_since c.args.self.now.failure (g.W.Wrapper.meaning c.args.self.now.inner).ledger.faults come);
    }
