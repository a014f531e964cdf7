-- How many rows the boxes gave to a run that was closed.
use Rattle.std.proofs.Common.{◌+◌, ◌≤◌, ℕ, List, Option, ap, subst, sym}
use Rattle.fdw_api.specs.State.{BoxState}
use Rattle.med_exec.specs.declared.running.Run.{Run}
use Rattle.med_exec.specs.Pulling.{pulled_at, slot_in, skip_in, many_in, PullsNone}
use Rattle.med_syntax.specs.CursorTree.{CountTree}
use Rattle.med_world.specs.Fetching.{PullsFetched, PullsEnded}

-- one that was asked for rows, and gave no further one as it was closed
pub pulls_ended : (asked : CountTree) (run after : Run) (old mid new : List (Option BoxState)) (before later : ℕ) → PullsFetched asked run old before after mid later → PullsNone mid new → PullsEnded asked run old new
pulls_ended asked run after old mid new before later p none = record {
  times = p.times;
  within = p.within;
  most = λ bare slot. subst (λ (n : ℕ). n ≤ pulled_at old slot + many_in (slot_in run) (skip_in run + p.times) slot) (sym (ap (λ (f : ℕ → ℕ). f slot) none)) (p.pulls.most bare slot);
}
