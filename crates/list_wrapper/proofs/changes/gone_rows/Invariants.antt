use Rattle.std.proofs.Common.{◌≡◌, ◌<◌, ℕ, false, drop, length, get_or}
use Rattle.list_wrapper.specs.Changes.{gone_after}
use Rattle.list_wrapper.proofs.changes.gone_rows.Given as goal

abbrev pub invariant-loop-change : goal.invariant-loop-change
invariant-loop-change l = record {
  long : length l.gone.items ≡ l.fn.count;
  each : (id : ℕ) → id < l.fn.count → gone_after id (drop l.change-index l.fn.changes) (get_or l.gone.items id false) ≡ gone_after id l.fn.changes false;
}
