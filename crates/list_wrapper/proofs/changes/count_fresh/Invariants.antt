use Rattle.std.proofs.Common.{◌≡◌, ◌≤◌, take}
use Rattle.std.specs.List.{count_by}
use Rattle.list_wrapper.specs.Changes.{is_insert}
use Rattle.list_wrapper.proofs.changes.count_fresh.Given as goal

abbrev pub invariant-loop-change : goal.invariant-loop-change
invariant-loop-change l = record {
  counted : l.count ≡ count_by is_insert (take l.change-index l.changes);
  few : l.count ≤ l.change-index;
}
