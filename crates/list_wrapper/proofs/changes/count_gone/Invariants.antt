use Rattle.std.proofs.Common.{◌≡◌, ◌≤◌, take}
use Rattle.std.specs.List.{count_by}
use Rattle.list_wrapper.specs.Changes.{is_yes}
use Rattle.list_wrapper.proofs.changes.count_gone.Given as goal

abbrev pub invariant-loop-is_gone : goal.invariant-loop-is_gone
invariant-loop-is_gone l = record {
  counted : l.count ≡ count_by is_yes (take l.is_gone-index l.gone);
  few : l.count ≤ l.is_gone-index;
}
