use Rattle.std.proofs.Common.{◌≡◌, drop}
use Rattle.std.specs.List.{list_any}
use Rattle.list_wrapper.specs.Changes.{is_delete}
use Rattle.list_wrapper.proofs.changes.takes_out.Given as goal

abbrev pub invariant-loop-change : goal.invariant-loop-change
invariant-loop-change l = list_any is_delete (drop l.change-index l.changes) ≡ list_any is_delete l.changes
