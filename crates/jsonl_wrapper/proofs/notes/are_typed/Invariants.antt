use Rattle.std.proofs.Common.{◌≡◌, drop, is_some}
use Rattle.std.specs.List.{list_all}
use Rattle.jsonl_wrapper.proofs.notes.are_typed.Given as goal

abbrev pub invariant-loop-mark : goal.invariant-loop-mark
invariant-loop-mark l = list_all is_some l.marks ≡ list_all is_some (drop l.mark-index l.marks)
