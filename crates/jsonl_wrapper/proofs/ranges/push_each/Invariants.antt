use Rattle.std.proofs.Common.{◌++◌, ℕ, List}
use Rattle.std.specs.List.{slice_range}
use Rattle.jsonl_wrapper.specs.Lines.{IsImage}
use Rattle.jsonl_wrapper.specs.Tables.{lines_in}
use Rattle.jsonl_wrapper.proofs.ranges.push_each.Given as goal

abbrev pub invariant-loop-at : goal.invariant-loop-at
invariant-loop-at l = (lines : List (List ℕ)) → IsImage l.initial.image.content.items l.initial.image.lines.items lines
    → IsImage l.image.content.items l.image.lines.items (lines ++ slice_range (lines_in l.table) l.from l.at)
