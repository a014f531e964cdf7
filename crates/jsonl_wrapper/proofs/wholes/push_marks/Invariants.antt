use Rattle.std.proofs.Common.{◌≡◌, ◌++◌, map, length}
use Rattle.jsonl_wrapper.specs.Fields.{reader_of}
use Rattle.jsonl_wrapper.specs.Wholes.{whole_is}
use Rattle.jsonl_wrapper.specs.Notes.{wholes_in}
use Rattle.jsonl_wrapper.proofs.wholes.push_marks.Given as goal

abbrev pub invariant-loop-field : goal.invariant-loop-field
invariant-loop-field l =
    map whole_is l.wholes.items ++ map whole_is (wholes_in (map reader_of l.fields) (l.marks))
    ≡ map whole_is l.initial.wholes.items ++ map whole_is (wholes_in (map reader_of l.initial.fields) (l.initial.marks))

abbrev pub decreases-loop-field : goal.decreases-loop-field
decreases-loop-field l = length l.fields
