use Rattle.std.proofs.Common.{◌≡◌, ◌++◌, take, drop, map}
use Rattle.json_members.specs.Scalars.{seen_of}
use Rattle.jsonl_wrapper.specs.Fields.{reader_of}
use Rattle.jsonl_wrapper.specs.Notes.{cell_seen, mark_of, at_member}
use Rattle.jsonl_wrapper.proofs.notes.mark_member.Given as goal

abbrev pub invariant-loop-at : goal.invariant-loop-at
invariant-loop-at l =
    at_member l.name (λ kind. mark_of (cell_seen (seen_of l.scalar) kind)) (map reader_of l.fields) l.initial.marks
    ≡ take l.at l.marks
    ++ at_member l.name (λ kind. mark_of (cell_seen (seen_of l.scalar) kind)) (map reader_of (drop l.at l.fields)) (drop l.at l.marks)
