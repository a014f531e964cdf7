use Rattle.std.proofs.Common.{◌≡◌, ◌++◌, take, drop, map, unwrap_or}
use Rattle.med_value.specs.Datum.{datum, NoValue}
use Rattle.json_members.specs.Scalars.{seen_of}
use Rattle.jsonl_wrapper.specs.Fields.{reader_of}
use Rattle.jsonl_wrapper.specs.Notes.{cell_seen, at_member}
use Rattle.jsonl_wrapper.proofs.notes.put_member.Given as goal

abbrev pub invariant-loop-at : goal.invariant-loop-at
invariant-loop-at l =
    at_member l.name (λ kind. unwrap_or (cell_seen (seen_of l.scalar) kind) NoValue) (map reader_of l.fields) (map datum l.initial.cells)
    ≡ take l.at (map datum l.cells)
    ++ at_member l.name (λ kind. unwrap_or (cell_seen (seen_of l.scalar) kind) NoValue) (map reader_of (drop l.at l.fields))
    (drop l.at (map datum l.cells))
