use Rattle.std.proofs.Common.{◌≡◌, drop, map}
use Rattle.jsonl_wrapper.specs.Fields.{reader_of, reads_member}
use Rattle.jsonl_wrapper.proofs.notes.is_member.Given as goal

abbrev pub invariant-loop-field : goal.invariant-loop-field
invariant-loop-field l = reads_member (map reader_of l.fields) l.name ≡ reads_member (map reader_of (drop l.field-index l.fields)) l.name
