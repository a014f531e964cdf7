use Rattle.std.proofs.Common.{◌≡◌, take, map}
use Rattle.serde_json.specs.Data.{no_members}
use Rattle.jsonl_wrapper.specs.Fields.{reader_of}
use Rattle.jsonl_wrapper.specs.Notes.{marks_of}
use Rattle.jsonl_wrapper.proofs.notes.blank_marks.Given as goal

abbrev pub invariant-loop-field : goal.invariant-loop-field
invariant-loop-field l = l.marks.items ≡ marks_of (map reader_of (take l.field-index l.fields)) no_members
