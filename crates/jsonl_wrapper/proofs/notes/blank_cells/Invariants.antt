use Rattle.std.proofs.Common.{◌≡◌, take, map}
use Rattle.med_value.specs.Datum.{datum}
use Rattle.serde_json.specs.Data.{no_members}
use Rattle.jsonl_wrapper.specs.Fields.{reader_of}
use Rattle.jsonl_wrapper.specs.Notes.{row_of}
use Rattle.jsonl_wrapper.proofs.notes.blank_cells.Given as goal

abbrev pub invariant-loop-field : goal.invariant-loop-field
invariant-loop-field l = map datum l.cells.items ≡ row_of (map reader_of (take l.field-index l.fields)) no_members
