-- What the notes of a line are after the members of its object.
use Rattle.std.specs.Prelude.{◌≡◌, false, map}
use Rattle.med_value.specs.Datum.{datum}
use Rattle.serde_json.specs.Data.{Members}
use Rattle.jsonl_wrapper.specs.declared.notes.Marks.{Marks}
use Rattle.jsonl_wrapper.specs.declared.notes.Cells.{Cells}
use Rattle.jsonl_wrapper.specs.declared.notes.Others.{Others}
use Rattle.jsonl_wrapper.specs.Fields.{reader_of}
use Rattle.jsonl_wrapper.specs.Objects.{has_other}
use Rattle.jsonl_wrapper.specs.Notes.{marks_of, row_of}

-- of the same columns, each with its mark
pub record MarksAfter (begun : Marks) (ms : Members) (notes : Marks) : Type 0 where
  pub fields : notes.fields.now ≡ begun.fields.now
  pub marks : notes.marks.items ≡ marks_of (map reader_of begun.fields.now) ms

-- of the same columns, each with its cell, if memory was never refused
pub record CellsAfter (begun : Cells) (ms : Members) (notes : Cells) : Type 0 where
  pub fields : notes.fields.now ≡ begun.fields.now
  pub cells : notes.is_short ≡ false → map datum notes.cells.items ≡ row_of (map reader_of begun.fields.now) ms

-- of the same columns, and whether some member is read by none of them
pub record OthersAfter (begun : Others) (ms : Members) (notes : Others) : Type 0 where
  pub fields : notes.fields.now ≡ begun.fields.now
  pub other : notes.is_wider ≡ has_other (map reader_of begun.fields.now) ms
