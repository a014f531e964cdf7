-- A table of which a write is under way.
use Rattle.std.specs.Prelude.{◌≡◌, ◌≤◌, ℕ, true, List, length}
use Rattle.std.specs.String.{string_bytes}
use Rattle.std.specs.List.{flat_map}
use Rattle.csv.specs.Records.{fields_of}
use Rattle.med_value.specs.Limits.{row_limit}
use Rattle.fdw_api.specs.Prelude.{TableRow, Change}
use Rattle.csv_tables.specs.declared.layout.Layout.{Layout}
use Rattle.csv_tables.specs.declared.table.CsvTable.{CsvTable}
use Rattle.csv_tables.specs.declared.rows_draft.RowsDraft.{RowsDraft}
use Rattle.csv_tables.specs.declared.written.Plan.{Plan}
use Rattle.csv_tables.specs.declared.draft.TableDraft.{TableDraft}
use Rattle.csv_tables.specs.CsvRecords.{Record, is_header}
use Rattle.csv_tables.specs.Held.{held_of}
use Rattle.csv_tables.specs.Flat.{cut_into, header_in}
use Rattle.csv_tables.specs.Tables.{shape_is, numbered, records_of}
use Rattle.csv_tables.specs.Rewriting.{Rewrites, records_with, image_by, held_text}

-- the records as they were, and as they are once the write is kept
abbrev pub records_before : RowsDraft → List Record
records_before d = cut_into d.old_count d.width (held_of d.fields.before)

abbrev pub records_kept : RowsDraft → List Record
records_kept d = cut_into d.count d.width (held_of d.fields.after)

-- the text of the fields once the write is kept
abbrev pub text_kept : RowsDraft → List ℕ
text_kept d = flat_map (λ field. field) (fields_of d.fields.after)

-- the image of a write
abbrev pub image_of : TableDraft → List ℕ
image_of w = image_by w.in_pieces w.head.items (text_kept w.rows)

-- a table of this name and these columns, with this header and these records
pub record ShowsAs (t : CsvTable) (remote : List ℕ) (layout : Layout) (header records : List Record) : Type 0 where
  pub remote_is : string_bytes t.remote ≡ remote
  pub layout_is : t.layout ≡ layout
  pub header_is : header_in t.header ≡ header
  pub records_are : records_of t.rows ≡ records

-- a table shows what another shows
abbrev pub IsLike : CsvTable → CsvTable → Type 0
IsLike t u = ShowsAs u (string_bytes t.remote) t.layout (header_in t.header) (records_of t.rows)

-- what a table is once a write of it is given up, and once it is kept
abbrev pub IsBefore : TableDraft → CsvTable → Type 0
IsBefore w t = ShowsAs t (string_bytes w.remote) w.layout (header_in w.before) (records_before w.rows)

abbrev pub IsAfter : TableDraft → CsvTable → Type 0
IsAfter w t = ShowsAs t (string_bytes w.remote) w.layout (header_in w.after) (records_kept w.rows)

-- what a write puts in the place of what stands
pub record IsPlan (t : CsvTable) (changes : List Change) (p : Plan) : Type 0 where
  pub order : p.middle.from ≤ p.middle.to
  pub within : p.middle.to ≤ t.rows.count
  pub width : p.middle.rows.width ≡ t.rows.width
  pub few : length (records_with t.rows p.middle) ≤ row_limit
  pub headed : is_header t.layout.header (header_in p.header) ≡ true
  pub rewrites : Rewrites t changes (header_in p.header) (records_with t.rows p.middle)
      (image_by p.head.in_pieces p.head.bytes.items (held_text (records_with t.rows p.middle)))

-- its rows under their ids as they were, and as they are once the write is kept
abbrev pub rows_before : TableDraft → List TableRow
rows_before w = numbered (shape_is w.layout) 0 (records_before w.rows)

abbrev pub rows_kept : TableDraft → List TableRow
rows_kept w = numbered (shape_is w.layout) 0 (records_kept w.rows)
