use Rattle.std.proofs.Common.{◌∷◌, [], ◌∙◌, ap, not, map}
use Rattle.std.specs.String.{string_bytes}
use Rattle.csv.specs.Records.{fields_of}
use Rattle.csv_tables.specs.CsvRecords.{csv_records}
use Rattle.csv_tables.proofs.ReadLaws.{starts_with}
use Rattle.csv_tables.proofs.Drafts.{heading_some, heading_none}
use Rattle.csv_tables.proofs.content.first_header.Goals as goal

pub returns-then-branch : goal.returns-then-branch
returns-then-branch c =
    let r = rw c.if-branch.true at (c.in_ok-next_record.ensures.found c.args.bytes.now [] c.reader_of-rdr.ensures) in
    let w = starts_with c.args.bytes.now (fields_of c.next_record.new.row ∷ []) c.next_record.new.rdr r in
    heading_some c.args.layout.now.header (map string_bytes c.args.layout.now.names.items) (csv_records c.args.bytes.now) (fields_of c.next_record.new.row) w.0 (ap not c.if-not-layout.false) w.1

pub returns : goal.returns
returns c =
    let r = rw c.if-branch.false at (c.in_ok-next_record.ensures.found c.args.bytes.now [] c.reader_of-rdr.ensures) in
    heading_none c.args.layout.now.header (map string_bytes c.args.layout.now.names.items) (fields_of c.in_ok-names_record.field-0) (csv_records c.args.bytes.now) (ap not c.if-not-layout.false) r
    (c.in_ok-names_record.ensures ∙ ap (map string_bytes) c.deref.ensures.value)
