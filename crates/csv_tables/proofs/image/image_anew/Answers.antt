use Rattle.std.proofs.Common.{◌≡◌, ◌++◌, ◌-◌, [], take, drop, Option, Some, None, ap, sym, ◌∙◌, rules}
use Rattle.std.proofs.lemmas.List.{append-nil}
use Rattle.csv.specs.Records.{fields_of}
use Rattle.csv.specs.Writing.{default_writer, row_text}
use Rattle.csv.specs.declared.record.ByteRecord.{ByteRecord}
use Rattle.csv_tables.specs.CsvRecords.{csv_text}
use Rattle.csv_tables.specs.Flat.{header_in}
use Rattle.csv_tables.specs.Tables.{records_of}
use Rattle.csv_tables.specs.Rewriting.{HasWritten}
use Rattle.csv_tables.proofs.Writing.{writes_as, image_is}
use Rattle.csv_tables.proofs.Heads.{rows_anew}
use Rattle.csv_tables.proofs.image.image_anew.Goals.{in-Some+in_ok-write_line, in_default}
use Rattle.csv_tables.proofs.image.image_anew.Goals as goal

header_text : (h : Option ByteRecord) (r : ByteRecord) → h ≡ Some r → row_text default_writer (fields_of r) ≡ csv_text (header_in h)
header_text h r e = sym (append-nil (row_text default_writer (fields_of r))) ∙ ap (λ (o : Option ByteRecord). csv_text (header_in o)) (sym e)

no_header : (h : Option ByteRecord) → h ≡ None → [] ≡ csv_text (header_in h)
no_header h e = ap (λ (o : Option ByteRecord). csv_text (header_in o)) (sym e)

pub returns-in-Ok : goal.returns-in-Ok
returns-in-Ok c =
    let s = c.args.rows.now in
    let m = c.args.middle.now in
    let header = header_in c.args.header.now in
    let none : HasWritten [] c.from_writer-wtr.result = search rules in
    let start : HasWritten (csv_text header) c.match-header.wtr = elim c.match-header.branch [
      | in-Some+in_ok-write_line w ↦ rw w.wtr-is (writes_as _ _ _ (w.in_ok-write_line.ensures [] none) (header_text c.args.header.now w.in-Some.header w.in-Some.is))
      | in_default w ↦ rw w.wtr-is (writes_as _ _ _ none (no_header c.args.header.now w.in_default.is))
    ] in
    let front = csv_text header ++ csv_text (take (m.from - 0) (drop 0 (records_of s))) in
    let new = front ++ csv_text (take (m.rows.count - 0) (drop 0 (records_of m.rows))) in
    image_is _ _ c.in-Ok.image
    (writes_as _ _ _ (c.in_ok-write_rows-3.ensures new (c.in_ok-write_rows-2.ensures front (c.in_ok-write_rows.ensures (csv_text header) start))) (rows_anew header s m))
    c.in-Ok.ensures.ok
