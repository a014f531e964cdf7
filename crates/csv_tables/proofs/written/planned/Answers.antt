use Rattle.std.proofs.Common.{◌≡◌, ◌<◌, ◌++◌, ◌∙◌, ℕ, List, not, ap, sym, length, map, arith}
use Rattle.std.specs.List.{list_any}
use Rattle.std.specs.String.{string_bytes}
use Rattle.std.proofs.lemmas.Result.{err_from_is_err_and}
use Rattle.csv.specs.Records.{fields_of}
use Rattle.wrapper_parts.specs.Staged.{change_is}
use Rattle.csv_tables.specs.CsvRecords.{Record, csv_records, csv_text, heading}
use Rattle.csv_tables.specs.Shapes.{hides_value}
use Rattle.csv_tables.specs.Flat.{header_in}
use Rattle.csv_tables.specs.Tables.{shape_is, records_of}
use Rattle.csv_tables.specs.Rewriting.{left_by, fates_of, rows_in, records_with, image_by, held_text}
use Rattle.csv_tables.proofs.Applying.{rows_made, tells_hidden, tells_few, tells_long}
use Rattle.csv_tables.proofs.Planning.{above_limit, plan_is}
use Rattle.csv_tables.proofs.written.planned.Goals as goal

pub returns-in_err-sorted-clause-err : goal.returns-in_err-sorted-clause-err
returns-in_err-sorted-clause-err c =
    let t = c.args.table.now in
    let p = err_from_is_err_and c.from_residual.result c.from_residual.ensures.1 in
    rw (p.1, p.2)
    (tells_hidden c.in_err-sorted.field-0.0 (not (list_any (hides_value (string_bytes t.layout.null)) (map change_is c.args.changes.items))) _ c.in_err-sorted.ensures.err)

pub returns-in_err-middle-clause-err : goal.returns-in_err-middle-clause-err
returns-in_err-middle-clause-err c =
    let t = c.args.table.now in
    let s = c.in_ok-sorted.sorted in
    let changes = map change_is c.args.changes.items in
    let rs = left_by (fates_of s.changed t.rows.count) (records_of t.rows) ++ map fields_of s.fresh.items in
    let made = rows_made t s.changed s.fresh.items changes c.in_ok-sorted.ensures.fates c.in_ok-sorted.ensures.fresh in
    let p = err_from_is_err_and c.from_residual-in_err-middle.result c.from_residual-in_err-middle.ensures.1 in
    rw (p.1, p.2) (tells_few (shape_is t.layout) (header_in t.header) rs (rows_in t) changes c.in_err-middle.field-0.0 made c.in_err-middle.ensures.err)

pub returns-then-is_too_large-clause-err : goal.returns-then-is_too_large-clause-err
returns-then-is_too_large-clause-err c =
    let t = c.args.table.now in
    let s = c.in_ok-sorted.sorted in
    let m = c.in_ok-middle.middle in
    let head = c.in_ok-head.head in
    let changes = map change_is c.args.changes.items in
    let rs = left_by (fates_of s.changed t.rows.count) (records_of t.rows) ++ map fields_of s.fresh.items in
    let made = rows_made t s.changed s.fresh.items changes c.in_ok-sorted.ensures.fates c.in_ok-sorted.ensures.fresh in
    let text : image_by head.in_pieces head.bytes.items (held_text (records_with t.rows m)) ≡ csv_text (header_in t.header ++ rs) =
    c.in_ok-head.ensures.image ∙ ap (λ (l : List Record). csv_text (header_in t.header ++ l)) c.in_ok-middle.ensures.rows in
    let size = ap length text in
    let over : 67108864 < length (image_by head.in_pieces head.bytes.items (held_text (records_with t.rows m))) = above_limit _ (sym c.is_too_large.ensures ∙ c.if-is_too_large.true) in
    let lt : 67108864 < length (csv_text (header_in t.header ++ rs)) = omega arith in
    tells_long (shape_is t.layout) (header_in t.header) rs (rows_in t) changes made lt

pub returns-clause-ok : goal.returns-clause-ok
returns-clause-ok c =
    let t = c.args.table.now in
    let s = c.in_ok-sorted.sorted in
    let names = map string_bytes t.layout.names.items in
    let changes = map change_is c.args.changes.items in
    let rs = left_by (fates_of s.changed t.rows.count) (records_of t.rows) ++ map fields_of s.fresh.items in
    let made = rows_made t s.changed s.fresh.items changes c.in_ok-sorted.ensures.fates c.in_ok-sorted.ensures.fresh in
    let m = c.in_ok-middle.ensures in
    let head = c.in_ok-head.ensures in
    plan_is t changes _ rs m.order.0 m.order.1 m.width m.rows made c.in_ok-sorted.ensures.clear m.few head.image (sym c.is_too_large.ensures ∙ c.if-is_too_large.false)
    (head.header t.layout.header names t.headed)
    (c.in_ok-header.ensures ∙ ap (λ (b : List ℕ). heading t.layout.header names (csv_records b)) c.deref.ensures.value)
