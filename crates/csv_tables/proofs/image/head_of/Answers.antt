use Rattle.std.proofs.Common.{◌++◌, ◌∙◌, ap, sym, List, ℕ}
use Rattle.csv_tables.specs.CsvRecords.{csv_records, heading}
use Rattle.csv_tables.specs.Flat.{header_in}
use Rattle.csv_tables.specs.Rewriting.{held_text, records_with}
use Rattle.csv_tables.proofs.Heads.{head_text, plain_with, plain_fields, told_by_line}
use Rattle.csv_tables.proofs.image.head_of.Goals as goal

pub returns-then-is_told_by_line-clause-image : goal.returns-then-is_told_by_line-clause-image
returns-then-is_told_by_line-clause-image c =
    let rs = records_with c.args.rows.now c.args.middle.now in
    let plain = plain_with c.args.rows.now c.args.middle.now c.if-rows.true c.if-middle.true in
    ap (λ (l : List ℕ). l ++ held_text rs) c.in_ok-bytes.ensures ∙ head_text (header_in c.args.header.now) rs plain

pub returns-then-is_told_by_line-clause-header : goal.returns-then-is_told_by_line-clause-header
returns-then-is_told_by_line-clause-header c =
    let header = header_in c.args.header.now in
    let rs = records_with c.args.rows.now c.args.middle.now in
    let plain = plain_with c.args.rows.now c.args.middle.now c.if-rows.true c.if-middle.true in
    λ flag names is. told_by_line flag names header rs is (sym c.is_told_by_line.ensures ∙ c.if-is_told_by_line.true) (plain_fields rs plain)
    ∙ ap (λ (l : List ℕ). heading flag names (csv_records l)) (sym c.in_ok-bytes.ensures)
