use Rattle.std.proofs.Common.{◌≡◌, ◌≤◌, ◌-◌, ◌++◌, ℕ, ap, take, drop, arith}
use Rattle.csv.specs.Records.{fields_of}
use Rattle.csv_tables.specs.CsvRecords.{csv_text}
use Rattle.csv_tables.specs.Tables.{records_of}
use Rattle.csv_tables.proofs.Writing.{writes_as}
use Rattle.csv_tables.proofs.Heads.{rows_first, rows_next}
use Rattle.csv_tables.proofs.image.write_rows.Goals as goal

pub loop-at-init : goal.loop-at-init
loop-at-init c = λ text was. writes_as _ _ _ was (rows_first c.args.rows.now c.args.from text)

pub loop-at-preserved : goal.loop-at-preserved
loop-at-preserved c =
    let s = c.args.rows.now in
    let at = c.loop-at.at in
    let low : c.args.from ≤ at = c.loop-at.auto.at in
    λ text was.
    (let done = text ++ csv_text (take (at - c.args.from) (drop c.args.from (records_of s))) in
    writes_as _ _ _ (c.in_ok-write_line.ensures done (c.loop-at.invariant text was))
    (rows_next s c.args.from at (fields_of c.record_at.new.row) text low (omega arith) c.in_ok-record_at.ensures))

pub returns : goal.returns
returns c =
    let s = c.args.rows.now in
    let from = c.args.from in
    let high = c.loop-at.auto.at-end c.requires.order in
    let last : c.loop-at.at - from ≡ c.args.to - from = omega arith in
    λ text was. writes_as _ _ _ (c.loop-at.invariant text was) (ap (λ (k : ℕ). text ++ csv_text (take k (drop from (records_of s)))) last)
