use Rattle.std.proofs.Common.{◌+◌, ◌-◌, ◌<◌, ◌≤◌, ◌++◌, ◌∙◌, List, ap, take, drop, length, map, arith, rules}
use Rattle.med_value.specs.declared.cause.Cause.TheVariants.{TooLarge}
use Rattle.csv.specs.Records.{fields_of}
use Rattle.csv_tables.specs.CsvRecords.{Record}
use Rattle.csv_tables.specs.Tables.{records_of}
use Rattle.csv_tables.specs.Rewriting.{fates_of, left_by}
use Rattle.csv_tables.proofs.Applying.{is_above, length_lines, many, not_many}
use Rattle.csv_tables.proofs.Drafts.{told}
use Rattle.csv_tables.proofs.Gathering.{replaces_count}
use Rattle.std.proofs.lemmas.List.{length-append}
use Rattle.csv_tables.proofs.middle.middle_of.Goals as goal

pub returns-then-are_too_many-clause-err : goal.returns-then-are_too_many-clause-err
returns-then-are_too_many-clause-err c =
    let s = c.args.rows.now in
    let all = left_by (fates_of c.args.sorted.changed s.count) (records_of s) in
    let fresh = c.args.sorted.fresh.items in
    let o = c.in_ok-kept.ensures.order in
    let low = o.0 in
    let high = o.1 in
    let n = replaces_count s all c.first_changed-from.result c.in_ok-kept.to c.in_ok-kept.kept (omega arith) c.in_ok-kept.ensures.rows in
    let a = length-append all (map fields_of fresh) in
    let l = length_lines fresh in
    let over : 1000000 < (c.first_changed-from.result + c.in_ok-kept.kept.count + (s.count - c.in_ok-kept.to)) + length fresh = many _ (search rules) in
    told _ TooLarge _ (is_above (length (all ++ map fields_of fresh)) 1000000 (omega arith))

pub returns-clause-few : goal.returns-clause-few
returns-clause-few c =
    let s = c.args.rows.now in
    let all = left_by (fates_of c.args.sorted.changed s.count) (records_of s) in
    let fresh = c.args.sorted.fresh.items in
    let o = c.in_ok-kept.ensures.order in
    let low = o.0 in
    let high = o.1 in
    let n = replaces_count s all c.first_changed-from.result c.in_ok-kept.to c.in_ok-kept.kept (omega arith) c.in_ok-kept.ensures.rows in
    let a = length-append all (map fields_of fresh) in
    let l = length_lines fresh in
    let under : (c.first_changed-from.result + c.in_ok-kept.kept.count + (s.count - c.in_ok-kept.to)) + length fresh ≤ 1000000 = not_many _ (search rules) in
    omega arith

pub as_rows-requires : goal.as_rows-requires
as_rows-requires c =
    let s = c.args.rows.now in
    let all = left_by (fates_of c.args.sorted.changed s.count) (records_of s) in
    let fresh = c.args.sorted.fresh.items in
    let from = c.first_changed-from.result in
    let o = c.in_ok-kept.ensures.order in
    let low = o.0 in
    let high = o.1 in
    let n = replaces_count s all from c.in_ok-kept.to c.in_ok-kept.kept (omega arith) c.in_ok-kept.ensures.rows in
    let a = length-append all (map fields_of fresh) in
    let l = length_lines fresh in
    let under : (from + c.in_ok-kept.kept.count + (s.count - c.in_ok-kept.to)) + length fresh ≤ 1000000 = not_many _ (search rules) in
    let p = c.in_ok-gathered.ensures.rows all from c.in_ok-kept.ensures.rows in
    let k = replaces_count s (all ++ map fields_of fresh) from c.in_ok-gathered.to c.in_ok-gathered.gathered (omega arith) p in
    let i = p.gathers.count_is in (p.middle, p.gathers, omega arith)

pub returns-clause-rows : goal.returns-clause-rows
returns-clause-rows c =
    let s = c.args.rows.now in
    let all = left_by (fates_of c.args.sorted.changed s.count) (records_of s) in
    let p = c.in_ok-gathered.ensures.rows all c.first_changed-from.result c.in_ok-kept.ensures.rows in
    ap (λ (l : List Record). take c.first_changed-from.result (records_of s) ++ l ++ drop c.in_ok-gathered.to (records_of s)) (c.as_rows.ensures.rows p.middle p.gathers) ∙ p.all_is
