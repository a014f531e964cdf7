use Rattle.std.proofs.Common.{◌-◌, ◌++◌, map, take, drop, rules}
use Rattle.csv.specs.Records.{fields_of}
use Rattle.csv_tables.specs.Tables.{records_of}
use Rattle.csv_tables.proofs.Gathering.{no_lines, replaces_none, replaces_fresh}
use Rattle.csv_tables.proofs.middle.up_to_fresh.Goals as goal

pub returns-then-is_empty-clause-rows : goal.returns-then-is_empty-clause-rows
returns-then-is_empty-clause-rows c =
    let none = no_lines c.args.fresh.items (search rules) in
    λ all from was. replaces_none c.args.rows.now all from c.args.to c.args.gathered c.args.fresh.items was none

pub returns-clause-rows : goal.returns-clause-rows
returns-clause-rows c =
    let s = c.args.rows.now in
    λ all from was. replaces_fresh s all from c.args.to c.args.gathered _ (map fields_of c.args.fresh.items) c.requires.within was
    (λ middle g. c.in_ok-all.ensures s.width (middle ++ take (s.count - c.args.to) (drop c.args.to (records_of s))) (c.in_ok-kept.ensures.rows middle g) c.requires.wide)
