use Rattle.std.proofs.Common.{◌≤◌, length, arith}
use Rattle.csv_tables.specs.Rises.{first_column}
use Rattle.csv_tables.proofs.RisingKeys.{keys_count, up_to_all}
use Rattle.csv_tables.proofs.rises.first_rises.Goals as goal

pub returns : goal.returns
returns c =
    let t = c.args.table.now in
    let many = keys_count t in
    let test = c.loop-at-test.false in
    let all : length (first_column t) ≤ c.loop-at.at = omega arith in
    λ told. up_to_all (first_column t) _ c.loop-at.at c.loop-at.invariant all
