use Rattle.std.proofs.Common.{◌≡◌, ◌-◌, length, ap, arith, rules}
use Rattle.list_wrapper.specs.Runs.{run_rows}
use Rattle.list_wrapper.proofs.RunsOfRows.{run_is}
use Rattle.list_wrapper.proofs.runs.cut_last.Goals as goal

pub cut-requires-clause-long : goal.cut-requires-clause-long
cut-requires-clause-long c =
    let runs = c.loop-runs.runs.items in
    let at = c.len-count.result - 1 in
    let x = c.index.result.now in
    let here : length (run_rows runs at) ≡ length x.rows.items = ap length (run_is runs at x c.loop-runs.invariant.there c.index.ensures) in
    let long = c.loop-runs-test.true in
    let many : c.len.result ≡ length x.rows.items = search rules in
    omega arith
