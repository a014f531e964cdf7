use Rattle.std.proofs.Common.{arith}
use Rattle.list_wrapper.proofs.RunsOfRows.{before_more}
use Rattle.list_wrapper.proofs.runs.spot_of.Goals as goal

pub returns : goal.returns
returns c =
    let from = c.run_of-run.ensures.1 in
    let to = c.run_of-run.ensures.2 in
    let start = c.start_of.ensures in
    let next = before_more c.args.runs.now c.run_of-run.result in
    record { there = c.run_of-run.ensures.0; within = omega arith; is = omega arith }
