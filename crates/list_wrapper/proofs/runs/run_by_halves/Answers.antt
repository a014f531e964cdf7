use Rattle.std.proofs.Common.{arith}
use Rattle.list_wrapper.proofs.RunsOfRows.{before_none, before_all, rows_some}
use Rattle.list_wrapper.proofs.runs.run_by_halves.Goals as goal

pub loop-first-init : goal.loop-first-init
loop-first-init c =
    let runs = c.args.runs.now in
    let there = c.requires.there in
    let none = before_none runs in
    let all = before_all runs in
    record { some = rows_some runs c.args.place there; within = omega arith; from = omega arith; to = omega arith }
