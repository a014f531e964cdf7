use Rattle.std.proofs.Common.{◌≡◌, length, drop, arith}
use Rattle.std.proofs.lemmas.List.{length-drop}
use Rattle.loop_runs.specs.Gathering.{levels_in}
use Rattle.loop_runs.proofs.Decided.{all_settled}
use Rattle.loop_runs.proofs.deciding.decide_each.Goals as goal

pub returns : goal.returns
returns c =
    let at = c.loop-core in
    let l = length-drop at.core-index c.args.cores.now in
    let end = c.loop-core-test.false in
    let none : length (drop at.core-index c.args.cores.now) ≡ 0 = omega (arith, l, end) in
    all_settled c.args.cores.now (drop at.core-index c.args.cores.now) (levels_in c.args.loops.now) (levels_in at.coming.now) at.held.items none at.invariant
