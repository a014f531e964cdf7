use Rattle.std.proofs.Common.{◌<◌, length, None, arith}
use Rattle.bind_query.proofs.Starred.{starred_step}
use Rattle.bind_query.proofs.outputs.push_all.Goals as goal

pub loop-entry-preserved : goal.loop-entry-preserved
loop-entry-preserved c =
    let lt : c.loop-entry.entry-index < length c.args.scope.now = omega arith in
    let sum = c.in-Some.ensures {u = tt} in
    starred_step _ _ _ c.args.scope.now c.loop-entry.entry-index c.loop-entry.at c.in-Some.end c.entry-item.result None c.loop-entry.invariant lt c.entry-item.is c.in_ok-push_columns.ensures.0 sum.1
