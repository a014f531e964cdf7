use Rattle.std.proofs.Common.{◌<◌, length, Some, arith}
use Rattle.bind_query.proofs.Starred.{starred_step}
use Rattle.bind_query.proofs.outputs.push_all_of.Goals as goal

pub loop-entry-preserved : goal.loop-entry-preserved
loop-entry-preserved c =
    let lt : c.loop-entry.entry-index < length c.args.scope.now = omega arith in
    let sum = c.in-Some.ensures {u = tt} in
    starred_step _ _ _ c.args.scope.now c.loop-entry.entry-index c.loop-entry.at c.in-Some.end c.entry-item.result (Some c.args.name.now) c.loop-entry.invariant lt c.entry-item.is c.in_ok-push_named.ensures.0 sum.1
