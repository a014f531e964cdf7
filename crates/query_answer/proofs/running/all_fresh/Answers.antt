use Rattle.std.proofs.Common.{[], arith}
use Rattle.query_answer.proofs.Runnings.{run_more}
use Rattle.query_answer.proofs.running.all_fresh.Goals as goal

pub loop-leaf-preserved : goal.loop-leaf-preserved
loop-leaf-preserved c = run_more c.args.leaves.now [] c.loop-leaf.all.items _ _ c.loop-leaf.leaf-index c.leaf-item.result (omega arith) c.leaf-item.is c.in_ok-push.ensures.items c.fresh.ensures c.loop-leaf.invariant
