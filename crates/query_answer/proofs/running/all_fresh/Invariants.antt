use Rattle.std.proofs.Common.{[], take}
use Rattle.query_answer.specs.Running.{AllRun}
use Rattle.query_answer.proofs.running.all_fresh.Given as goal

abbrev pub invariant-loop-leaf : goal.invariant-loop-leaf
invariant-loop-leaf l = AllRun (take l.leaf-index l.leaves) [] l.all.items
