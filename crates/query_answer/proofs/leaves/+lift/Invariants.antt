use Rattle.std.proofs.Common.{take}
use Rattle.query_answer.specs.Leaves.{AllLift, AreMore}
use Rattle.query_answer.proofs.leaves.+lift.Given as goal

abbrev pub invariant-all_lifted-loop-part : goal.invariant-all_lifted-loop-part
invariant-all_lifted-loop-part l =
    record {
      more : AreMore l.fn.leaves.items l.leaves.items;
      lift : AllLift l.leaves.items (take l.part-index l.parts) l.all.items;
    }
