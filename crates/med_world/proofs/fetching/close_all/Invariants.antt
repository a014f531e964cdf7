use Rattle.std.proofs.Common.{map, length}
use Rattle.med_exec.specs.Prelude.{states, ServesRun}
use Rattle.med_world.specs.Open.{opened, held_by, AreHeld, AreOwn}
use Rattle.med_world.proofs.fetching.close_all.Given as goal

abbrev pub invariant-loop-cursor : goal.invariant-loop-cursor
invariant-loop-cursor g l =
    record {
      boxes : ServesRun (held_by (map opened l.fn.cursors.items)) (held_by (map opened l.cursors.items)) (states g.W.Wrapper.meaning l.fn.slots.items) (states g.W.Wrapper.meaning l.slots.items);
      own : AreOwn (map opened l.cursors.items);
      good : AreHeld (map opened l.cursors.items) (states g.W.Wrapper.meaning l.slots.items);
    }

abbrev pub decreases-loop-cursor : goal.decreases-loop-cursor
decreases-loop-cursor g l = length l.cursors.items
