use Rattle.std.proofs.Common.{◌≡◌, length}
use Rattle.med_syntax.specs.CursorView.{count_tree}
use Rattle.med_exec.specs.Prelude.{states, BeginsScans, ServesRun, levels_in, KeepTables}
use Rattle.med_exec.specs.Rests.{rows_to_come, held, IsRunning}
use Rattle.scan_loops.specs.Prelude.{HonestFor, none_in}
use Rattle.med_world.specs.Fetching.{IsWithin, PullsFor, counted}
use Rattle.med_world.proofs.Rows.{HasGiven}
use Rattle.med_world.proofs.fetching.fetch.Given as goal

abbrev pub invariant-loop-alloc : goal.invariant-loop-alloc
invariant-loop-alloc g l =
    record {
      boxes : ServesRun (held l.fn.run) (held l.run) (states g.W.Wrapper.meaning l.fn.slots.items) (states g.W.Wrapper.meaning l.slots.items);
      begins : BeginsScans none_in (states g.W.Wrapper.meaning l.fn.slots.items) (states g.W.Wrapper.meaning l.slots.items);
      pulls : PullsFor (length l.rows.items) l.fn.run (states g.W.Wrapper.meaning l.fn.slots.items) l.run (states g.W.Wrapper.meaning l.slots.items);
      same : held l.run ≡ held l.fn.run;
      tables : KeepTables (held l.fn.run) (states g.W.Wrapper.meaning l.fn.slots.items) (states g.W.Wrapper.meaning l.slots.items);
      running : IsRunning l.run (states g.W.Wrapper.meaning l.slots.items);
      given : HonestFor (levels_in l.fn.run) (states g.W.Wrapper.meaning l.fn.slots.items) → HasGiven l.fn.run (states g.W.Wrapper.meaning l.fn.slots.items) l.rows.items l.run (states g.W.Wrapper.meaning l.slots.items);
      most : IsWithin (count_tree l.asked) (length l.rows.items);
      counts : l.count.times ≡ counted l.fn.count.times (length l.rows.items);
    }

abbrev pub decreases-loop-alloc : goal.decreases-loop-alloc
decreases-loop-alloc g l = rows_to_come l.run (states g.W.Wrapper.meaning l.slots.items)
