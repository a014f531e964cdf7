use Rattle.std.proofs.Common.{◌≡◌, ◌++◌, map}
use Rattle.std.specs.Vec.Iter.{into_iter_items}
use Rattle.med_write.specs.Form.{change_of}
use Rattle.med_exec.specs.Staging.{IsStaged}
use Rattle.med_exec.proofs.staging.stage_all.Given as goal

abbrev pub invariant-loop-change : goal.invariant-loop-change
invariant-loop-change g l =
    record {
      all : l.yielded ++ into_iter_items l.change-iterator ≡ into_iter_items l.initial.change-iterator;
      staged : IsStaged (g.W.Wrapper.meaning l.fn.b) l.fn.table.number (map change_of l.yielded) (g.W.Wrapper.meaning l.b);
    }
