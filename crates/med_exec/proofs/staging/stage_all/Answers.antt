use Rattle.std.proofs.Common.{map}
use Rattle.med_query.proofs.RowByRow.{moved}
use Rattle.med_write.specs.Form.{change_of}
use Rattle.med_exec.proofs.StagedChanges.{split_seen, can_change_at, staged_seen, breaks_at}
use Rattle.med_exec.proofs.staging.stage_all.Goals as goal

pub stage_change-requires : goal.stage_change-requires
stage_change-requires g c =
    can_change_at (g.W.Wrapper.meaning c.args.b.now) _ c.args.table.number (map change_of c.args.changes.items) (map change_of c.loop-change.yielded) (change_of c.in-Some.change) _
    (split_seen change_of c.loop-change.yielded _ _ c.args.changes.items _ c.in-Some.change c.into_iter-change-iterator.ensures.into_iter_gives.0 c.loop-change.invariant.all c.in-Some.ensures.steps.0) c.requires.stageable c.loop-change.invariant.staged

pub loop-change-preserved : goal.loop-change-preserved
loop-change-preserved g c =
    record {
      all = moved c.loop-change.yielded _ _ _ c.in-Some.change c.in-Some.ensures.steps.0 c.loop-change.invariant.all;
      staged = staged_seen change_of (g.W.Wrapper.meaning c.args.b.now) _ _ c.args.table.number c.loop-change.yielded c.in-Some.change c.loop-change.invariant.staged c.in-Ok.ensures.ok;
    }

pub returns-in-Err-clause-err : goal.returns-in-Err-clause-err
returns-in-Err-clause-err g c =
    breaks_at c.in-Err.fault (g.W.Wrapper.meaning c.args.b.now) _ _ c.args.table.number (map change_of c.args.changes.items) (map change_of c.loop-change.yielded) (change_of c.in-Some.change) _
    (split_seen change_of c.loop-change.yielded _ _ c.args.changes.items _ c.in-Some.change c.into_iter-change-iterator.ensures.into_iter_gives.0 c.loop-change.invariant.all c.in-Some.ensures.steps.0) c.loop-change.invariant.staged c.in-Err.ensures.err
