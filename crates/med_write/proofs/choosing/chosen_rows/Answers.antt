use Rattle.std.proofs.Common.{[], map}
use Rattle.med_query.specs.Query.{senses}
use Rattle.med_query.proofs.Telling.{tells_more}
use Rattle.med_query.proofs.RowByRow.{quiet_more, moved, among_seen}
use Rattle.fdw_api.specs.Calls.{row_of}
use Rattle.med_write.specs.Making.{is_chosen, chosen_faults}
use Rattle.med_write.proofs.RowSteps.{chosen_more}
use Rattle.med_write.proofs.choosing.chosen_rows.Goals as goal

pub loop-row-preserved : goal.loop-row-preserved
loop-row-preserved c =
    let fs = senses [] c.args.conditions.now in
    let at = c.loop-row in
    record {
      all = moved at.yielded _ _ _ c.in-Some.row c.in-Some.ensures.steps.0 at.invariant.all;
      chosen = chosen_more row_of (is_chosen fs) at.yielded c.in-Some.row (map row_of at.out.items) _ c.in-Ok.ensures.chosen at.invariant.chosen;
      no_fault = quiet_more row_of (chosen_faults fs) at.yielded c.in-Some.row c.in-Ok.ensures.no_fault at.invariant.no_fault;
    }

pub returns-in-Err-clause-told : goal.returns-in-Err-clause-told
returns-in-Err-clause-told c =
    let f = chosen_faults (senses [] c.args.conditions.now) in
    tells_more c.in-Err.fault _ _
    (λ k h. among_seen row_of f c.loop-row.yielded _ _ c.args.rows.items _ c.in-Some.row k c.into_iter-row-iterator.ensures.into_iter_gives.0 c.loop-row.invariant.all c.in-Some.ensures.steps.0 h) c.in-Err.ensures.told
