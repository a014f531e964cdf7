use Rattle.std.proofs.Common.{map}
use Rattle.med_query.proofs.Telling.{if_ok_then}
use Rattle.med_write.specs.Form.{change_of}
use Rattle.med_write.proofs.RowSteps.{if_err_then}
use Rattle.med_exec.proofs.MadeChanges.{just_begun, still_stageable, staged_since, broken_since, can_keep, kept, not_kept, given_up}
use Rattle.med_exec.proofs.staging.make_changes.Goals as goal

pub stage_all-requires : goal.stage_all-requires
stage_all-requires g c = record {
  begun = just_begun _ _ _ c.in_ok-begin_modify.ensures.ok;
  stageable = still_stageable _ _ _ _ c.in_ok-begin_modify.ensures.ok c.requires.stageable;
}

pub end_modify-requires : goal.end_modify-requires
end_modify-requires g c = can_keep (g.W.Wrapper.meaning c.args.b.now) _ c.args.table.number (map change_of c.args.changes.items) c.requires.can (staged_since _ _ _ _ _ c.in_ok-begin_modify.ensures.ok c.in-Ok.ensures.ok)

pub returns-in-Ok-clause-ok : goal.returns-in-Ok-clause-ok
returns-in-Ok-clause-ok g c =
    if_ok_then c.end_modify.result _ _ (λ x h. kept (g.W.Wrapper.meaning c.args.b.now) _ _ c.args.table.number (map change_of c.args.changes.items) c.requires.can (staged_since _ _ _ _ _ c.in_ok-begin_modify.ensures.ok c.in-Ok.ensures.ok) h) c.end_modify.ensures.ok

pub returns-in-Ok-clause-err : goal.returns-in-Ok-clause-err
returns-in-Ok-clause-err g c =
    if_err_then c.end_modify.result _ _ (λ f h. not_kept f (g.W.Wrapper.meaning c.args.b.now) _ _ c.args.table.number (map change_of c.args.changes.items) c.requires.can (staged_since _ _ _ _ _ c.in_ok-begin_modify.ensures.ok c.in-Ok.ensures.ok) h) c.end_modify.ensures.err

pub returns-in-Ok-end_modify-clause-err : goal.returns-in-Ok-end_modify-clause-err
returns-in-Ok-end_modify-clause-err g c = given_up c.in-Err.fault (g.W.Wrapper.meaning c.args.b.now) _ _ c.args.table.number (map change_of c.args.changes.items) c.requires.can (broken_since _ _ _ _ _ _ c.in_ok-begin_modify.ensures.ok c.in-Err.ensures.err) c.in-Ok-end_modify.ensures.ok
