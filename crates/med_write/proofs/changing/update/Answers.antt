use Rattle.std.proofs.Common.{[], map, option_map, ap, ◌∙◌}
use Rattle.tri_expr.specs.Prelude.{tree, means}
use Rattle.med_query.proofs.Telling.{if_ok_then}
use Rattle.fdw_api.specs.Calls.{row_of}
use Rattle.med_write.specs.Form.{change_of, update_form}
use Rattle.med_write.specs.Writing.{rows_written}
use Rattle.med_write.specs.Making.{cells_of}
use Rattle.med_write.proofs.RowSteps.{if_err_then}
use Rattle.med_write.proofs.WholeWrites.{update_whole, update_fails, choice_fails}
use Rattle.med_write.proofs.changing.update.Goals as goal

pub returns-in-Ok-clause-ok : goal.returns-in-Ok-clause-ok
returns-in-Ok-clause-ok c =
    if_ok_then c.updates.result _ _
    (λ v h. update_whole c.args.columns.now (map tree c.args.conditions.now) (map (option_map tree) c.args.sets.now) (map row_of c.args.rows.items) (map row_of c.as_slice.result.now) (map change_of v.items)
    (ap (map row_of) c.as_slice.ensures.value ∙ c.in-Ok.ensures.chosen) c.in-Ok.ensures.no_fault h) c.updates.ensures.ok

pub returns-in-Ok-clause-err : goal.returns-in-Ok-clause-err
returns-in-Ok-clause-err c =
    if_err_then c.updates.result _ _
    (λ f h. update_fails f c.args.columns.now (map tree c.args.conditions.now) (map (option_map tree) c.args.sets.now) (map row_of c.args.rows.items) (map row_of c.as_slice.result.now)
    (ap (map row_of) c.as_slice.ensures.value ∙ c.in-Ok.ensures.chosen) h) c.updates.ensures.err

pub returns-in-Err-clause-err : goal.returns-in-Err-clause-err
returns-in-Err-clause-err c = λ answer.
    let w = update_form (map tree c.args.conditions.now) (map (option_map tree) c.args.sets.now) in
    choice_fails c.in-Err.fault c.args.columns.now (means [] (map tree c.args.conditions.now)) (rows_written w (cells_of (map row_of c.args.rows.items)) answer) (map row_of c.args.rows.items) c.in-Err.ensures.told
