use Rattle.std.proofs.Common.{List, map, sym, ap, subst, ◌∙◌}
use Rattle.med_value.specs.Datum.{datum}
use Rattle.tri_expr.specs.declared.expr.Fault.{Fault}
use Rattle.med_query.specs.Query.{TellsFault}
use Rattle.query_answer.specs.Leaves.{AllLift}
use Rattle.query_answer.proofs.StagedGroups.{group_staged, group_told}
use Rattle.med_query.proofs.Telling.{if_ok_then}
use Rattle.query_answer.proofs.group_folds.GroupFold.staged_group.Goals as goal

pub returns-clause-outputs : goal.returns-clause-outputs
returns-clause-outputs c =
    let ls = c.args.self.now.leaves.items in
    let values = rw (c.as_slice.ensures.value, c.as_slice-2.ensures.value) at c.in-Ok.ensures in
    if_ok_then c.staged_class.result _ _ (λ s e class run having keys items lifted.
    e ∙ group_staged ls having keys items c.as_slice-3.result.now c.as_slice-4.result.now c.as_slice-5.result.now class (map datum c.as_slice-6.result.now)
    (subst (AllLift ls having) (sym c.as_slice-3.ensures.value) lifted.of_having) (subst (AllLift ls keys) (sym c.as_slice-4.ensures.value) lifted.of_keys) (subst (AllLift ls items) (sym c.as_slice-5.ensures.value) lifted.of_items)
    (ap (map datum) c.as_slice-6.ensures.value ∙ values class run)) c.staged_class.ensures.outputs

pub returns-clause-no_fault : goal.returns-clause-no_fault
returns-clause-no_fault c =
    let ls = c.args.self.now.leaves.items in
    let values = rw (c.as_slice.ensures.value, c.as_slice-2.ensures.value) at c.in-Ok.ensures in
    if_ok_then c.staged_class.result _ _ (λ s e class run having keys items lifted.
    sym (group_told ls having keys items c.as_slice-3.result.now c.as_slice-4.result.now c.as_slice-5.result.now class (map datum c.as_slice-6.result.now)
    (subst (AllLift ls having) (sym c.as_slice-3.ensures.value) lifted.of_having) (subst (AllLift ls keys) (sym c.as_slice-4.ensures.value) lifted.of_keys) (subst (AllLift ls items) (sym c.as_slice-5.ensures.value) lifted.of_items)
    (ap (map datum) c.as_slice-6.ensures.value ∙ values class run)) ∙ e) c.staged_class.ensures.no_fault

pub returns-clause-told : goal.returns-clause-told
returns-clause-told c class run having keys items lifted =
    let ls = c.args.self.now.leaves.items in
    let values = rw (c.as_slice.ensures.value, c.as_slice-2.ensures.value) at c.in-Ok.ensures in
    subst (λ (fs : List Fault). TellsFault c.staged_class.result fs) (group_told ls having keys items c.as_slice-3.result.now c.as_slice-4.result.now c.as_slice-5.result.now class (map datum c.as_slice-6.result.now)
    (subst (AllLift ls having) (sym c.as_slice-3.ensures.value) lifted.of_having) (subst (AllLift ls keys) (sym c.as_slice-4.ensures.value) lifted.of_keys) (subst (AllLift ls items) (sym c.as_slice-5.ensures.value) lifted.of_items)
    (ap (map datum) c.as_slice-6.ensures.value ∙ values class run)) c.staged_class.ensures.told
