use Rattle.std.proofs.Common.{[], map, ap, ◌∙◌, sym}
use Rattle.med_value.specs.Datum.{tuple}
use Rattle.med_query.proofs.Telling.{if_ok_then}
use Rattle.med_write.specs.Form.{given_form, change_of, trees_of}
use Rattle.med_write.specs.Writing.{outcomes_on, outcomes_of, rows_given}
use Rattle.med_write.proofs.RowSteps.{if_err_then}
use Rattle.med_write.proofs.WholeWrites.{insert_whole, insert_fails}
use Rattle.med_write.proofs.changing.insert.Goals as goal

pub returns-in-Values-clause-ok : goal.returns-in-Values-clause-ok
returns-in-Values-clause-ok c =
    let answer = map tuple c.args.answer.now in
    if_ok_then c.inserts_of_values.result _ _
    (λ v h. insert_whole c.args.columns.now c.args.places.now (given_form c.args.given.now) answer (map trees_of c.as_slice.result.now) (outcomes_on []) (map change_of v.items)
    (ap (λ z. rows_given (given_form z) answer) c.in-Values.is ∙ ap (λ z. map (outcomes_on []) (map trees_of z)) (sym c.as_slice.ensures.value)) h) c.inserts_of_values.ensures.ok

pub returns-in-Values-clause-err : goal.returns-in-Values-clause-err
returns-in-Values-clause-err c =
    let answer = map tuple c.args.answer.now in
    if_err_then c.inserts_of_values.result _ _
    (λ f h. insert_fails f c.args.columns.now c.args.places.now (given_form c.args.given.now) answer (map trees_of c.as_slice.result.now) (outcomes_on [])
    (ap (λ z. rows_given (given_form z) answer) c.in-Values.is ∙ ap (λ z. map (outcomes_on []) (map trees_of z)) (sym c.as_slice.ensures.value)) h) c.inserts_of_values.ensures.err

pub returns-in-Answer-clause-ok : goal.returns-in-Answer-clause-ok
returns-in-Answer-clause-ok c =
    let answer = map tuple c.args.answer.now in
    if_ok_then c.inserts_of_answer.result _ _
    (λ v h. insert_whole c.args.columns.now c.args.places.now (given_form c.args.given.now) answer answer outcomes_of (map change_of v.items)
    (ap (λ z. rows_given (given_form z) answer) c.in-Answer.is) h) c.inserts_of_answer.ensures.ok

pub returns-in-Answer-clause-err : goal.returns-in-Answer-clause-err
returns-in-Answer-clause-err c =
    let answer = map tuple c.args.answer.now in
    if_err_then c.inserts_of_answer.result _ _
    (λ f h. insert_fails f c.args.columns.now c.args.places.now (given_form c.args.given.now) answer answer outcomes_of
    (ap (λ z. rows_given (given_form z) answer) c.in-Answer.is) h) c.inserts_of_answer.ensures.err
