use Rattle.std.proofs.Common.{map}
use Rattle.med_value.specs.Datum.{tuple}
use Rattle.query_answer.proofs.Alone.{row_answers, row_tells}
use Rattle.query_answer.proofs.answers.answer_row.Goals as goal

pub returns-in-Err-clause-told : goal.returns-in-Err-clause-told
returns-in-Err-clause-told c = λ db joined.
    row_tells c.args.select.now c.args.core.now db (tuple c.args.row.now) c.requires.one c.requires.ungrouped joined c.in-Err.fault c.in-Err.ensures.told

pub returns-in-Ok-shown_one-clause-answer : goal.returns-in-Ok-shown_one-clause-answer
returns-in-Ok-shown_one-clause-answer c = λ db joined.
    row_answers c.args.select.now c.args.core.now db (tuple c.args.row.now) c.requires.one c.requires.ungrouped joined c.distinct_ignores_order.ensures c.in-Ok.staged
    (map tuple c.in-Ok-shown_one.out.items) c.in-Ok.ensures.no_fault c.in-Ok.ensures.outputs c.in-Ok-shown_one.ensures
