use Rattle.query_answer.proofs.Evaluated.{answer_tells}
use Rattle.query_answer.proofs.values.class_value.Goals as goal

pub returns-in-Err-clause-told : goal.returns-in-Err-clause-told
returns-in-Err-clause-told c = answer_tells c.in-Err.fault _ c.in-Err.ensures
