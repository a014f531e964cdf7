use Rattle.query_answer.proofs.Evaluated.{answer_tells}
use Rattle.query_answer.proofs.filtering.check_argument.Goals.{in-Ok, in-Err}
use Rattle.query_answer.proofs.filtering.check_argument.Goals as goal

pub returns-clause-told : goal.returns-clause-told
returns-clause-told c =
    elim c.match-eval.branch [
      | in-Ok w ↦ rw w.result-is tt
      | in-Err w ↦ rw w.result-is (answer_tells w.in-Err.fault _ w.in-Err.ensures)
    ]
