use Rattle.session_wire.specs.Worlds.{SceneSteps, SceneEnds}
use Rattle.session_wire.proofs.Joined.{run_list, front_list}
use Rattle.session_wire.proofs.Opened.{keeps}
use Rattle.session_wire.proofs.law.cursors_keep_their_tables.Goals as goal

pub returns-clause-each : goal.returns-clause-each
returns-clause-each c = λ old new es x. keeps c.fetches_give_one_answer.ensures.declared c.leased_tables_stay.ensures.declared old new es x

pub returns-clause-run : goal.returns-clause-run
returns-clause-run c = λ old new lines replies h.
    let r = run_list SceneSteps SceneEnds old lines replies new h in
    (r.0, r.1, r.2, r.3, r.4, keeps c.fetches_give_one_answer.ensures.declared c.leased_tables_stay.ensures.declared old r.1 r.0 r.2)

pub returns-clause-front : goal.returns-clause-front
returns-clause-front c = λ old new lines replies h.
    let r = front_list SceneSteps old lines replies new h in
    (r.0, r.1, r.2, r.3, r.4, keeps c.fetches_give_one_answer.ensures.declared c.leased_tables_stay.ensures.declared old new r.0 r.2)
