use Rattle.fdw_api.proofs.LiftLemmas.{if_err}
use Rattle.med_exec.specs.Prelude.{states}
use Rattle.med_statements.proofs.Selections.{if_ok}
use Rattle.med_statements.proofs.selecting.run_ordered.Goals as goal

pub returns-in-Ok-clause-err : goal.returns-in-Ok-clause-err
returns-in-Ok-clause-err g c =
    let old = states g.W.Wrapper.meaning c.args.slots.now.items in
    let new = states g.W.Wrapper.meaning c.run_bound.new.slots.items in
    if_err _ _ c.run_bound.result
    (λ fault s. c.ordered_queries_answer.ensures.stops old new c.args.query c.in-Ok.planned fault c.requires.ready c.in-Ok.ensures s)
    c.run_bound.ensures.err

pub returns-in-Ok-clause-begins : goal.returns-in-Ok-clause-begins
returns-in-Ok-clause-begins g c =
    let old = states g.W.Wrapper.meaning c.args.slots.now.items in
    let new = states g.W.Wrapper.meaning c.run_bound.new.slots.items in
    if_ok _ _ c.run_bound.result
    (λ rows b. c.ordered_queries_answer.ensures.begins old old new c.args.query c.in-Ok.planned c.requires.ready c.in-Ok.ensures b)
    c.run_bound.ensures.begins

pub returns-in-Ok-clause-pulls : goal.returns-in-Ok-clause-pulls
returns-in-Ok-clause-pulls g c =
    if_ok _ _ c.run_bound.result (λ rows b. (c.in-Ok.planned, c.in-Ok.ensures, c.run_bound.ensures.pulls)) c.run_bound.ensures.begins
