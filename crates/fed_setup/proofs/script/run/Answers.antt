use Rattle.std.proofs.lemmas.Result.{err_from_is_err_and}
use Rattle.fed_setup.specs.Scripts.{statement_lines}
use Rattle.fed_setup.specs.Engines.{EngineAnswers}
use Rattle.fed_setup.proofs.Reached.{ends_first, opened, ends_next, done_next, all_done, filled, reached_at}
use Rattle.fed_setup.proofs.script.run.Goals as goal

pub returns-in_err-request-clause-runs : goal.returns-in_err-request-clause-runs
returns-in_err-request-clause-runs g c =
    let p = err_from_is_err_and c.from_residual.result c.from_residual.ensures.1 in
    rw (p.1, p.2)
    (ends_first (EngineAnswers g.W.Wrapper.meaning) c.args.engine.now c.args.owner.now (statement_lines c.args.script.now) c.request.new.engine _ c.in_err-request.ensures.ends)

pub loop-rest-init : goal.loop-rest-init
loop-rest-init g c = record {
  sound = c.request.ensures.sound;
  reached = opened (EngineAnswers g.W.Wrapper.meaning) c.args.engine.now c.args.owner.now c.args.script c.request.new.engine c.in_ok-request.ensures.done;
}

pub returns-in_err-request-2-clause-runs : goal.returns-in_err-request-2-clause-runs
returns-in_err-request-2-clause-runs g c =
    let p = err_from_is_err_and c.from_residual-in_err-request-2.result c.from_residual-in_err-request-2.ensures.1 in
    rw (p.1, p.2)
    (ends_next (EngineAnswers g.W.Wrapper.meaning) c.args.engine.now c.args.owner.now c.args.script.now c.loop-rest.engine c.request-then-not-is_blank.new.engine c.loop-rest.number c.loop-rest.count c.in-Some.text _ _ _
    (reached_at c.loop-rest.invariant.reached c.in-Some.is) c.next_line.ensures (filled _ _ c.is_blank.ensures c.if-not-is_blank.true) c.in_err-request-2.ensures.ends)

pub loop-rest-preserved-then-not-is_blank : goal.loop-rest-preserved-then-not-is_blank
loop-rest-preserved-then-not-is_blank g c = record {
  sound = c.request-then-not-is_blank.ensures.sound;
  reached = done_next (EngineAnswers g.W.Wrapper.meaning) c.args.engine.now c.args.owner.now c.args.script.now c.loop-rest.engine c.request-then-not-is_blank.new.engine c.loop-rest.number c.loop-rest.count c.in-Some.text _ _
      (reached_at c.loop-rest.invariant.reached c.in-Some.is) c.next_line.ensures (filled _ _ c.is_blank.ensures c.if-not-is_blank.true) c.in_ok-request-2.ensures.done;
}

pub returns-clause-runs : goal.returns-clause-runs
returns-clause-runs g c =
    all_done (EngineAnswers g.W.Wrapper.meaning) c.args.engine.now c.args.owner.now c.args.script.now c.loop-rest.engine c.loop-rest.number c.loop-rest.count
    (reached_at c.loop-rest.invariant.reached c.in_default.is)
