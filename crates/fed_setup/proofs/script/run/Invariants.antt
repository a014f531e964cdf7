use Rattle.med_session.specs.Prelude.{IsSound, shown}
use Rattle.fed_setup.specs.Engines.{EngineAnswers}
use Rattle.fed_setup.proofs.Reached.{Reached, size}
use Rattle.fed_setup.proofs.script.run.Given as goal

abbrev pub invariant-loop-rest : goal.invariant-loop-rest
invariant-loop-rest g l = record {
  sound : IsSound (shown g.W.Wrapper.meaning l.engine);
  reached : Reached (EngineAnswers g.W.Wrapper.meaning) l.fn.engine l.owner l.script l.engine l.number l.count l.rest;
}

abbrev pub decreases-loop-rest : goal.decreases-loop-rest
decreases-loop-rest g l = size l.rest
