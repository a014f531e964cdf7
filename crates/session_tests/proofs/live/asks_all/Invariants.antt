use Rattle.med_session.specs.Prelude.{IsSound, shown}
use Rattle.session_tests.proofs.live.asks_all.Given as goal

-- the engine stays sound
abbrev pub invariant-loop-text : goal.invariant-loop-text
invariant-loop-text g l = IsSound (shown g.W.Wrapper.meaning l.engine)
