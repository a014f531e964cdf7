use Rattle.med_session.specs.Prelude.{IsSound, shown}
use Rattle.session_tests.proofs.live.leaves_each.Given as goal

-- the engine stays sound
abbrev pub invariant-loop-row : goal.invariant-loop-row
invariant-loop-row g l = IsSound (shown g.W.Wrapper.meaning l.engine)
