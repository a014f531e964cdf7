use denote.Text.{Utf8}
use denote.Shadow.{shadow}
use Rattle.med_session.specs.Prelude.{IsSound, shown}
use Rattle.session_tests.proofs.talks.follows_all.Given as goal

-- the engine stays sound, and the row before is text
abbrev pub invariant-loop-row : goal.invariant-loop-row
invariant-loop-row g l = record { sound : IsSound (shown g.W.Wrapper.meaning l.engine); text : shadow (Utf8 l.before) }
