use Rattle.fdw_api.specs.Calls.{IsOpen}
use Rattle.wrapper_tests.proofs.reads.take_in_turn.Given as goal

abbrev pub invariant-loop : goal.invariant-loop
invariant-loop g l = record { first : IsOpen (g.W.Wrapper.meaning l.source) l.first.number; second : IsOpen (g.W.Wrapper.meaning l.source) l.second.number }
