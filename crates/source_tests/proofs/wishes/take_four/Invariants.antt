use Rattle.fdw_api.specs.Calls.{IsOpen}
use Rattle.source_tests.proofs.wishes.take_four.Given as goal

abbrev pub invariant-loop : goal.invariant-loop
invariant-loop g l = IsOpen (g.W.Wrapper.meaning l.source) l.ticket.number
