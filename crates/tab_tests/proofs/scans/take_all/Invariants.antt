use Rattle.tab_tests.specs.Going.{IsGoing}
use Rattle.tab_tests.proofs.scans.take_all.Given as goal

abbrev pub invariant-loop : goal.invariant-loop
invariant-loop g l = IsGoing (g.W.Wrapper.meaning l.source) l.ticket.number
