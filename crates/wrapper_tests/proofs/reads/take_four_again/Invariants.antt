use Rattle.std.proofs.Common.{[]}
use Rattle.fdw_api.specs.Calls.{CanRescan}
use Rattle.wrapper_tests.proofs.reads.take_four_again.Given as goal

abbrev pub invariant-loop : goal.invariant-loop
invariant-loop g l = CanRescan (g.W.Wrapper.meaning l.source) l.ticket.number []
