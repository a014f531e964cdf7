use Rattle.std.proofs.Common.{map}
use Rattle.med_value.specs.Datum.{datum}
use Rattle.fdw_api.specs.Calls.{CanRescan}
use Rattle.source_tests.proofs.scans.take_all.Given as goal

abbrev pub invariant-loop : goal.invariant-loop
invariant-loop g l = CanRescan (g.W.Wrapper.meaning l.source) l.ticket.number (map datum l.again)
