use Rattle.std.proofs.Common.{map}
use Rattle.fdw_api.specs.Prelude.{scan_of, row_of}
use Rattle.probe_wrapper.proofs.ShuffledReads.{HasRead, left_in}
use Rattle.probe_wrapper.proofs.shuffled.read_out.Given as goal

abbrev pub invariant-loop-rows : goal.invariant-loop-rows
invariant-loop-rows g l = HasRead l.ticket.number (g.W.Wrapper.meaning l.fn.inner) (map row_of l.rows.items) (g.W.Wrapper.meaning l.inner)

abbrev pub decreases-loop-rows : goal.decreases-loop-rows
decreases-loop-rows g l = left_in (scan_of (g.W.Wrapper.meaning l.inner) l.ticket.number)
