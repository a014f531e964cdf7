use Rattle.std.proofs.Common.{map}
use Rattle.fdw_api.specs.Prelude.{scan_of, row_of}
use Rattle.med_exec.proofs.ScanLemmas.{left_of}
use Rattle.med_exec.proofs.RowScans.{HasRows}
use Rattle.med_exec.proofs.reading.read_rows.Given as goal

abbrev pub invariant-loop-rows : goal.invariant-loop-rows
invariant-loop-rows g l = HasRows l.ticket.number (g.W.Wrapper.meaning l.fn.b) (map row_of l.rows.items) (g.W.Wrapper.meaning l.b)

abbrev pub decreases-loop-rows : goal.decreases-loop-rows
decreases-loop-rows g l = left_of (scan_of (g.W.Wrapper.meaning l.b) l.ticket.number)
