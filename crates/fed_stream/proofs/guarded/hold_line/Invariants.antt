use Rattle.std.proofs.Common.{◌-◌}
use Rattle.std.specs.Io.KnownBytes.{Keeps, prepend_known}
use Rattle.fed_stream.proofs.guarded.hold_line.Given as goal

abbrev pub invariant-loop-piece : goal.invariant-loop-piece
invariant-loop-piece g l = Keeps (prepend_known l.fn.held.items (g.R.Read.remaining l.fn.inner)) (prepend_known l.held.items (g.R.Read.remaining l.inner))

abbrev pub decreases-loop-piece : goal.decreases-loop-piece
decreases-loop-piece g l = 1048577 - l.held.len
