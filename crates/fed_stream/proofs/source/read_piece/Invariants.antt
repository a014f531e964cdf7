use Rattle.std.proofs.Common.{◌≤◌}
use Rattle.std.specs.Io.KnownBytes.{Keeps}
use Rattle.fed_stream.specs.Known.{Known}
use Rattle.fed_stream.proofs.Counts.{Waits}
use Rattle.fed_stream.proofs.source.read_piece.Given as goal

abbrev pub invariant-loop-granted : goal.invariant-loop-granted
invariant-loop-granted g l = record {
  kept : Keeps (g.S.Source.remaining l.fn.source) (g.S.Source.remaining l.source);
  waits : Known (g.S.Source.inlet l.fn.source) (g.S.Source.inlet l.source) (λ a b. Waits a b l.fn.granted l.granted);
  fewer : l.granted ≤ l.fn.granted;
}

abbrev pub decreases-loop-granted : goal.decreases-loop-granted
decreases-loop-granted g l = l.granted
