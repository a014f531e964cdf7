use Rattle.std.specs.Io.KnownBytes.{Keeps}
use Rattle.fed_stream.specs.Known.{Known}
use Rattle.fed_stream.proofs.Counts.{Tries}
use Rattle.fed_stream.proofs.sink.write_once.Given as goal

abbrev pub invariant-loop-left : goal.invariant-loop-left
invariant-loop-left g l = record {
  kept : Keeps (g.S.Sink.contents l.fn.sink) (g.S.Sink.contents l.sink);
  tries : Known (g.S.Sink.outlet l.fn.sink) (g.S.Sink.outlet l.sink) (λ a b. Tries a b 4294967295 l.left);
}

abbrev pub decreases-loop-left : goal.decreases-loop-left
decreases-loop-left g l = l.left
