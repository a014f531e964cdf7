use Rattle.std.proofs.Common.{length}
use Rattle.fed_stream.proofs.Counts.{Front}
use Rattle.fed_stream.proofs.sink.write_front.Given as goal

abbrev pub invariant-loop-rest : goal.invariant-loop-rest
invariant-loop-rest g l = Front (g.S.Sink.contents l.fn.sink) (g.S.Sink.contents l.sink) (g.S.Sink.outlet l.fn.sink) (g.S.Sink.outlet l.sink) l.fn.bytes l.rest

abbrev pub decreases-loop-rest : goal.decreases-loop-rest
decreases-loop-rest g l = length l.rest
