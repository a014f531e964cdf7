use Rattle.std.proofs.Common.{◌≡◌, ◌≤◌, length, false}
use Rattle.session_wire.specs.Servers.{handler_of, is_closed, held_back}
use Rattle.fed_stream.specs.Known.{Known}
use Rattle.fed_stream.proofs.Streams.{PartsServed}
use Rattle.fed_stream.proofs.Calls.{WrittenSoFar}
use Rattle.fed_stream.proofs.stream.answer_parts.Given as goal

abbrev pub invariant-loop-rest : goal.invariant-loop-rest
invariant-loop-rest g l = record {
  parts : PartsServed g.H.Handler.step g.H.Handler.ended (handler_of l.fn.server) (held_back l.fn.server) l.fn.piece l.rest (handler_of l.server) (held_back l.server) (g.W.Sink.contents l.fn.writer) (g.W.Sink.contents l.writer);
  opened : is_closed l.server ≡ false;
  sound : g.H.Handler.sound (handler_of l.server);
  few : length l.rest ≤ 8192;
  writes : Known (g.W.Sink.outlet l.fn.writer) (g.W.Sink.outlet l.writer) WrittenSoFar;
}

abbrev pub decreases-loop-rest : goal.decreases-loop-rest
decreases-loop-rest g l = length l.rest
