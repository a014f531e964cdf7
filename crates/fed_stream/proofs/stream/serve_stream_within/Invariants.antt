use Rattle.std.proofs.Common.{◌≡◌, false}
use Rattle.session_wire.specs.Servers.{handler_of, is_closed, held_back, unread_of}
use Rattle.fed_stream.specs.Known.{Known}
use Rattle.fed_stream.specs.Streams.{stream}
use Rattle.fed_stream.specs.Served.{Served}
use Rattle.fed_stream.specs.Prompt.{moment, seen}
use Rattle.fed_stream.proofs.Calls.{ReadSoFar, WrittenSoFar}
use Rattle.fed_stream.proofs.Prompts.{PromptSoFar}
use Rattle.fed_stream.proofs.stream.serve_stream_within.Given as goal

abbrev pub invariant-loop-granted : goal.invariant-loop-granted
invariant-loop-granted g l = record {
  served : Served g.H.Handler.step g.H.Handler.ended (handler_of l.fn.server) (held_back l.fn.server) (handler_of l.server) (unread_of l.server) (stream (g.R.Source.remaining l.fn.reader) (g.R.Source.remaining l.reader)) (stream (g.W.Sink.contents l.fn.writer) (g.W.Sink.contents l.writer));
  opened : is_closed l.server ≡ false;
  sound : g.H.Handler.sound (handler_of l.server);
  reads : Known (g.R.Source.inlet l.fn.reader) (g.R.Source.inlet l.reader) (λ a b. ReadSoFar a b l.reads l.granted);
  writes : Known (g.W.Sink.outlet l.fn.writer) (g.W.Sink.outlet l.writer) WrittenSoFar;
  prompt : PromptSoFar g.H.Handler.step g.H.Handler.ended (seen g.R.Source.remaining g.R.Source.inlet g.W.Sink.contents g.W.Sink.outlet)
      (moment (handler_of l.fn.server) (held_back l.fn.server) l.fn.reader l.fn.writer) (moment (handler_of l.server) (held_back l.server) l.reader l.writer);
}

abbrev pub decreases-loop-granted : goal.decreases-loop-granted
decreases-loop-granted g l = l.granted
