use Rattle.std.proofs.Common.{◌≡◌, List, length}
use Rattle.fed_stream.specs.Streams.{stream}
use Rattle.med_session.specs.Prelude.{IsSound, shown}
use Rattle.fed_cli.specs.Turns.{Turn, AreTaken, AreServed}
use Rattle.fed_cli.proofs.turns.serve_connections.Given as goal

abbrev pub invariant-loop : goal.invariant-loop
invariant-loop g l =
    ((turns : List (Turn _ _))
    × AreTaken g.C.Connections.accepts g.C.Connections.closes l.fn.connections turns l.connections
    × (length turns ≡ l.counter)
    × AreServed g.C.Reader.Read.remaining g.C.Writer.Write.contents (shown g.B.Wrapper.meaning l.fn.engine) turns (shown g.B.Wrapper.meaning l.kept) l.is_told (stream (g.E.Sink.contents l.fn.errors) (g.E.Sink.contents l.errors)))
    × IsSound (shown g.B.Wrapper.meaning l.kept)
