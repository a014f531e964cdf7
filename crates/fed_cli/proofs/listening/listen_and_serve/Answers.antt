use Rattle.std.proofs.Common.{true, refl, sym, ◌∙◌}
use Rattle.fed_stream.specs.Streams.{stream}
use Rattle.fed_cli.proofs.Heard.{heard, no_write_fault, some_given_up, told_whole}
use Rattle.fed_cli.proofs.listening.listen_and_serve.Goals as goal

-- the line was not written
pub returns-in-Err-tell_port-clause-writes : goal.returns-in-Err-tell_port-clause-writes
returns-in-Err-tell_port-clause-writes g c = λ _. some_given_up c.in-Err-tell_port.field-0 _ _ c.in-Err-tell_port.ensures.calls

-- the connections were served
pub returns-clause-listens : goal.returns-clause-listens
returns-clause-listens g c =
    let served = c.serve_connections-kept.ensures.turns in
    heard (λ _ _. Unit {0}) (λ _ _ _ _. Unit {0}) _ _ served.0 _ served.1 c.serve_connections-kept.new.connections c.serve_connections-kept.result.came c.listened.result _ _ c.args.port c.args.count c.serve_connections-kept.result.is_told (stream (g.O.Sink.contents c.args.output.now) (g.O.Sink.contents c.tell_port.new.output)) (stream (g.E.Sink.contents c.args.errors.now) (g.E.Sink.contents c.serve_connections-kept.new.errors)) c.listened.ensures (told_whole _ true _ refl c.in-Ok-tell_port.ensures.told) served.2 served.3 served.4

pub returns-clause-writes : goal.returns-clause-writes
returns-clause-writes g c = λ write. absurd (no_write_fault c.serve_connections-kept.result.came (sym c.listened.ensures ∙ write))
