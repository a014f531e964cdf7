use Rattle.std.proofs.Common.{◌+◌, [], ◌∷◌, ◌++◌, refl, ap, ◌∙◌, length-append}
use Rattle.fed_cli.specs.Turns.{Turn}
use Rattle.fed_cli.proofs.MoreTurns.{taken_more, served_none, served_more, told_ended}
use Rattle.fed_cli.proofs.turns.serve_connections.Goals as goal

-- no connection is taken yet
pub loop-init : goal.loop-init
loop-init g c = (([], refl, refl, served_none _ _ _ _), c.requires)

-- one more is taken, served and given back
pub loop-preserved : goal.loop-preserved
loop-preserved g c =
    let so_far = c.loop.invariant.0 in
    let turn : Turn _ _ = record {
      reader = c.in-Ok.connection.0;
      writer = c.in-Ok.connection.1;
      reader_back = c.serve_kept-ended.new.reader;
      writer_back = c.serve_kept-ended.new.writer;
      ended = c.serve_kept-ended.result.0;
    } in (
      (
        so_far.0 ++ turn ∷ [],
        taken_more g.C.Connections.accepts g.C.Connections.closes c.args.connections.now c.loop.connections c.accept.new.self c.close.new.self so_far.0 turn so_far.1 c.in-Ok.ensures.taken c.close.ensures,
        length-append so_far.0 (turn ∷ []) ∙ ap (λ n. n + 1) so_far.2,
        served_more _ _ _ _ _ so_far.0 turn _ _ _ _ _ so_far.3 c.serve_kept-ended.ensures.worlds
            (told_ended turn.ended c.told.result (g.E.Sink.contents c.loop.errors) (g.E.Sink.contents c.tell_run.new.errors) (g.E.Sink.outlet c.loop.errors) (g.E.Sink.outlet c.tell_run.new.errors) c.tell_run.result c.is_ok-is_told.result c.told.ensures c.is_ok-is_told.ensures.value c.tell_run.ensures),
      ),
      c.serve_kept-ended.ensures.sound,
    )
