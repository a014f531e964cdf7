use Rattle.std.proofs.Common.{Err}
use Rattle.fed_cli.proofs.Called.{run_told}
use Rattle.fed_cli.proofs.asked.not_begun.Goals as goal

-- why is told
pub returns-clause-told : goal.returns-clause-told
returns-clause-told g c =
    run_told (Err c.args.refused.fault) (g.E.Sink.contents c.args.errors.now) (g.E.Sink.contents c.tell_run.new.errors) (g.E.Sink.outlet c.args.errors.now) (g.E.Sink.outlet c.tell_run.new.errors) c.tell_run.result c.is_ok-is_told.result c.is_ok-is_told.ensures.value c.tell_run.ensures
