use Rattle.std.proofs.Common.{refl}
use Rattle.med_session.specs.Shows.{shown}
use Rattle.fed_cli.specs.ProgramExits.{has_not_begun, has_begun}
use Rattle.fed_cli.proofs.Exited.{by_script, listened_told}
use Rattle.fed_cli.proofs.asked.serve_asked.Goals as goal

-- the program did not begin
pub returns-in-Err : goal.returns-in-Err
returns-in-Err g c =
    has_not_begun c.in-Err.refused.fault
    (by_script _ c.args.asked _ _ c.in-Err.refused.fault c.not_begun.ensures.script c.in-Err.ensures.refused)
    c.not_begun.ensures.sources refl c.not_begun.ensures.status c.not_begun.ensures.told

-- connections were served
pub returns : goal.returns
returns g c =
    has_begun c.finish.result refl c.finish.ensures.at_rest c.in-Ok.ensures.read c.listen_and_serve-kept.result.came
    (record {
      engine = shown _ c.in-Ok.begun.engine;
      begins = c.in-Ok.ensures.begins;
      after = _;
      between = _;
      listened = c.listen_and_serve-kept.result.is_told;
      listens = c.listen_and_serve-kept.ensures.listens;
      told = c.is_ok-is_told.result;
      tells = listened_told c.listen_and_serve-kept.result.came _ _ _ _ c.tell_listened.result c.is_ok-is_told.result c.is_ok-is_told.ensures.value c.tell_listened.ensures;
      all = refl;
      closed = c.finish.ensures.closed.0;
      closes = c.finish.ensures.closed.1;
      boxes = c.finish.ensures.closed.2;
    }) c.listen_status.ensures
