use Rattle.std.proofs.Common.{None, map, refl}
use Rattle.std.specs.Prelude.{string_bytes}
use Rattle.fed_cli.proofs.Called.{run_told, words_told}
use Rattle.fed_words.proofs.Services.{asked_port}
use Rattle.fed_cli.specs.ProgramExits.{has_run, has_served, has_refused}
use Rattle.fed_cli.proofs.asked.run_words.Goals as goal

-- the words ask neither for a run nor for connections
pub returns-in-Err : goal.returns-in-Err
returns-in-Err g c = has_refused c.in-Err.fault c.in-Err.ensures refl refl refl
    (words_told c.in-Err.fault _ _ _ _ _ _ _ _ c.tell_words.result c.is_ok-is_told.result c.is_ok-is_told.ensures.value c.tell_words.ensures.output c.tell_words.ensures.errors) c.told_status-refused.ensures

-- they ask for connections
pub serve_asked-requires-clause-port : goal.serve_asked-requires-clause-port
serve_asked-requires-clause-port g c = asked_port (map string_bytes c.args.words.now) c.in-Ok.asked _ c.in-Connections.count c.in-Ok.ensures.1 c.in-Connections.is

pub returns-in-Connections : goal.returns-in-Connections
returns-in-Connections g c = has_served c.in-Ok.asked c.in-Ok.ensures c.in-Connections.port c.in-Connections.count c.in-Connections.is refl c.serve_asked.ensures

-- they ask for a run
pub returns-in-StandardInput : goal.returns-in-StandardInput
returns-in-StandardInput g c = has_run c.in-Ok.asked c.in-Ok.ensures c.in-StandardInput.is c.run_asked-ran.result.came c.run_asked-ran.ensures c.status-status.ensures
    (run_told c.run_asked-ran.result.came (g.E.Write.contents c.args.errors.now) (g.E.Write.contents c.tell_run.new.errors) None None c.tell_run.result c.is_ok-is_told-in-StandardInput.result c.is_ok-is_told-in-StandardInput.ensures.value c.tell_run.ensures)
