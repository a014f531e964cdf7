use Rattle.fed_cli.proofs.Heard.{line_given_up, port_called}
use Rattle.fed_cli.proofs.listening.tell_port.Goals as goal

pub returns-in-Err-clause-calls : goal.returns-in-Err-clause-calls
returns-in-Err-clause-calls g c = line_given_up _ c.in-Err.fault _ _ c.in-Err.ensures.done

pub returns-in-Ok-clause-calls : goal.returns-in-Ok-clause-calls
returns-in-Ok-clause-calls g c = port_called _ c.flush.result _ _ _ c.in-Ok.ensures.done c.flush.ensures.done
