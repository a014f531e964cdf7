use Rattle.std.proofs.Common.{◌∙◌}
use Rattle.fed_setup.proofs.FirstEngines.{told_ok, told_err, set_up_done, set_up_refused}
use Rattle.fed_setup.proofs.program.set_up.Goals as goal

-- every line of the script is done
pub returns-clause-done : goal.returns-clause-done
returns-clause-done g c = told_ok c.in-Some.name c.replay.result c.setup_told.result _ c.setup_told.ensures (λ count is w agrees.
    let led = c.replay.ensures.worlds w agrees in
    (led.0, set_up_done c.args.asked c.in-Some.name _ _ _ _ count _ c.in-Some.is (c.as_bytes.ensures.value ∙ c.in_ok-lines.ensures) is led.1, led.2))

-- a line of it is refused
pub returns-clause-fault : goal.returns-clause-fault
returns-clause-fault g c = told_err c.in-Some.name c.replay.result c.setup_told.result _ c.setup_told.ensures (λ w agrees. tt) (λ why is other w agrees.
    let led = c.replay.ensures.worlds w agrees in
    (c.in-Some.is, set_up_refused c.in-Some.name _ _ _ _ why _ (c.as_bytes.ensures.value ∙ c.in_ok-lines.ensures) is other led.1))
