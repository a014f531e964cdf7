use Rattle.bind_types.proofs.Safety.{safe_cores}
use Rattle.bind_types.proofs.forms.check_form.Goals as goal

pub returns-clause-safe : goal.returns-clause-safe
returns-clause-safe c =
    safe_cores c.check_cores.result c.args.select.now.cores.items (rw c.as_slice.ensures.value at c.check_cores.ensures)
