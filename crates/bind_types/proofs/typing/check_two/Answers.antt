use Rattle.std.proofs.Common.{[], ◌∙◌}
use Rattle.bind_names.proofs.Causes.{tells_one}
use Rattle.bind_types.proofs.Types.{comparing_one}
use Rattle.bind_types.proofs.typing.check_two.Goals as goal

pub returns-in-Ok : goal.returns-in-Ok
returns-in-Ok c = c.in-Ok.ensures [] ∙ comparing_one c.in-Ok.field-0

pub returns-in-Err : goal.returns-in-Err
returns-in-Err c = tells_one _ _ (c.in-Err.ensures [])
