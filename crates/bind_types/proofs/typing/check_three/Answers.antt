use Rattle.std.proofs.Common.{List, [], ◌∷◌, subst, sym}
use Rattle.med_value.specs.declared.cause.Cause.{Cause}
use Rattle.bind_names.specs.Telling.{Passes}
use Rattle.bind_names.proofs.Causes.{tells_one}
use Rattle.bind_types.proofs.typing.check_three.Goals as goal

pub returns-in-Ok : goal.returns-in-Ok
returns-in-Ok c = subst (λ (xs : List Cause). Passes xs c.check_two.result) (sym (c.in-Ok.ensures (c.args.c ∷ []))) c.check_two.ensures

pub returns-in-Err : goal.returns-in-Err
returns-in-Err c = tells_one _ _ (c.in-Err.ensures (c.args.c ∷ []))
