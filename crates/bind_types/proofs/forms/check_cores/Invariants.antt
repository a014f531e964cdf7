use Rattle.std.proofs.Common.{◌≡◌, map, flat_map, drop}
use Rattle.med_query.specs.Form.{core_form}
use Rattle.bind_types.specs.Typing.{core_causes}
use Rattle.bind_types.proofs.forms.check_cores.Given as goal

abbrev pub invariant-loop-core : goal.invariant-loop-core
invariant-loop-core l = flat_map core_causes (map core_form l.cores) ≡ flat_map core_causes (map core_form (drop l.core-index l.cores))
