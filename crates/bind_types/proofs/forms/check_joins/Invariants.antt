use Rattle.std.proofs.Common.{◌≡◌, map, flat_map, drop}
use Rattle.med_query.specs.Form.{join_form}
use Rattle.bind_types.specs.Typing.{join_causes}
use Rattle.bind_types.proofs.forms.check_joins.Given as goal

abbrev pub invariant-loop-join : goal.invariant-loop-join
invariant-loop-join l = flat_map join_causes (map join_form l.joins) ≡ flat_map join_causes (map join_form (drop l.join-index l.joins))
