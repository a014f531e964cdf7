use Rattle.std.proofs.Common.{◌≡◌, map, flat_map, drop}
use Rattle.med_syntax.specs.WriteView.{row_tree}
use Rattle.bind_write.specs.Typing.{row_type_causes}
use Rattle.bind_write.proofs.values.check_each_types.Given as goal

abbrev pub invariant-loop-place : goal.invariant-loop-place
invariant-loop-place l = flat_map row_type_causes (map row_tree l.rows) ≡ flat_map row_type_causes (map row_tree (drop l.place l.rows))
