use Rattle.std.proofs.Common.{◌≡◌, map, flat_map, drop}
use Rattle.med_syntax.specs.QueryView.{core_tree}
use Rattle.bind_names.specs.Naming.{core_alias_causes}
use Rattle.med_binder.proofs.look_up.check_each_names.Given as goal

abbrev pub invariant-loop-core : goal.invariant-loop-core
invariant-loop-core l = flat_map core_alias_causes (map core_tree l.cores) ≡ flat_map core_alias_causes (map core_tree (drop l.core-index l.cores))
