use Rattle.std.proofs.Common.{◌≡◌, map, drop, flat_map}
use Rattle.med_syntax.specs.QueryView.{core_tree}
use Rattle.bind_names.specs.Scope.{table_shape}
use Rattle.bind_types.specs.Typing.{core_written_causes}
use Rattle.bind_types.proofs.checks.check_cores.Given as goal

abbrev pub invariant-loop-core : goal.invariant-loop-core
invariant-loop-core l =
    flat_map (core_written_causes (map table_shape l.tables)) (map core_tree l.cores) ≡ flat_map (core_written_causes (map table_shape l.tables)) (map core_tree (drop l.core-index l.cores))
