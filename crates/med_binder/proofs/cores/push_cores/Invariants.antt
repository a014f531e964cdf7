use Rattle.std.proofs.Common.{◌≡◌, ◌++◌, map, flat_map, drop}
use Rattle.med_syntax.specs.QueryView.{core_tree}
use Rattle.med_query.specs.Form.{core_form}
use Rattle.bind_names.specs.Prelude.{table_shape, core_asked_causes, cores_meant}
use Rattle.bind_types.specs.Kinds.{types_in}
use Rattle.bind_types.specs.Typing.{core_types}
use Rattle.bind_query.specs.Resolving.{sorting_form}
use Rattle.med_binder.proofs.cores.push_cores.Given as goal

abbrev pub invariant-loop-core : goal.invariant-loop-core
invariant-loop-core l =
    let tables = map table_shape l.tables in
    let sorting = sorting_form l.sorting in
    record {
      causes : flat_map (core_asked_causes tables) (map core_tree l.cores) ≡ flat_map (core_asked_causes tables) (map core_tree (drop l.core-index l.cores));
      forms : map core_form l.out.cores.items ++ cores_meant tables sorting l.number (map core_tree (drop l.core-index l.cores))
          ≡ map core_form l.initial.out.cores.items ++ cores_meant tables sorting l.first (map core_tree l.cores);
      kinds : map types_in l.out.kinds.items ++ map (core_types tables) (map core_tree (drop l.core-index l.cores))
          ≡ map types_in l.initial.out.kinds.items ++ map (core_types tables) (map core_tree l.cores);
    }
