use Rattle.std.proofs.Common.{◌≡◌, ◌++◌, map, flat_map, drop}
use Rattle.tri_expr.specs.Prelude.{tree, arguments_in}
use Rattle.bind_query.proofs.grouping.push_arguments.Given as goal

abbrev pub invariant-loop-e : goal.invariant-loop-e
invariant-loop-e l = map tree l.out.items ++ flat_map arguments_in (map tree (drop l.e-index l.es)) ≡ map tree l.initial.out.items ++ flat_map arguments_in (map tree l.es)
