use Rattle.std.proofs.Common.{◌≡◌, ◌++◌, map, drop}
use Rattle.bind_names.specs.Scope.{columns_of, scope_of}
use Rattle.bind_types.specs.TreeTypes.{column_kinds}
use Rattle.bind_types.proofs.kinds.kinds_in_view.Given as goal

abbrev pub invariant-loop-entry : goal.invariant-loop-entry
invariant-loop-entry l = l.out.items ++ column_kinds (columns_of (scope_of (drop l.entry-index l.scope))) ≡ column_kinds (columns_of (scope_of l.scope))
