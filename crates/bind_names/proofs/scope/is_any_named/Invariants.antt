use Rattle.std.proofs.Common.{◌≡◌, Some, drop}
use Rattle.std.specs.List.{list_any}
use Rattle.bind_names.specs.Scope.{scope_of, is_meant}
use Rattle.bind_names.proofs.scope.is_any_named.Given as goal

abbrev pub invariant-loop-entry : goal.invariant-loop-entry
invariant-loop-entry l =
    list_any (is_meant (Some l.name)) (scope_of l.scope) ≡ list_any (is_meant (Some l.name)) (scope_of (drop l.entry-index l.scope))
