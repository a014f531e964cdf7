use Rattle.std.proofs.Common.{◌≡◌, drop}
use Rattle.bind_names.specs.Scope.{scope_of, kind_at}
use Rattle.bind_names.proofs.scope.kind_of.Given as goal

abbrev pub invariant-loop-entry : goal.invariant-loop-entry
invariant-loop-entry l = kind_at (scope_of l.scope) l.fn.place ≡ kind_at (scope_of (drop l.entry-index l.scope)) l.rest
