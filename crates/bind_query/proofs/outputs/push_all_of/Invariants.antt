use Rattle.std.proofs.Common.{◌≡◌, ◌++◌, Some, map, drop}
use Rattle.bind_names.specs.Prelude.{scope_of, starred}
use Rattle.bind_query.specs.Shown.{output_of}
use Rattle.bind_query.proofs.outputs.push_all_of.Given as goal

abbrev pub invariant-loop-entry : goal.invariant-loop-entry
invariant-loop-entry l =
    map output_of l.out.items ++ starred l.at (Some l.name) (scope_of (drop l.entry-index l.scope)) ≡ map output_of l.initial.out.items ++ starred 0 (Some l.name) (scope_of l.scope)
