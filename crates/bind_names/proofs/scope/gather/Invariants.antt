use Rattle.std.proofs.Common.{◌≡◌, ◌+◌, length, drop, option_map, string_bytes}
use Rattle.bind_names.specs.Scope.{scope_of, columns_of, candidates_from}
use Rattle.bind_names.specs.declared.scope.FoundPlaces.TheVariants.{Nothing}
use Rattle.bind_names.specs.Telling.{with_places}
use Rattle.bind_names.proofs.scope.gather.Given as goal

abbrev pub invariant-loop-entry : goal.invariant-loop-entry
invariant-loop-entry l = record {
  found : with_places Nothing (candidates_from 0 (scope_of l.scope) (option_map string_bytes l.qualifier) l.name)
      ≡ with_places l.found (candidates_from l.at (scope_of (drop l.entry-index l.scope)) (option_map string_bytes l.qualifier) l.name);
  counted : length (columns_of (scope_of l.scope)) ≡ l.at + length (columns_of (scope_of (drop l.entry-index l.scope)));
}
