use Rattle.std.proofs.Common.{◌≡◌, ◌++◌, map, drop, flat_map}
use Rattle.med_syntax.specs.Prelude.{CoreTree, core_tree}
use Rattle.bind_names.specs.Scope.{entries_of}
use Rattle.bind_names.specs.Seen.{seen_entry}
use Rattle.bind_names.proofs.from.push_cores.Given as goal

abbrev pub invariant-loop-core : goal.invariant-loop-core
invariant-loop-core l =
    map seen_entry l.out.items ++ flat_map (λ (c : CoreTree). entries_of c.from) (map core_tree (drop l.core-index l.cores)) ≡ map seen_entry l.initial.out.items ++ flat_map (λ (c : CoreTree). entries_of c.from) (map core_tree l.cores)
