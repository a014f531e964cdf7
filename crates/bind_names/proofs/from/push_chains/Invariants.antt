use Rattle.std.proofs.Common.{◌≡◌, ◌++◌, map, drop}
use Rattle.med_syntax.specs.QueryView.{chain_tree}
use Rattle.bind_names.specs.Scope.{entries_of}
use Rattle.bind_names.specs.Seen.{seen_entry}
use Rattle.bind_names.proofs.from.push_chains.Given as goal

abbrev pub invariant-loop-chain : goal.invariant-loop-chain
invariant-loop-chain l =
    map seen_entry l.out.items ++ entries_of (map chain_tree (drop l.chain-index l.chains)) ≡ map seen_entry l.initial.out.items ++ entries_of (map chain_tree l.chains)
