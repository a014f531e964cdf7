use Rattle.std.proofs.Common.{◌≡◌, ◌++◌, map, drop}
use Rattle.med_syntax.specs.QueryView.{join_tree}
use Rattle.bind_names.specs.Scope.{joined_entry}
use Rattle.bind_names.specs.Seen.{seen_entry}
use Rattle.bind_names.proofs.from.push_joined.Given as goal

abbrev pub invariant-loop-join : goal.invariant-loop-join
invariant-loop-join l =
    map seen_entry l.out.items ++ map joined_entry (map join_tree (drop l.join-index l.joins)) ≡ map seen_entry l.initial.out.items ++ map joined_entry (map join_tree l.joins)
