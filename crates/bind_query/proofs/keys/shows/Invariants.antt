use Rattle.std.proofs.Common.{◌≡◌, map, drop}
use Rattle.std.specs.List.{list_any}
use Rattle.tri_expr.specs.Prelude.{tree, same_tree}
use Rattle.bind_names.specs.Meaning.{Output}
use Rattle.bind_query.specs.Shown.{output_of}
use Rattle.bind_query.proofs.keys.shows.Given as goal

abbrev pub invariant-loop-output : goal.invariant-loop-output
invariant-loop-output l =
    list_any (λ (o : Output). same_tree o.value (tree l.value)) (map output_of l.outputs) ≡ list_any (λ (o : Output). same_tree o.value (tree l.value)) (map output_of (drop l.output-index l.outputs))
