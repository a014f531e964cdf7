use Rattle.std.proofs.Common.{◌≡◌, map, filter, drop}
use Rattle.std.specs.List.{list_all}
use Rattle.tri_expr.specs.Prelude.{tree, same_tree}
use Rattle.bind_names.specs.Meaning.{Output, is_named}
use Rattle.bind_query.specs.Shown.{output_of}
use Rattle.bind_query.proofs.keys.are_same.Given as goal

abbrev pub invariant-loop-output : goal.invariant-loop-output
invariant-loop-output l =
    list_all (λ (o : Output). same_tree (tree l.value) o.value) (filter (is_named l.name) (map output_of l.outputs))
    ≡ list_all (λ (o : Output). same_tree (tree l.value) o.value) (filter (is_named l.name) (map output_of (drop l.output-index l.outputs)))
