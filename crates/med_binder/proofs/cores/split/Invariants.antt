use Rattle.std.proofs.Common.{◌≡◌, ◌++◌, map, string_bytes}
use Rattle.std.specs.Vec.Iter.{into_iter_items}
use Rattle.tri_expr.specs.Tree.{tree}
use Rattle.bind_names.specs.Meaning.{Output}
use Rattle.bind_query.specs.Shown.{output_of}
use Rattle.med_binder.proofs.cores.split.Given as goal

abbrev pub invariant-loop-output : goal.invariant-loop-output
invariant-loop-output l = record {
  names : map string_bytes l.names.items ++ map (λ (o : Output). o.name) (map output_of (into_iter_items l.output-iterator)) ≡ map (λ (o : Output). o.name) (map output_of l.fn.outputs.items);
  items : map tree l.items.items ++ map (λ (o : Output). o.value) (map output_of (into_iter_items l.output-iterator)) ≡ map (λ (o : Output). o.value) (map output_of l.fn.outputs.items);
}
