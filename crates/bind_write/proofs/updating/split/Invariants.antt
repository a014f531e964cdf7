use Rattle.std.proofs.Common.{◌≡◌, ◌++◌, map, string_bytes}
use Rattle.std.specs.Vec.Iter.{into_iter_items}
use Rattle.med_syntax.specs.Prelude.{expr_tree, set_tree}
use Rattle.bind_write.specs.Naming.{set_names, set_values}
use Rattle.bind_write.proofs.updating.split.Given as goal

abbrev pub invariant-loop-set : goal.invariant-loop-set
invariant-loop-set l = record {
  names : map string_bytes l.names.items ++ set_names (map set_tree (into_iter_items l.set-iterator)) ≡ set_names (map set_tree l.fn.sets.items);
  values : map expr_tree l.values.items ++ set_values (map set_tree (into_iter_items l.set-iterator)) ≡ set_values (map set_tree l.fn.sets.items);
}
