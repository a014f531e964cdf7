use Rattle.std.proofs.Common.{◌≡◌, ◌++◌, map, flat_map, drop}
use Rattle.med_syntax.specs.ExprView.{expr_tree}
use Rattle.tri_expr.specs.Tree.{tree}
use Rattle.bind_names.specs.Prelude.{scope_of, name_causes, resolved}
use Rattle.bind_query.proofs.values.resolve_values.Given as goal

abbrev pub invariant-loop-written : goal.invariant-loop-written
invariant-loop-written l =
    let s = scope_of l.scope in
    record {
      causes : flat_map (name_causes s) (map expr_tree l.values) ≡ flat_map (name_causes s) (map expr_tree (drop l.written-index l.values));
      values : map tree l.out.items ++ map (resolved s) (map expr_tree (drop l.written-index l.values)) ≡ map (resolved s) (map expr_tree l.values);
    }
