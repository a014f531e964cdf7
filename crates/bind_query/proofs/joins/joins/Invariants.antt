use Rattle.std.proofs.Common.{◌≡◌, ◌++◌, suc, [], ◌∷◌, map, drop}
use Rattle.med_syntax.specs.QueryView.{entry_tree, join_tree}
use Rattle.med_query.specs.Form.{join_form}
use Rattle.bind_names.specs.Prelude.{scope_of, table_shape, entry_shape, joins_name_causes, joins_meant}
use Rattle.bind_query.proofs.joins.joins.Given as goal

abbrev pub invariant-loop-written : goal.invariant-loop-written
invariant-loop-written l = record {
  causes : joins_name_causes (map table_shape l.tables) (entry_shape (map table_shape l.tables) (entry_tree l.first) ∷ []) (map join_tree l.joins)
      ≡ joins_name_causes (map table_shape l.tables) (scope_of l.scope.items) (map join_tree (drop l.written-index l.joins));
  joins : map join_form l.out.items ++ joins_meant (map table_shape l.tables) (scope_of l.scope.items) (suc l.last) (map join_tree (drop l.written-index l.joins))
      ≡ joins_meant (map table_shape l.tables) (entry_shape (map table_shape l.tables) (entry_tree l.first) ∷ []) (suc l.fn.number) (map join_tree l.joins);
}
