use Rattle.std.proofs.Common.{◌≡◌, [], List, flat_map, map, take}
use Rattle.med_value.specs.Datum.{Tuple}
use Rattle.tri_expr.specs.declared.expr.Expr.{Expr}
use Rattle.med_query.specs.Query.{senses}
use Rattle.query_answer.specs.Folding.{classes_so_far, Folds, IsLifted}
use Rattle.query_answer.specs.Staging.{class_staged, class_told, output_of}
use Rattle.query_answer.proofs.group_folds.GroupFold.staged_groups.Given as goal

abbrev pub invariant-loop-group : goal.invariant-loop-group
invariant-loop-group l =
    record {
      outputs : (rows : List Tuple) → Folds rows l.fn.self → (having keys items : List Expr) → IsLifted having keys items l.fn.self → map output_of l.out.items ≡ flat_map (class_staged (senses [] having) (senses [] keys) (senses [] items)) (take l.group-index (classes_so_far l.fn.self.columns.now rows));
      no_fault : (rows : List Tuple) → Folds rows l.fn.self → (having keys items : List Expr) → IsLifted having keys items l.fn.self → flat_map (class_told (senses [] having) (senses [] keys) (senses [] items)) (take l.group-index (classes_so_far l.fn.self.columns.now rows)) ≡ [];
    }
