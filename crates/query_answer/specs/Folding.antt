-- The groups of a core while its kept rows come, one after another.
pub use Rattle.query_answer.specs.Classes.{classes_so_far, keys_so_far}
use Rattle.std.specs.Prelude.{◌≡◌, ◌≤◌, ◌<◌, List, map, length}
use Rattle.med_value.specs.Prelude.{Tuple, group_limit}
use Rattle.tri_expr.specs.declared.expr.Expr.{Expr}
use Rattle.query_answer.specs.Keys.{key_in}
use Rattle.query_answer.specs.Leaves.{AllLift}
use Rattle.query_answer.specs.Running.{ClassesRun, runnings_in}
use Rattle.query_answer.specs.declared.group_folds.GroupFold.{GroupFold}

-- what is kept of the groups of these rows, none of the rows itself
pub record Folds (rows : List Tuple) (f : GroupFold) : Type 0 where
  pub count : f.count ≡ length rows
  pub few : length rows ≤ group_limit
  pub seen : (0 < length f.columns.now) → map key_in f.seen.keys ≡ keys_so_far f.columns.now rows
  pub runs : ClassesRun f.leaves.items (classes_so_far f.columns.now rows) (runnings_in f.groups.items)

-- what the groups are to show, by HAVING, order keys and items over the values of the leaves
pub record IsLifted (having keys items : List Expr) (f : GroupFold) : Type 0 where
  pub of_having : AllLift f.leaves.items having f.having.items
  pub of_keys : AllLift f.leaves.items keys f.keys.items
  pub of_items : AllLift f.leaves.items items f.items.items

-- its expressions and its columns stay
pub record SameFold (old new : GroupFold) : Type 0 where
  pub columns : new.columns ≡ old.columns
  pub leaves : new.leaves ≡ old.leaves
  pub having : new.having ≡ old.having
  pub keys : new.keys ≡ old.keys
  pub items : new.items ≡ old.items
