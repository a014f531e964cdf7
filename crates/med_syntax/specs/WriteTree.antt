-- Statements that write rows as trees, without where they lie in memory (SQL:2016, part 2, 14 "Data manipulation").
use Rattle.std.specs.Prelude.{ℕ, List, max, Option}
use Rattle.med_syntax.specs.Tree.{Name}
use Rattle.med_syntax.specs.ExprTree.{ExprTree, height}
use Rattle.med_syntax.specs.QueryTree.{EntryTree, SelectTree, highest_of, condition_height, select_height}

-- VALUES (..), .. or a query (SQL:2016, <insert columns and source>)
pub data GivenTree : Type 0 where
  values : List (List ExprTree) → GivenTree
  rows_of : SelectTree → GivenTree

-- INSERT INTO table [(columns)] given (SQL:2016, <insert statement>)
pub record InsertTree : Type 0 where
  pub table : Name
  pub columns : Option (List Name)
  pub given : GivenTree

-- column = value (SQL:2016, <set clause>)
pub record SetTree : Type 0 where
  pub column : Name
  pub value : ExprTree

-- UPDATE entry SET sets [WHERE condition] (SQL:2016, <update statement: searched>)
pub record UpdateTree : Type 0 where
  pub entry : EntryTree
  pub sets : List SetTree
  pub condition : Option ExprTree

-- DELETE FROM entry [WHERE condition] (SQL:2016, <delete statement: searched>)
pub record DeleteTree : Type 0 where
  pub entry : EntryTree
  pub condition : Option ExprTree

pub data WriteTree : Type 0 where
  insert : InsertTree → WriteTree
  update : UpdateTree → WriteTree
  delete : DeleteTree → WriteTree

-- ---- how high the highest expression is; 0 where there is none

abbrev pub row_height : List ExprTree → ℕ
row_height = highest_of height

abbrev pub given_height : GivenTree → ℕ
given_height (values rows) = highest_of row_height rows
given_height (rows_of q) = select_height q

abbrev pub set_height : SetTree → ℕ
set_height s = height s.value

abbrev pub update_height : UpdateTree → ℕ
update_height u = max (highest_of set_height u.sets) (condition_height u.condition)

abbrev pub write_height : WriteTree → ℕ
write_height (insert i) = given_height i.given
write_height (update u) = update_height u
write_height (delete d) = condition_height d.condition
