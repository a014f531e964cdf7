-- A write whose names were resolved, as it is written: its expressions by their trees. Two with one form mean the same.
use Rattle.std.specs.Prelude.{ℕ, List, map, Option, option_map, Vec}
use Rattle.med_value.specs.Datum.{tuple}
use Rattle.tri_expr.specs.declared.expr.Expr.{Expr}
use Rattle.tri_expr.specs.Tree.{Tree, tree}
use Rattle.fdw_api.specs.Kinds.{Change, Inserts, Updates, Deletes}
use Rattle.med_write.specs.declared.write.Given.{Given}
use Rattle.med_write.specs.declared.write.Given.TheVariants.{Values, Answer}
use Rattle.med_write.specs.declared.write.RowWrite.{RowWrite}
use Rattle.med_write.specs.declared.write.RowWrite.TheVariants.{Insert, Update, Delete}
use Rattle.med_write.specs.declared.write.RowChange.{RowChange}
use Rattle.med_write.specs.declared.write.RowChange.TheVariants.{Inserted, Updated, Deleted}

-- the rows that an INSERT is given: VALUES, a list of expressions for each row; or the rows of a query
pub data GivenForm : Type 0 where
  values_form : List (List Tree) → GivenForm
  answer_form : GivenForm

-- INSERT: for each column of the table its place among the values given, none where it is not named. UPDATE: the conjuncts of WHERE, and
-- for each column the expression of SET, none where the old cell stays. DELETE: the conjuncts of WHERE
pub data WriteForm : Type 0 where
  insert_form : List (Option ℕ) → GivenForm → WriteForm
  update_form : List Tree → List (Option Tree) → WriteForm
  delete_form : List Tree → WriteForm

-- ---- the form of a write

abbrev pub trees_of : {A : Type 0} → Vec Expr A → List Tree
trees_of es = map tree es.items

abbrev pub given_form : Given → GivenForm
given_form (Values tuples) = values_form (map trees_of tuples.items)
given_form Answer = answer_form

abbrev pub form_of : RowWrite → WriteForm
form_of (Insert places given) = insert_form places.items (given_form given)
form_of (Update conditions cells) = update_form (map tree conditions.items) (map (option_map tree) cells.items)
form_of (Delete conditions) = delete_form (map tree conditions.items)

-- the change that the program names
abbrev pub change_of : RowChange → Change
change_of (Inserted row) = Inserts (tuple row)
change_of (Updated id row) = Updates id.number (tuple row)
change_of (Deleted id) = Deletes id.number
