-- What the parts of a write answer: cells, rows and changes, and the faults for which there are none.
use Rattle.std.specs.Prelude.{◌≡◌, Bool, true, false, List, [], ◌∷◌, map, flat_map, length, Result, Ok, Err}
use Rattle.std.specs.List.{list_any}
use Rattle.med_value.specs.Datum.{Tuple, datum}
use Rattle.med_value.specs.declared.value.Value.{Value}
use Rattle.tri_expr.specs.declared.expr.Fault.{Fault}
use Rattle.tri_expr.specs.declared.expr.EvalFault.{EvalFault}
use Rattle.tri_expr.specs.Prelude.{Outcome, Is, value_of, OnClass, fault_list}
use Rattle.med_query.specs.Query.{IsTold, keeps}
use Rattle.fdw_api.specs.Prelude.{Change, GivenRow}
use Rattle.med_write.specs.declared.write.WrittenColumn.{WrittenColumn}
use Rattle.med_write.specs.declared.write.WriteFault.{WriteFault}
use Rattle.med_write.specs.declared.write.WriteFault.TheVariants.{Evaluation, NotNull}
use Rattle.med_write.specs.Form.{WriteForm}
use Rattle.med_write.specs.Writing.{outcomes_of, choice_faults, write_faults, lacks_value, write_lacks, changes_of, count_of}

-- a call answers an outcome: its value or its fault. Want of memory may stand in the place of anything
abbrev pub GivesOutcome : Result Value EvalFault → Outcome → Type 0
GivesOutcome (Ok v) o = o ≡ Is (datum v)
GivesOutcome (Err f) o = IsTold f (fault_list (o ∷ []))

-- a row has a value in each cell, these, and none is NULL in a NOT NULL column
pub record IsRow (columns : List WrittenColumn) (os : List Outcome) (r : Tuple) : Type 0 where
  pub values : os ≡ outcomes_of r
  pub complete : lacks_value columns os ≡ false

-- a row is not written for a fault of a cell, or for NULL in a NOT NULL column
abbrev pub IsRowFault : WriteFault → List WrittenColumn → List Outcome → Type 0
IsRowFault (Evaluation f) columns os = IsTold f (fault_list os)
IsRowFault NotNull columns os = lacks_value columns os ≡ true

-- the same of some row among these
abbrev pub IsFaultOf : WriteFault → List WrittenColumn → List (List Outcome) → Type 0
IsFaultOf (Evaluation f) columns rows = IsTold f (flat_map fault_list rows)
IsFaultOf NotNull columns rows = list_any (lacks_value columns) rows ≡ true

-- one change for each of these, by the row that is made of it; each such row has a value in each cell and in each NOT NULL column
pub record Makes {X : Type 0} (columns : List WrittenColumn) (made : X → List Outcome) (change : X → Tuple → Change) (xs : List X)
    (changes : List Change) : Type 0 where
  pub are : changes ≡ map (λ x. change x (map value_of (made x))) xs
  pub no_fault : flat_map fault_list (map made xs) ≡ []
  pub complete : list_any (lacks_value columns) (map made xs) ≡ false

-- the rows of which WHERE is true, and its faults on a row
abbrev pub is_chosen : List OnClass → GivenRow → Bool
is_chosen conjuncts r = keeps conjuncts r.cells

abbrev pub chosen_faults : List OnClass → GivenRow → List Fault
chosen_faults conjuncts r = choice_faults conjuncts r.cells

-- the cells of rows
abbrev pub cells_of : List GivenRow → List Tuple
cells_of rows = map (λ r. r.cells) rows

-- a fault for which a write is not done: one of its expressions, or NULL in a NOT NULL column of a row that it writes
abbrev pub IsWriteFault : WriteFault → List WrittenColumn → WriteForm → List Tuple → List Tuple → Type 0
IsWriteFault (Evaluation f) columns w rows answer = IsTold f (write_faults w rows answer)
IsWriteFault NotNull columns w rows answer = write_lacks columns w rows answer ≡ true

-- the changes are those of the write; no fault stands for it, and no NULL in a NOT NULL column; they are as many as the rows it is told of
pub record AreChanges (columns : List WrittenColumn) (w : WriteForm) (rows : List GivenRow) (answer : List Tuple) (changes : List Change)
    : Type 0 where
  pub are : changes ≡ changes_of w answer rows
  pub no_fault : write_faults w (cells_of rows) answer ≡ []
  pub complete : write_lacks columns w (cells_of rows) answer ≡ false
  pub many : length changes ≡ count_of w (cells_of rows) answer
