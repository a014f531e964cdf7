-- What INSERT, UPDATE and DELETE whose names were resolved mean over the rows of their table, and what the table is after them.
use Rattle.std.specs.Prelude.{ℕ, suc, Bool, true, false, not, ◌&&◌, ◌||◌, List, [], ◌∷◌, ◌++◌, map, filter, flat_map, length, Option, Some, None, cond, slice_index_or}
use Rattle.std.specs.List.{list_any}
use Rattle.med_value.specs.Datum.{NoValue, Tuple, cell}
use Rattle.tri_expr.specs.declared.expr.Fault.{Fault}
use Rattle.tri_expr.specs.Prelude.{Outcome, Is, value_of, OnClass, tree_meaning, means, faults_told, fault_list, Tree}
use Rattle.med_query.specs.Query.{keeps, on_row}
use Rattle.fdw_api.specs.Prelude.{Held, Change, Inserts, Updates, Deletes, GivenRow}
use Rattle.med_write.specs.declared.write.WrittenColumn.{WrittenColumn}
use Rattle.med_write.specs.Form.{GivenForm, values_form, answer_form, WriteForm, insert_form, update_form, delete_form}

-- what an expression gives on one row, and what several give
abbrev pub outcome_on : Tuple → Tree → Outcome
outcome_on r t = tree_meaning [] t (r ∷ [])

abbrev pub outcomes_on : Tuple → List Tree → List Outcome
outcomes_on r ts = map (outcome_on r) ts

-- values, each as an outcome
abbrev pub outcomes_of : Tuple → List Outcome
outcomes_of r = map (λ v. Is v) r

-- ---- INSERT (SQL:2016, <insert statement>)

-- the value for a column of the table: that of its place; NULL where it is not named
abbrev pub value_for : List Outcome → Option ℕ → Outcome
value_for given None = Is NoValue
value_for given (Some place) = slice_index_or given place (Is NoValue)

-- a new row: a cell for each column
abbrev pub new_cells : List (Option ℕ) → List Outcome → List Outcome
new_cells places given = map (value_for given) places

-- the rows that are given: of VALUES by their expressions, which see no column; of a query those of its answer
abbrev pub rows_given : GivenForm → List Tuple → List (List Outcome)
rows_given (values_form tuples) answer = map (outcomes_on []) tuples
rows_given answer_form answer = map outcomes_of answer

-- ---- UPDATE (SQL:2016, <update statement: searched>)

-- a cell of a row that is kept: by SET on the old row, or the old cell
abbrev pub cell_after : Tuple → ℕ → Option Tree → Outcome
cell_after r place None = Is (cell r place)
cell_after r place (Some t) = outcome_on r t

-- the cells from this place on
abbrev pub cells_after : Tuple → ℕ → List (Option Tree) → List Outcome
cells_after r place [] = []
cells_after r place (c ∷ cs) = cell_after r place c ∷ cells_after r (suc place) cs

-- the row that an UPDATE makes of an old one
abbrev pub row_made : List (Option Tree) → Tuple → List Outcome
row_made cells r = cells_after r 0 cells

-- ---- what is written

-- the conjuncts by which rows are chosen: none of an INSERT
abbrev pub chosen_by : WriteForm → List OnClass
chosen_by (insert_form places given) = []
chosen_by (update_form conditions cells) = means [] conditions
chosen_by (delete_form conditions) = means [] conditions

-- the rows of which WHERE is true
abbrev pub rows_chosen : WriteForm → List Tuple → List Tuple
rows_chosen w rows = filter (keeps (chosen_by w)) rows

-- the rows that are written, each cell as its expression gives it: the new ones of an INSERT, the changed ones of an UPDATE, none of a
-- DELETE
abbrev pub rows_written : WriteForm → List Tuple → List Tuple → List (List Outcome)
rows_written (insert_form places given) rows answer = map (new_cells places) (rows_given given answer)
rows_written (update_form conditions cells) rows answer = map (row_made cells) (rows_chosen (update_form conditions cells) rows)
rows_written (delete_form conditions) rows answer = []

-- how many rows it is told of
abbrev pub count_of : WriteForm → List Tuple → List Tuple → ℕ
count_of (insert_form places given) rows answer = length (rows_given given answer)
count_of (update_form conditions cells) rows answer = length (rows_chosen (update_form conditions cells) rows)
count_of (delete_form conditions) rows answer = length (rows_chosen (delete_form conditions) rows)

-- the faults of WHERE on a row of the table
abbrev pub choice_faults : List OnClass → Tuple → List Fault
choice_faults conjuncts r = faults_told (on_row conjuncts r)

-- the faults of a verdict on a row of the table, and of the cells that are written
abbrev pub write_faults : WriteForm → List Tuple → List Tuple → List Fault
write_faults w rows answer = flat_map (choice_faults (chosen_by w)) rows ++ flat_map fault_list (rows_written w rows answer)

-- NULL stands in a column that is NOT NULL (23502): of the cells that have a value
abbrev pub is_null : Outcome → Bool
is_null (Is NoValue) = true
is_null other = false

abbrev pub lacks_value : List WrittenColumn → List Outcome → Bool
lacks_value [] os = false
lacks_value (c ∷ cs) [] = false
lacks_value (c ∷ cs) (o ∷ os) = (c.not_null && is_null o) || lacks_value cs os

-- some row that is written has NULL in a NOT NULL column
abbrev pub write_lacks : List WrittenColumn → WriteForm → List Tuple → List Tuple → Bool
write_lacks columns w rows answer = list_any (lacks_value columns) (rows_written w rows answer)

-- ---- after a write

-- a row that is written, with the record or line that its kind makes of it
abbrev pub made : (Tuple → List (List ℕ)) → List Outcome → Held
made line os = record { cells = map value_of os; origin = line (map value_of os) }

-- The rows of the table after a write: of an INSERT the old rows and the new ones; of an UPDATE each row that WHERE keeps made anew, and
-- the others as they are; of a DELETE the rows that WHERE does not keep.
abbrev pub rows_after : (Tuple → List (List ℕ)) → WriteForm → List Tuple → List Held → List Held
rows_after line (insert_form places given) answer rows = rows ++ map (λ g. made line (new_cells places g)) (rows_given given answer)
rows_after line (update_form conditions cells) answer rows =
    map (λ h. cond (keeps (means [] conditions) h.cells) (made line (row_made cells h.cells)) h) rows
rows_after line (delete_form conditions) answer rows = filter (λ h. not (keeps (means [] conditions) h.cells)) rows

-- the changes that the write asks of a source, by the ids under which it has the rows
abbrev pub changes_of : WriteForm → List Tuple → List GivenRow → List Change
changes_of (insert_form places given) answer rows = map (λ g. Inserts (map value_of (new_cells places g))) (rows_given given answer)
changes_of (update_form conditions cells) answer rows =
    map (λ r. Updates r.id (map value_of (row_made cells r.cells))) (filter (λ r. keeps (means [] conditions) r.cells) rows)
changes_of (delete_form conditions) answer rows = map (λ r. Deletes r.id) (filter (λ r. keeps (means [] conditions) r.cells) rows)
