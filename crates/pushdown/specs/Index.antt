-- A scan that is answered from an index: the rows that have a value in a column, looked up by the value of a parameter.
use Rattle.std.specs.Prelude.{◌≡◌, ℕ, List, [], map, filter, Contains, IsPermutation, IsSorted}
use Rattle.med_value.specs.Prelude.{Datum, Tuple, cell, compares_true}
use Rattle.med_value.specs.declared.order.Comparison.TheVariants as comparisons
use Rattle.fdw_api.specs.Scan.{RestrictionForm, Compares, Slot, Spec, TableRow, IsComing, given_row, meets_exact, row_cmp, first_of}

-- the rows of a table that are equal to a value in a column
abbrev pub equal_rows : ℕ → Datum → List TableRow → List TableRow
equal_rows column v rows = filter (λ r. compares_true comparisons.Equal (cell r.cells column) v) rows

-- `column = parameter k`
abbrev pub equality : ℕ → ℕ → RestrictionForm
equality column k = record { column = column; test = Compares comparisons.Equal (Slot k) }

-- those of the rows that pass what was answered Exact
abbrev pub passing : Spec → Tuple → List TableRow → List TableRow
passing spec params rows = filter (λ r. meets_exact spec.offered spec.answers params r.cells) rows

-- Where `column = parameter` was offered, a scan may give just those of the looked up rows that pass what was answered Exact: no other row
-- of the table is visited. Where an order is promised they are put into it, and where a limit is, the first so many of them come.
abbrev pub LookupsMayCome : Type 0
LookupsMayCome = (rows : List TableRow) (spec : Spec) (params : Tuple) (column k : ℕ) (found : List TableRow)
    → Contains spec.offered (equality column k) → IsPermutation (equal_rows column (cell params k) rows) found
    → IsSorted (row_cmp spec.order) (passing spec params found)
    → IsComing rows spec params (map (given_row spec) (first_of spec.limit (passing spec params found)))

-- the same where no order is promised: they may come in the order in which they were looked up
abbrev pub UnorderedLookupsMayCome : Type 0
UnorderedLookupsMayCome = (rows : List TableRow) (spec : Spec) (params : Tuple) (column k : ℕ) (found : List TableRow)
    → Contains spec.offered (equality column k) → IsPermutation (equal_rows column (cell params k) rows) found → spec.order ≡ []
    → IsComing rows spec params (map (given_row spec) (first_of spec.limit (passing spec params found)))
