-- What a scan looks for, and which rows it then gives. It may leave out each row of which an offered restriction is not true, whatever was
-- answered to it (PostgreSQL: Writing a Foreign Data Wrapper, IterateForeignScan).
use Rattle.std.specs.Prelude.{◌≡◌, ◌&&◌, ℕ, Bool, true, List, [], ◌∷◌, ◌++◌, map, filter, take, drop, Option, Some, None}
use Rattle.med_value.specs.Datum.{Datum, Tuple, cell}
use Rattle.med_value.specs.declared.order.Comparison.TheVariants as comparisons
use Rattle.fdw_api.specs.Scan.{Spec, RestrictionForm, TestForm, Compares, Missing, Present, Given, Slot, TableRow, meets_exact}
use Rattle.wrapper_parts.specs.declared.sought.Sought.{Sought}
use Rattle.wrapper_parts.specs.declared.sought.SoughtIndex.{SoughtIndex}
use Rattle.wrapper_parts.specs.Places.{equals, Follows}
use Rattle.wrapper_parts.specs.Indexes.{IsIndexFrom}

-- that the cell of a column is equal to a parameter
pub record SoughtForm : Type 0 where
  pub column : ℕ
  pub parameter : ℕ

abbrev pub form_of : Sought → SoughtForm
form_of s = record { column = s.column; parameter = s.parameter }

-- the restriction `column = parameter`
abbrev pub seeks : SoughtForm → RestrictionForm
seeks s = record { column = s.column; test = Compares comparisons.Equal (Slot s.parameter) }

-- what a test of a column looks for: a parameter, by `=` alone
abbrev pub sought_of : ℕ → TestForm → Option SoughtForm
sought_of column (Compares comparisons.Equal (Slot at)) = Some (record { column = column; parameter = at })
sought_of column (Compares comparisons.Equal (Given v)) = None
sought_of column (Compares comparisons.Apart o) = None
sought_of column (Compares comparisons.Below o) = None
sought_of column (Compares comparisons.AtMost o) = None
sought_of column (Compares comparisons.Above o) = None
sought_of column (Compares comparisons.AtLeast o) = None
sought_of column Missing = None
sought_of column Present = None

abbrev pub sought_by : RestrictionForm → Option SoughtForm
sought_by f = sought_of f.column f.test

abbrev pub or_else : Option SoughtForm → Option SoughtForm → Option SoughtForm
or_else (Some s) other = Some s
or_else None other = other

-- what the first restriction looks for that compares a column with a parameter by `=`
abbrev pub sought : List RestrictionForm → Option SoughtForm
sought [] = None
sought (f ∷ fs) = or_else (sought_by f) (sought fs)

-- a row has what is looked for; each one has, where nothing is
abbrev pub has_sought : Option SoughtForm → Tuple → Tuple → Bool
has_sought None params cells = true
has_sought (Some s) params cells = equals (cell params s.parameter) (cell cells s.column)

-- a row meets what was answered Exact
abbrev pub is_exact : Spec → Tuple → TableRow → Bool
is_exact spec params r = meets_exact spec.offered spec.answers params r.cells

-- a row has what the scan looks for, and meets what was answered Exact
abbrev pub takes : Spec → Tuple → Tuple → Bool
takes spec params cells = has_sought (sought spec.offered) params cells && meets_exact spec.offered spec.answers params cells

abbrev pub is_taken : Spec → Tuple → TableRow → Bool
is_taken spec params r = takes spec params r.cells

abbrev pub rows_taken : Spec → Tuple → List TableRow → List TableRow
rows_taken spec params rows = filter (is_taken spec params) rows

-- the cells of a column
abbrev pub column_cells : ℕ → List TableRow → List Datum
column_cells column rows = map (λ r. cell r.cells column) rows

-- the rows at places
abbrev pub rows_at_places : List ℕ → List TableRow → List TableRow
rows_at_places [] rows = []
rows_at_places (p ∷ ps) rows = take 1 (drop p rows) ++ rows_at_places ps rows

-- of the rows at places, those that meet what was answered Exact
abbrev pub taken_at : Spec → Tuple → List ℕ → List TableRow → List TableRow
taken_at spec params ps rows = filter (is_exact spec params) (rows_at_places ps rows)

-- a column and a parameter lead a scan: each row that it takes has the parameter's value in the column
abbrev pub Leads : Spec → SoughtForm → Type 0
Leads spec s = (params cells : Tuple) → takes spec params cells ≡ true → equals (cell params s.parameter) (cell cells s.column) ≡ true

-- an index serves a scan of these rows: it is that of a column that leads the scan
abbrev pub Serves : Spec → List TableRow → Option SoughtIndex → Type 0
Serves spec rows index =
    (x : SoughtIndex) → index ≡ Some x → Leads spec (form_of x.found) × IsIndexFrom 0 (column_cells x.found.column rows) x.places

-- a scan stands at a place from which its index goes on
abbrev pub Stands : Spec → Tuple → List TableRow → ℕ → Option SoughtIndex → Type 0
Stands spec params rows at index =
    (x : SoughtIndex) → index ≡ Some x → Follows (cell params x.found.parameter) (column_cells x.found.column rows) at
