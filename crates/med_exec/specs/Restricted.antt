-- Checking again what a wrapper did not take over: the rows of a scan that pass are those of which all restrictions are true.
use Rattle.std.specs.Prelude.{◌≡◌, ℕ, zero, suc, Bool, true, false, ◌&&◌, if◌then◌else◌, nat_eq, List, [], ◌∷◌, ◌++◌, map, filter, All, IsPermutation}
use Rattle.std.specs.List.{list_all, list_any}
use Rattle.med_value.specs.Datum.{Tuple, cell}
use Rattle.fdw_api.specs.Scan.{Spec, RestrictionForm, GivenRow, TableRow, checks, meets_all, shown_cells}
use Rattle.fdw_api.specs.declared.scan.Agree.{Agree}
use Rattle.fdw_api.specs.declared.scan.Agree.TheVariants.{Ignored, Hint, Exact}
use Rattle.med_write.specs.Making.{cells_of}

-- the list parts into these, which pass, and others, which do not
pub record Selects {X : Type 0} (p : X → Bool) (rows selected : List X) : Type 0 where
  pub others : List X
  pub parts : IsPermutation rows (selected ++ others)
  pub passing : All (λ r. p r ≡ true) selected
  pub failing : All (λ r. p r ≡ false) others

-- the first place of a column among the wanted ones, their number where it is not wanted
abbrev pub place_in : List ℕ → ℕ → ℕ
place_in [] column = zero
place_in (w ∷ ws) column = if nat_eq w column then zero else suc (place_in ws column)

-- where a scan shows a column
abbrev pub place_shown : Spec → ℕ → ℕ
place_shown spec column = if spec.narrow then place_in spec.wanted column else column

-- each restriction is on a wanted column
abbrev pub all_wanted : List ℕ → List RestrictionForm → Bool
all_wanted wanted offered = list_all (λ f. list_any (λ w. nat_eq w f.column) wanted) offered

-- the scan shows the column of each of these restrictions
abbrev pub ShowsAll : Spec → List RestrictionForm → Type 0
ShowsAll spec offered = spec.narrow ≡ true → all_wanted spec.wanted offered ≡ true

-- a restriction is true of a row as the scan shows it
abbrev pub meets_shown : Spec → Tuple → Tuple → RestrictionForm → Bool
meets_shown spec params cells f = checks params f.test (cell cells (place_shown spec f.column))

-- each restriction that is not answered Exact is true of a row as the scan shows it
abbrev pub meets_rest : Spec → Tuple → Tuple → List RestrictionForm → List Agree → Bool
meets_rest spec params cells [] answers = true
meets_rest spec params cells (f ∷ fs) [] = meets_shown spec params cells f && meets_rest spec params cells fs []
meets_rest spec params cells (f ∷ fs) (Exact ∷ answers) = meets_rest spec params cells fs answers
meets_rest spec params cells (f ∷ fs) (Ignored ∷ answers) = meets_shown spec params cells f && meets_rest spec params cells fs answers
meets_rest spec params cells (f ∷ fs) (Hint ∷ answers) = meets_shown spec params cells f && meets_rest spec params cells fs answers

abbrev pub checked : Spec → Tuple → Tuple → Bool
checked spec params cells = meets_rest spec params cells spec.offered spec.answers

-- Of the rows that a scan gives, those that pass are exactly the rows of the table of which all restrictions are true, each once,
-- as the scan shows them, in the order in which they came.
pub record AreRestricted (rows : List TableRow) (spec : Spec) (params : Tuple) (coming : List GivenRow) : Type 0 where
  pub selected : List TableRow
  pub selects : Selects (λ r. meets_all spec.offered params r.cells) rows selected
  pub passed : filter (checked spec params) (cells_of coming) ≡ map (λ r. shown_cells spec r.cells) selected
