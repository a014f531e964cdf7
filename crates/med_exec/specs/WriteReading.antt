-- The rows of a table with their ids, as a scan of whole rows gives them that is offered the WHERE of a write.
use Rattle.std.specs.Prelude.{◌≡◌, ℕ, Bool, true, false, List, [], Option, Some, None}
use Rattle.std.specs.List.{list_all}
use Rattle.med_value.specs.declared.value.ColType.{ColType}
use Rattle.tri_expr.specs.Tree.{Tree}
use Rattle.fdw_api.specs.Prelude.{Spec, GivenRow, IsComing, row_fits, BoxTable, Scan, BoxState, is_honest, table_of, scan_of, rows_of}
use Rattle.pushdown.specs.Offers.{tests_of, forms_from}
use Rattle.med_write.specs.Making.{cells_of}
use Rattle.med_exec.specs.Reading.{GivesAll}
use Rattle.med_exec.specs.Scanning.{RunsScan}

-- each row is of these types
abbrev pub are_typed : List ColType → List GivenRow → Bool
are_typed kinds rows = list_all (λ r. row_fits kinds r.cells) rows

-- What the scan of a table of so many columns is offered of the conjuncts of a write's WHERE: each that is a test of one column with a
-- literal, or IS [NOT] NULL. A test has no fault, so it does not matter which conjuncts stand before it. Whole rows come, all of them, in an
-- order of the box's choice.
pub record OffersWhere (width : ℕ) (conditions : List Tree) (spec : Spec) : Type 0 where
  pub offered : spec.offered ≡ forms_from 0 (tests_of 0 width conditions)
  pub whole : spec.narrow ≡ false
  pub unordered : spec.order ≡ []
  pub unlimited : spec.limit ≡ None

-- a live scan of whole rows of a table of these types
abbrev pub ReadsWhole : BoxState → ℕ → List ColType → Type 0
ReadsWhole s number kinds = (scan : Scan) → scan_of s number ≡ Some scan → (scan.kinds ≡ kinds) × (scan.spec.narrow ≡ false)

-- the scan has given all its rows, of these types, and is live still
pub record GivesRows (number : ℕ) (kinds : List ColType) (old : BoxState) (given : List GivenRow) (new : BoxState) : Type 0 where
  pub all : GivesAll number old (cells_of given) new
  pub coming : is_honest old → old.content.coming number ≡ given
  pub typed : are_typed kinds given ≡ true

-- one scan of a table was begun that was offered these conjuncts, gave these rows and was ended
pub record ReadsTable (conditions : List Tree) (old : BoxState) (t : ℕ) (given : List GivenRow) (new : BoxState) : Type 0 where
  pub width : ℕ
  pub spec : Spec
  pub offers : OffersWhere width conditions spec
  pub runs : RunsScan old t spec (cells_of given) new
  pub coming : is_honest old → IsComing (rows_of old t) spec [] given
  pub typed : (b : BoxTable) → table_of old t ≡ Some b → are_typed b.kinds given ≡ true
