-- What the law of rows that are out says.
use Rattle.std.specs.Prelude.{◌≡◌, Bool, true, List, ◌++◌, All}
use Rattle.std.specs.List.{list_any}
use Rattle.med_value.specs.Datum.{Tuple}
use Rattle.tri_expr.specs.Prelude.{OnClass, is_refusal}
use Rattle.med_query.specs.Query.{on_row}
use Rattle.fdw_api.specs.Scan.{GivenRow}
use Rattle.med_write.specs.declared.write.WrittenColumn.{WrittenColumn}
use Rattle.med_write.specs.Form.{WriteForm}
use Rattle.med_write.specs.Writing.{chosen_by, count_of, write_faults, write_lacks, changes_of}
use Rattle.med_write.specs.Making.{cells_of}

-- a row is out: a conjunct is false or unknown of it. Then no fault of another conjunct is told of it, whichever stands first
abbrev pub is_out : List OnClass → Tuple → Bool
is_out conjuncts r = list_any is_refusal (on_row conjuncts r)

-- a write is the same over the one rows and over the others: the changes, in their order; how many rows it is told of; and each fault that
-- may be told
pub record SameWrite (columns : List WrittenColumn) (w : WriteForm) (answer : List Tuple) (rows others : List GivenRow) : Type 0 where
  pub changes : changes_of w answer rows ≡ changes_of w answer others
  pub count : count_of w (cells_of rows) answer ≡ count_of w (cells_of others) answer
  pub faults : write_faults w (cells_of rows) answer ≡ write_faults w (cells_of others) answer
  pub lacks : write_lacks columns w (cells_of rows) answer ≡ write_lacks columns w (cells_of others) answer

-- Rows that are out change nothing of a write, whether they are read or not.
abbrev pub RowsOutChangeNothing : Type 0
RowsOutChangeNothing = (columns : List WrittenColumn) (w : WriteForm) (answer : List Tuple) (rows out : List GivenRow)
    → All (λ r. is_out (chosen_by w) r.cells ≡ true) out → SameWrite columns w answer rows (rows ++ out)
