-- Which rows of a CSV table a scan takes.
use Rattle.std.specs.Prelude.{◌&&◌, ℕ, Bool, true, false, List, [], ◌∷◌, length, slice_get, Option, Some, None, nat_eq}
use Rattle.med_value.specs.Datum.{Datum, NoValue, Whole, Chars, Logic, Tuple}
use Rattle.med_value.specs.declared.order.Comparison.TheVariants as comparisons
use Rattle.med_value.specs.declared.value.ColType.{ColType}
use Rattle.med_value.specs.declared.value.ColType.TheVariants as types
use Rattle.fdw_api.specs.Scan.{RestrictionForm, TestForm, Compares, Missing, Present, operand_value as operand_of, meets}
use Rattle.fdw_api.specs.declared.scan.Agree.{Agree}
use Rattle.fdw_api.specs.declared.scan.Agree.TheVariants.{Ignored, Hint, Exact}
use Rattle.csv_tables.specs.CsvRecords.{Record}
use Rattle.csv_tables.specs.Tables.{field_size}

-- a text of this many bytes may be equal to a value: not to NULL, and to no text of another length
abbrev pub may_equal : ℕ → Datum → Bool
may_equal size NoValue = false
may_equal size (Chars text) = nat_eq size (length text)
may_equal size (Whole n) = true
may_equal size (Logic b) = true

-- a field of this many bytes may meet a test, as far as its length tells
abbrev pub may_meet : Tuple → ℕ → TestForm → Bool
may_meet params size (Compares comparisons.Equal o) = may_equal size (operand_of params o)
may_meet params size (Compares comparisons.Apart o) = true
may_meet params size (Compares comparisons.Below o) = true
may_meet params size (Compares comparisons.AtMost o) = true
may_meet params size (Compares comparisons.Above o) = true
may_meet params size (Compares comparisons.AtLeast o) = true
may_meet params size Missing = true
may_meet params size Present = true

-- a record comes: each restriction answered Exact is true of it, and each answered Hint may be
abbrev pub comes : List RestrictionForm → List Agree → Tuple → Tuple → Record → Bool
comes [] answers params cells fields = true
comes (f ∷ fs) [] params cells fields = true
comes (f ∷ fs) (Exact ∷ answers) params cells fields = meets params cells f && comes fs answers params cells fields
comes (f ∷ fs) (Hint ∷ answers) params cells fields =
    may_meet params (field_size fields f.column) f.test && comes fs answers params cells fields
comes (f ∷ fs) (Ignored ∷ answers) params cells fields = comes fs answers params cells fields

-- what a table answers to a restriction: Exact to a test for NULL and to any test of an integer or a truth value, Hint to `=` of a text
abbrev pub answer_to : Option ColType → TestForm → Agree
answer_to kind Missing = Exact
answer_to kind Present = Exact
answer_to (Some types.Int) (Compares op o) = Exact
answer_to (Some types.Bool) (Compares op o) = Exact
answer_to (Some types.Text) (Compares comparisons.Equal o) = Hint
answer_to (Some types.Text) (Compares comparisons.Apart o) = Ignored
answer_to (Some types.Text) (Compares comparisons.Below o) = Ignored
answer_to (Some types.Text) (Compares comparisons.AtMost o) = Ignored
answer_to (Some types.Text) (Compares comparisons.Above o) = Ignored
answer_to (Some types.Text) (Compares comparisons.AtLeast o) = Ignored
answer_to None (Compares op o) = Ignored

-- the answer of a table of these columns to a restriction
abbrev pub answer_by : List ColType → RestrictionForm → Agree
answer_by kinds f = answer_to (slice_get kinds f.column) f.test
