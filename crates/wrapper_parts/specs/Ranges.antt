-- Ranges of keys, and the restrictions that ask for one.
use Rattle.std.specs.Prelude.{if◌then◌else◌, ℤ, Bool, true, false, not, ◌&&◌, List, [], ◌∷◌, length, replicate, ◌≡◌, nat_eq}
use Rattle.std.specs.Ordering.{is_ge, is_le, int_cmp}
use Rattle.med_value.specs.Datum.{Datum, NoValue, Whole, Chars, Logic, Tuple}
use Rattle.med_value.specs.declared.order.Comparison.{Comparison}
use Rattle.med_value.specs.declared.order.Comparison.TheVariants as comparisons
use Rattle.fdw_api.specs.Scan.{RestrictionForm, TestForm, Compares, Missing, Present, OperandForm, Given, Slot, operand_value}
use Rattle.fdw_api.specs.declared.scan.Agree.{Agree}
use Rattle.fdw_api.specs.declared.scan.Agree.TheVariants.{Ignored, Hint, Exact}
use Rattle.wrapper_parts.specs.declared.ranges.KeyRange.{KeyRange}

-- the key is in an open range, from its low to its high
abbrev pub has_key : KeyRange → ℤ → Bool
has_key r k = r.open && (is_ge (int_cmp k r.low) && is_le (int_cmp k r.high))

-- a key may be compared with it: NULL or a whole number
abbrev pub is_key_value : Datum → Bool
is_key_value NoValue = true
is_key_value (Whole n) = true
is_key_value (Chars t) = false
is_key_value (Logic b) = false

abbrev pub is_apart : Comparison → Bool
is_apart comparisons.Equal = false
is_apart comparisons.Apart = true
is_apart comparisons.Below = false
is_apart comparisons.AtMost = false
is_apart comparisons.Above = false
is_apart comparisons.AtLeast = false

-- a constant that a key may be compared with; of a parameter its type tells it
abbrev pub is_key_other : OperandForm → Bool
is_key_other (Given v) = is_key_value v
is_key_other (Slot at) = true

-- a test of a key that a range answers: = < <= > >= and the tests of NULL
abbrev pub is_range_check : TestForm → Bool
is_range_check (Compares op o) = not (is_apart op) && is_key_other o
is_range_check Missing = true
is_range_check Present = true

-- a restriction of the key, which is the first column, by such a test
abbrev pub is_key_test : RestrictionForm → Bool
is_key_test f = nat_eq f.column 0 && is_range_check f.test

-- each restriction that is answered Exact is one
abbrev pub only_key_tests : List RestrictionForm → List Agree → Bool
only_key_tests [] answers = true
only_key_tests (f ∷ fs) [] = true
only_key_tests (f ∷ fs) (Exact ∷ answers) = is_key_test f && only_key_tests fs answers
only_key_tests (f ∷ fs) (Ignored ∷ answers) = only_key_tests fs answers
only_key_tests (f ∷ fs) (Hint ∷ answers) = only_key_tests fs answers

-- what a scan is answered for a restriction: Exact for such a test of the key, else Ignored
abbrev pub answer_of : RestrictionForm → Agree
answer_of f = if is_key_test f then Exact else Ignored

-- with these parameters
abbrev pub is_typed_check : Tuple → TestForm → Bool
is_typed_check params (Compares op o) = not (is_apart op) && is_key_value (operand_value params o)
is_typed_check params Missing = true
is_typed_check params Present = true

abbrev pub asks_key : Tuple → RestrictionForm → Bool
asks_key params f = nat_eq f.column 0 && is_typed_check params f.test

abbrev pub only_keys : Tuple → List RestrictionForm → List Agree → Bool
only_keys params [] answers = true
only_keys params (f ∷ fs) [] = true
only_keys params (f ∷ fs) (Exact ∷ answers) = asks_key params f && only_keys params fs answers
only_keys params (f ∷ fs) (Ignored ∷ answers) = only_keys params fs answers
only_keys params (f ∷ fs) (Hint ∷ answers) = only_keys params fs answers

-- nothing taken over is no test of another column
pub plain_is_allowed : (offered : List RestrictionForm) → only_key_tests offered (replicate (length offered) Ignored) ≡ true
plain_is_allowed [] = mathlib.Core.Path.refl
plain_is_allowed (f ∷ fs) = plain_is_allowed fs
