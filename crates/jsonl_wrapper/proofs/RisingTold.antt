-- Cells that rise and the tests by which it is told are the same.
use Rattle.std.proofs.Common.{◌≡◌, ◌<◌, ◌^◌, ◌≤ℤ◌, ◌&&◌, not, ℕ, ℤ, pos, negsuc, Bool, true, false, nat_lt, List, FitsSigned, w64, refl, ap, ◌∙◌, arith}
use Rattle.std.proofs.lemmas.Int.{ints}
use Rattle.std.proofs.lemmas.Bool.Decides.{nat_tests}
use Rattle.std.specs.Ordering.{is_lt, int_cmp}
use Rattle.med_value.specs.Datum.{Datum, NoValue, Whole, Chars, Logic, cell}
use Rattle.wrapper_parts.specs.Rising.{AreInOrder, AreRising}
use Rattle.jsonl_wrapper.specs.Written.{is_i64}
use Rattle.jsonl_wrapper.specs.Rises.{are_in_order, AreTold}

below : (n m : ℕ) → n < m → nat_lt n m ≡ true
below n m lt = grind (arith, nat_tests)

is_below : (n m : ℕ) → nat_lt n m ≡ true → n < m
is_below n m e = grind (arith, nat_tests)

fits_told : (n : ℤ) → FitsSigned w64 n → is_i64 n ≡ true
fits_told (pos n) f = below n (2 ^ 63) f.sfits
fits_told (negsuc n) f = below n (2 ^ 63) f.sfits

fits_known : (n : ℤ) → is_i64 n ≡ true → FitsSigned w64 n
fits_known (pos n) e = record { sfits = is_below n (2 ^ 63) e }
fits_known (negsuc n) e = record { sfits = is_below n (2 ^ 63) e }

order_told : (low high : ℤ) → low ≤ℤ high → is_lt (int_cmp high low) ≡ false
order_told low high le = grind (arith, ints)

order_known : (low high : ℤ) → is_lt (int_cmp high low) ≡ false → low ≤ℤ high
order_known low high e = grind (arith, ints)

both : (a b : Bool) → a ≡ true → b ≡ false → (a && not b) ≡ true
both true b e f = ap not f
both false b e f = absurd cc

first_true : (a b : Bool) → (a && not b) ≡ true → a ≡ true
first_true true b e = refl
first_true false b e = absurd cc

second_false : (a b : Bool) → (a && not b) ≡ true → b ≡ false
second_false true true e = absurd cc
second_false true false e = refl
second_false false b e = absurd cc

pair_told : (first second : Datum) → AreInOrder first second → are_in_order first second ≡ true
pair_told first second w =
    ap (λ (d : Datum). are_in_order d second) w.first_is ∙ ap (λ (d : Datum). are_in_order (Whole w.low) d) w.second_is
    ∙ both (is_i64 w.low) (is_lt (int_cmp w.high w.low)) (fits_told w.low w.fits) (order_told w.low w.high w.order)

pair_known : (first second : Datum) → are_in_order first second ≡ true → AreInOrder first second
pair_known NoValue d e = absurd cc
pair_known (Chars t) d e = absurd cc
pair_known (Logic b) d e = absurd cc
pair_known (Whole low) NoValue e = absurd cc
pair_known (Whole low) (Chars t) e = absurd cc
pair_known (Whole low) (Logic b) e = absurd cc
pair_known (Whole low) (Whole high) e = record {
  low = low;
  high = high;
  first_is = refl;
  second_is = refl;
  fits = fits_known low (first_true (is_i64 low) (is_lt (int_cmp high low)) e);
  order = order_known low high (second_false (is_i64 low) (is_lt (int_cmp high low)) e);
}

-- of cells that rise it is told by the tests, and those of which it is told rise
pub rise_told : (cells : List Datum) → AreRising cells → AreTold cells
rise_told cells rising = λ at later le lt. pair_told (cell cells at) (cell cells later) (rising at later le lt)

pub rise_known : (cells : List Datum) → AreTold cells → AreRising cells
rise_known cells told = λ at later le lt. pair_known (cell cells at) (cell cells later) (told at later le lt)
