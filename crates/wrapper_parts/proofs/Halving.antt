-- Places found by halves: the cells beside them are not in a range of keys.
use Rattle.std.proofs.Common.{◌≡◌, ◌≤ℤ◌, ℕ, ℤ, pos, ◌+ℤ◌, ◌<◌, ◌≤◌, Bool, true, false, ◌&&◌, List, length, refl, ap, sym, ◌∙◌, arith}
use Rattle.std.proofs.lemmas.Int.{ints}
use Rattle.std.specs.declared.cmp.Ordering.{Ordering}
use Rattle.std.specs.declared.cmp.Ordering.TheVariants.{Less, Equal, Greater}
use Rattle.std.specs.Ordering.{is_lt, is_ge, int_cmp}
use Rattle.med_value.specs.Datum.{Datum, NoValue, Whole, Chars, Logic, cell}
use Rattle.wrapper_parts.specs.declared.ranges.KeyRange.{KeyRange}
use Rattle.wrapper_parts.specs.Rising.{AreRising}
use Rattle.wrapper_parts.specs.Halves.{is_under, is_in, Parts, IsBeyond, IsAround}
use Rattle.wrapper_parts.proofs.RangeLemmas.{next_below}

lower : (low high key : ℤ) → low ≤ℤ high → is_lt (int_cmp high key) ≡ true → is_lt (int_cmp low key) ≡ true
lower low high key le e = grind (arith, ints)

higher : (low high key : ℤ) → low ≤ℤ high → is_lt (int_cmp low key) ≡ false → is_lt (int_cmp high key) ≡ false
higher low high key le e = grind (arith, ints)

-- cells before one that is below a key are below it too, and those behind one that is not are not
pub under_before : (cells : List Datum) (key : ℤ) (k middle : ℕ) → AreRising cells → k ≤ middle → middle < length cells
    → is_under key (cell cells middle) ≡ true → is_under key (cell cells k) ≡ true
under_before cells key k middle rising le lt e =
    let w = rising k middle le lt in
    ap (is_under key) w.first_is ∙ lower w.low w.high key w.order (sym (ap (is_under key) w.second_is) ∙ e)

pub over_behind : (cells : List Datum) (key : ℤ) (middle k : ℕ) → AreRising cells → middle ≤ k → k < length cells
    → is_under key (cell cells middle) ≡ false → is_under key (cell cells k) ≡ false
over_behind cells key middle k rising le lt e =
    let w = rising middle k le lt in
    ap (is_under key) w.second_is ∙ higher w.low w.high key w.order (sym (ap (is_under key) w.first_is) ∙ e)

first_false : (a b : Bool) → a ≡ false → (a && b) ≡ false
first_false true b e = absurd cc
first_false false b e = refl

middle_false : (a b c : Bool) → b ≡ false → (a && (b && c)) ≡ false
middle_false true b c e = first_false b c e
middle_false false b c e = refl

last_false : (a b c : Bool) → c ≡ false → (a && (b && c)) ≡ false
last_false true true c e = e
last_false true false c e = refl
last_false false b c e = refl

less_not_ge : (o : Ordering) → is_lt o ≡ true → is_ge o ≡ false
less_not_ge Less e = refl
less_not_ge Equal e = absurd cc
less_not_ge Greater e = absurd cc

-- what is below the low of a range is not in it, nor is what is not below the key after its high; and an integer is in no range that is
-- not open
pub under_out : (range : KeyRange) (d : Datum) → is_under range.low d ≡ true → is_in range d ≡ false
under_out range NoValue e = refl
under_out range (Whole n) e = middle_false range.open _ _ (less_not_ge (int_cmp n range.low) e)
under_out range (Chars t) e = refl
under_out range (Logic b) e = refl

over_out : (range : KeyRange) (next : ℤ) (d : Datum) → next ≡ range.high +ℤ pos 1 → is_under next d ≡ false → is_in range d ≡ false
over_out range next NoValue is e = refl
over_out range next (Whole n) is e = last_false range.open (is_ge (int_cmp n range.low)) _ (next_below n next range.high is ∙ e)
over_out range next (Chars t) is e = refl
over_out range next (Logic b) is e = refl

pub closed_out : (range : KeyRange) (d : Datum) → range.open ≡ false → is_in range d ≡ false
closed_out range NoValue e = refl
closed_out range (Whole n) e = first_false range.open _ e
closed_out range (Chars t) e = refl
closed_out range (Logic b) e = refl

-- the first place of a key that is at least the key after another is the first of one over that
pub beyond_by : (cells : List Datum) (high next : ℤ) (end : ℕ) → next ≡ high +ℤ pos 1 → Parts cells next end → IsBeyond cells high end
beyond_by cells high next end is p = record {
  within = p.within;
  behind = λ k range le lt same. over_out range next (cell cells k) (is ∙ ap (λ (z : ℤ). z +ℤ pos 1) (sym same)) (p.behind k le lt);
}

pub beyond_all : (cells : List Datum) (high : ℤ) (end : ℕ) → end ≡ length cells → IsBeyond cells high end
beyond_all cells high end is = record { within = omega arith; behind = λ k range le lt same. absurd (omega arith) }

pub around_by : (cells : List Datum) (range : KeyRange) (first end : ℕ) → Parts cells range.low first → IsBeyond cells range.high end → IsAround cells range first end
around_by cells range first end p b = record {
  within = b.within;
  before = λ k lt. under_out range (cell cells k) (p.before k lt);
  behind = λ k le lt. b.behind k range le lt refl;
}

pub around_none : (cells : List Datum) (range : KeyRange) → range.open ≡ false → IsAround cells range 0 0
around_none cells range e = record {
  within = omega arith;
  before = λ k lt. absurd (omega arith);
  behind = λ k le lt. closed_out range (cell cells k) e;
}
