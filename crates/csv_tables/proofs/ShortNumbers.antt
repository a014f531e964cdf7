-- A text of at most 18 digits writes a number in the range of the integers, and has no spaces around it.
use Rattle.std.proofs.Common.{◌≡◌, ◌≢◌, ℕ, ◌-◌, ◌^◌, ◌<◌, ◌≤◌, ◌++◌, true, false, ◌&&◌, nat_lt, nat_le, nat_eq, pos, List, [], ◌∷◌, length, reverse, Some, option_map, is_some, refl, ap, sym, ◌∙◌, arith}
use Rattle.std.proofs.lemmas.Bool.Decides.{nat_tests}
use Rattle.std.proofs.lemmas.Grind.{reverse_onto}
use Rattle.std.proofs.lemmas.List.{reverse-reverse}
use Rattle.std.proofs.lemmas.Str.Parse.{digits_value_short, numerals_by_value, tells_all_ascii_digits}
use Rattle.std.specs.Char.{is_ascii_digit}
use Rattle.std.specs.Str.{all_ascii_digits}
use Rattle.std.specs.Str.Parse.{digits_value}
use Rattle.csv_tables.specs.Cells.{skip_spaces, without_spaces, number_up_to, integer_of}
use Rattle.csv_tables.proofs.FieldSteps.{both}
use Rattle.csv_tables.proofs.Integers.{without_sign}

no_digit_below : (c d : ℕ) → d < 48 → is_ascii_digit c ≡ true → c ≢ d
no_digit_below c d lt is e = absurd (grind (arith, nat_tests))

not_space : (c : ℕ) → is_ascii_digit c ≡ true → nat_eq c 32 ≡ false
not_space c is = grind (arith, nat_tests)

-- no spaces are before digits
skipped_none : (ds : List ℕ) → all_ascii_digits ds ≡ true → skip_spaces ds ≡ ds
skipped_none [] e = refl
skipped_none (c ∷ cs) e = rw (not_space c (both (is_ascii_digit c) (all_ascii_digits cs) e).0) refl

-- digits the other way round are digits
digits_behind : (ds es : List ℕ) → all_ascii_digits ds ≡ true → all_ascii_digits es ≡ true → all_ascii_digits (ds ++ es) ≡ true
digits_behind [] es e f = f
digits_behind (c ∷ cs) es e f =
    let k = both (is_ascii_digit c) (all_ascii_digits cs) e in
    rw (k.0, digits_behind cs es k.1 f) refl

digits_back : (ds : List ℕ) → all_ascii_digits ds ≡ true → all_ascii_digits (reverse ds) ≡ true
digits_back [] e = refl
digits_back (c ∷ cs) e =
    let k = both (is_ascii_digit c) (all_ascii_digits cs) e in
    let one : all_ascii_digits (c ∷ []) ≡ true = rw k.0 refl in
    ap all_ascii_digits (reverse_onto cs c []) ∙ digits_behind (reverse cs) (c ∷ []) (digits_back cs k.1) one

no_spaces : (ds : List ℕ) → all_ascii_digits ds ≡ true → without_spaces ds ≡ ds
no_spaces ds e =
    ap (λ (t : List ℕ). reverse (skip_spaces (reverse t))) (skipped_none ds e)
    ∙ ap reverse (skipped_none (reverse ds) (digits_back ds e)) ∙ reverse-reverse ds

short_value : (ds : List ℕ) → all_ascii_digits ds ≡ true → length ds ≤ 18 → digits_value 10 ds < 10 ^ 18
short_value ds e le = digits_value_short (numerals_by_value _ tells_all_ascii_digits) ds 18 e le

fits : (v : ℕ) → v < 10 ^ 18 → nat_le v (2 ^ 63 - 1) ≡ true
fits v lt = grind (arith, nat_tests)

is_there : (k : ℕ) → 0 < k → nat_lt 0 k ≡ true
is_there k lt = grind (arith, nat_tests)

digits_fit : (c : ℕ) (cs : List ℕ) → all_ascii_digits (c ∷ cs) ≡ true → length (c ∷ cs) ≤ 18 → is_some (integer_of (c ∷ cs)) ≡ true
digits_fit c cs e le =
    let is = (both (is_ascii_digit c) (all_ascii_digits cs) e).0 in
    let n : number_up_to (2 ^ 63 - 1) (c ∷ cs) ≡ Some (digits_value 10 (c ∷ cs)) = rw (is_there (length (c ∷ cs)) (omega arith), e, fits (digits_value 10 (c ∷ cs)) (short_value (c ∷ cs) e le)) refl in
    ap is_some (sym (without_sign c cs (no_digit_below c 45 (omega arith) is) (no_digit_below c 43 (omega arith) is)) ∙ ap (option_map pos) n)

-- a text of at least one digit and at most 18, and of nothing else
pub short_integer : (text : List ℕ) → (nat_lt 0 (length text) && nat_le (length text) 18 && all_ascii_digits text) ≡ true → is_some (integer_of (without_spaces text)) ≡ true
short_integer [] e = absurd cc
short_integer (c ∷ cs) e =
    let k = both (nat_lt 0 (length (c ∷ cs)) && nat_le (length (c ∷ cs)) 18) (all_ascii_digits (c ∷ cs)) e in
    let s = (both (nat_lt 0 (length (c ∷ cs))) (nat_le (length (c ∷ cs)) 18) k.0).1 in
    let le : length (c ∷ cs) ≤ 18 = grind (arith, nat_tests) in
    ap (λ (t : List ℕ). is_some (integer_of t)) (no_spaces (c ∷ cs) k.1) ∙ digits_fit c cs k.1 le
