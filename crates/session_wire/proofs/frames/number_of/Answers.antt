use Rattle.std.proofs.Common.{◌≡◌, ◌≢◌, ◌+◌, ◌*◌, ◌/◌, ◌%◌, ◌<◌, ◌≤◌, ℕ, List, length, get_or, Some, None, Option, IfSome, IfNone, inl, inr, sym, ap, ◌∙◌, arith}
use Rattle.std.specs.Fmt.{decimal}
use Rattle.session_wire.proofs.Digits.{one_shape, two_shape, three_shape, shapes}
use Rattle.session_wire.proofs.frames.number_of.Goals as goal

some_one : (ds : List ℕ) (r : Option ℕ) → length ds ≡ 1 → IfSome r (λ n. (n < 10) × (get_or ds 0 0 ≡ 48 + n)) → IfSome r (λ n. ds ≡ decimal n)
some_one ds None h e = tt
some_one ds (Some n) h e = one_shape ds n h e.0 e.1

none_one : (ds : List ℕ) (r : Option ℕ) → length ds ≡ 1 → IfNone r ((n : ℕ) → n < 10 → get_or ds 0 0 ≢ 48 + n) → IfNone r ((n : ℕ) → n < 1000 → ds ≢ decimal n)
none_one ds (Some n) h e = tt
none_one ds None h e = λ n small same. elim (shapes ds n small same) [
  | inl one ↦ e n one.small one.first
  | inr (inl two) ↦ omega (arith, h, two.long)
  | inr (inr three) ↦ omega (arith, h, three.long)
]

some_two : (ds : List ℕ) (r : Option ℕ) → length ds ≡ 2 → IfSome r (λ n. (t : ℕ) × (u : ℕ) × (1 ≤ t) × (t < 10) × (u < 10) × (n ≡ 10 * t + u) × (get_or ds 0 0 ≡ 48 + t) × (get_or ds 1 0 ≡ 48 + u)) → IfSome r (λ n. ds ≡ decimal n)
some_two ds None h e = tt
some_two ds (Some n) h e = two_shape ds e.0 e.1 h e.2 e.3 e.4 e.6 e.7 ∙ ap decimal (sym e.5)

none_two : (ds : List ℕ) (r : Option ℕ) → length ds ≡ 2 → IfNone r ((t u : ℕ) → 1 ≤ t → t < 10 → u < 10 → get_or ds 0 0 ≡ 48 + t → get_or ds 1 0 ≡ 48 + u → ⊥) → IfNone r ((n : ℕ) → n < 1000 → ds ≢ decimal n)
none_two ds (Some n) h e = tt
none_two ds None h e = λ n small same. elim (shapes ds n small same) [
  | inl one ↦ omega (arith, h, one.long)
  | inr (inl two) ↦
      let large = two.large in
      let less = two.small in
      e (n / 10) (n % 10) (omega arith) (omega arith) (omega arith) two.first two.second
  | inr (inr three) ↦ omega (arith, h, three.long)
]

some_three : (ds : List ℕ) (r : Option ℕ) → length ds ≡ 3 → IfSome r (λ n. (h : ℕ) × (t : ℕ) × (u : ℕ) × (1 ≤ h) × (h < 10) × (t < 10) × (u < 10) × (n ≡ 100 * h + 10 * t + u) × (get_or ds 0 0 ≡ 48 + h) × (get_or ds 1 0 ≡ 48 + t) × (get_or ds 2 0 ≡ 48 + u)) → IfSome r (λ n. ds ≡ decimal n)
some_three ds None l e = tt
some_three ds (Some n) l e = three_shape ds e.0 e.1 e.2 l e.3 e.4 e.5 e.6 e.8 e.9 e.10 ∙ ap decimal (sym e.7)

none_three : (ds : List ℕ) (r : Option ℕ) → length ds ≡ 3 → IfNone r ((h t u : ℕ) → 1 ≤ h → h < 10 → t < 10 → u < 10 → get_or ds 0 0 ≡ 48 + h → get_or ds 1 0 ≡ 48 + t → get_or ds 2 0 ≡ 48 + u → ⊥) → IfNone r ((n : ℕ) → n < 1000 → ds ≢ decimal n)
none_three ds (Some n) l e = tt
none_three ds None l e = λ n small same. elim (shapes ds n small same) [
  | inl one ↦ omega (arith, l, one.long)
  | inr (inl two) ↦ omega (arith, l, two.long)
  | inr (inr three) ↦
      let large = three.large in
      e (n / 100) (n / 10 % 10) (n % 10) (omega arith) (omega arith) (omega arith) (omega arith) three.first three.second three.third
]

pub returns-then-digits-eq1-clause-some : goal.returns-then-digits-eq1-clause-some
returns-then-digits-eq1-clause-some c = some_one c.args.digits.now c.one_digit.result (omega arith) c.one_digit.ensures.some

pub returns-then-digits-eq1-clause-none : goal.returns-then-digits-eq1-clause-none
returns-then-digits-eq1-clause-none c = none_one c.args.digits.now c.one_digit.result (omega arith) c.one_digit.ensures.none

pub returns-then-digits-eq2-clause-some : goal.returns-then-digits-eq2-clause-some
returns-then-digits-eq2-clause-some c = some_two c.args.digits.now c.two_digits.result (omega arith) c.two_digits.ensures.some

pub returns-then-digits-eq2-clause-none : goal.returns-then-digits-eq2-clause-none
returns-then-digits-eq2-clause-none c = none_two c.args.digits.now c.two_digits.result (omega arith) c.two_digits.ensures.none

pub returns-then-digits-eq3-clause-some : goal.returns-then-digits-eq3-clause-some
returns-then-digits-eq3-clause-some c = some_three c.args.digits.now c.three_digits.result (omega arith) c.three_digits.ensures.some

pub returns-then-digits-eq3-clause-none : goal.returns-then-digits-eq3-clause-none
returns-then-digits-eq3-clause-none c = none_three c.args.digits.now c.three_digits.result (omega arith) c.three_digits.ensures.none

pub returns-else-digits-eq3-clause-none : goal.returns-else-digits-eq3-clause-none
returns-else-digits-eq3-clause-none c = λ n small same. elim (shapes c.args.digits.now n small same) [
  | inl one ↦ let l = one.long in omega arith
  | inr (inl two) ↦ let l = two.long in omega arith
  | inr (inr three) ↦ let l = three.long in omega arith
]
