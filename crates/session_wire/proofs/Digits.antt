-- The decimal digits of numbers below 1,000.
use Rattle.std.proofs.Common.{◌≡◌, ℕ, ◌+◌, ◌*◌, ◌/◌, ◌%◌, ◌<◌, ◌≤◌, ◌⊎◌, inl, inr, List, [], ◌∷◌, length, get_or, refl, sym, ap, ◌∙◌, arith}
use Rattle.std.proofs.lemmas.Fmt.{decimal_digit, decimal_step}
use Rattle.std.proofs.lemmas.Bool.{cases_lt}
use Rattle.std.specs.Fmt.{decimal}

pub decimal_two : (t u : ℕ) → 1 ≤ t → t < 10 → u < 10 → decimal (10 * t + u) ≡ (48 + t) ∷ (48 + u) ∷ []
decimal_two t u lo hi small =
    let tens : (10 * t + u) / 10 ≡ t = omega arith in
    let units : (10 * t + u) % 10 ≡ u = omega arith in
    decimal_step (10 * t + u) (omega arith) (omega arith) ∙ rw (tens, units, decimal_digit t hi) refl

pub decimal_three : (h t u : ℕ) → 1 ≤ h → h < 10 → t < 10 → u < 10 → decimal (100 * h + 10 * t + u) ≡ (48 + h) ∷ (48 + t) ∷ (48 + u) ∷ []
decimal_three h t u lo hi mid small =
    let tens : (100 * h + 10 * t + u) / 10 ≡ 10 * h + t = omega arith in
    let units : (100 * h + 10 * t + u) % 10 ≡ u = omega arith in
    decimal_step (100 * h + 10 * t + u) (omega arith) (omega arith) ∙ rw (tens, units, decimal_two h t lo hi mid) refl

pub one_shape : (ds : List ℕ) (n : ℕ) → length ds ≡ 1 → n < 10 → get_or ds 0 0 ≡ 48 + n → ds ≡ decimal n
one_shape [] n h small e = absurd (omega arith)
one_shape (a ∷ []) n h small e = ap (λ c. c ∷ []) e ∙ sym (decimal_digit n small)
one_shape (a ∷ b ∷ ds) n h small e = absurd (omega arith)

pub two_shape : (ds : List ℕ) (t u : ℕ) → length ds ≡ 2 → 1 ≤ t → t < 10 → u < 10 → get_or ds 0 0 ≡ 48 + t → get_or ds 1 0 ≡ 48 + u → ds ≡ decimal (10 * t + u)
two_shape [] t u h lo hi small e f = absurd (omega arith)
two_shape (a ∷ []) t u h lo hi small e f = absurd (omega arith)
two_shape (a ∷ b ∷ []) t u h lo hi small e f = ap (λ c. c ∷ b ∷ []) e ∙ ap (λ c. (48 + t) ∷ c ∷ []) f ∙ sym (decimal_two t u lo hi small)
two_shape (a ∷ b ∷ c ∷ ds) t u h lo hi small e f = absurd (omega arith)

pub three_shape : (ds : List ℕ) (h t u : ℕ) → length ds ≡ 3 → 1 ≤ h → h < 10 → t < 10 → u < 10 → get_or ds 0 0 ≡ 48 + h → get_or ds 1 0 ≡ 48 + t → get_or ds 2 0 ≡ 48 + u → ds ≡ decimal (100 * h + 10 * t + u)
three_shape [] h t u l lo hi mid small e f g = absurd (omega arith)
three_shape (a ∷ []) h t u l lo hi mid small e f g = absurd (omega arith)
three_shape (a ∷ b ∷ []) h t u l lo hi mid small e f g = absurd (omega arith)
three_shape (a ∷ b ∷ c ∷ []) h t u l lo hi mid small e f g =
    ap (λ x. x ∷ b ∷ c ∷ []) e ∙ ap (λ x. (48 + h) ∷ x ∷ c ∷ []) f ∙ ap (λ x. (48 + h) ∷ (48 + t) ∷ x ∷ []) g ∙ sym (decimal_three h t u lo hi mid small)
three_shape (a ∷ b ∷ c ∷ d ∷ ds) h t u l lo hi mid small e f g = absurd (omega arith)

-- what the digits of a number are
pub record OneDigit (ds : List ℕ) (n : ℕ) : Type 0 where
  pub long : length ds ≡ 1
  pub small : n < 10
  pub first : get_or ds 0 0 ≡ 48 + n

pub record TwoDigits (ds : List ℕ) (n : ℕ) : Type 0 where
  pub long : length ds ≡ 2
  pub large : 10 ≤ n
  pub small : n < 100
  pub first : get_or ds 0 0 ≡ 48 + n / 10
  pub second : get_or ds 1 0 ≡ 48 + n % 10

pub record ThreeDigits (ds : List ℕ) (n : ℕ) : Type 0 where
  pub long : length ds ≡ 3
  pub large : 100 ≤ n
  pub first : get_or ds 0 0 ≡ 48 + n / 100
  pub second : get_or ds 1 0 ≡ 48 + n / 10 % 10
  pub third : get_or ds 2 0 ≡ 48 + n % 10

pub shapes : (ds : List ℕ) (n : ℕ) → n < 1000 → ds ≡ decimal n → OneDigit ds n ⊎ (TwoDigits ds n ⊎ ThreeDigits ds n)
shapes ds n small e =
    elim (cases_lt n 10) [
      | inl one ↦ let d : ds ≡ (48 + n) ∷ [] = e ∙ decimal_digit n one in inl (record { long = rw d refl; small = one; first = rw d refl })
      | inr two ↦ inr (elim (cases_lt n 100) [
        | inl less ↦
            let same : n ≡ 10 * (n / 10) + n % 10 = omega arith in
            let d : ds ≡ (48 + n / 10) ∷ (48 + n % 10) ∷ [] = e ∙ ap decimal same ∙ decimal_two (n / 10) (n % 10) (omega arith) (omega arith) (omega arith) in
            inl (record { long = rw d refl; large = two; small = less; first = rw d refl; second = rw d refl })
        | inr three ↦
            let same : n ≡ 100 * (n / 100) + 10 * (n / 10 % 10) + n % 10 = omega arith in
            let d : ds ≡ (48 + n / 100) ∷ (48 + n / 10 % 10) ∷ (48 + n % 10) ∷ [] = e ∙ ap decimal same ∙ decimal_three (n / 100) (n / 10 % 10) (n % 10) (omega arith) (omega arith) (omega arith) (omega arith) in
            inr (record { long = rw d refl; large = three; first = rw d refl; second = rw d refl; third = rw d refl })
      ])
    ]
