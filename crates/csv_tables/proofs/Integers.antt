-- The number that digits write, read byte by byte.
use Rattle.std.proofs.Common.{◌≡◌, ◌≢◌, ℕ, pos, ◌+◌, ◌-◌, ◌*◌, ◌^◌, ◌<◌, ◌≤◌, ◌⊎◌, inl, inr, Bool, true, false, ◌&&◌, if◌then◌else◌, nat_lt, nat_le, List, [], ◌∷◌, length, Some, None, option_map, refl, ap, sym, subst, ◌∙◌, arith, eqb}
use Rattle.std.proofs.Math.Nat.{one-le-pow, pow-le-pow_right, mul-le-mul_left, mul-le-mul_right}
use Rattle.std.proofs.lemmas.Grind.{pow_more}
use Rattle.std.specs.Char.{is_ascii_digit, digit_value}
use Rattle.std.specs.Str.{all_ascii_digits}
use Rattle.std.specs.Str.Parse.{digits_value, digits_value_after}
use Rattle.std.proofs.lemmas.Bool.Decides.{eqb_tells, nat_tests}
use Rattle.csv_tables.specs.Cells.{number_up_to, integer_of}

-- digits were read so far as this number, and the others go on behind them
pub record GoesOn (n : ℕ) (others text : List ℕ) : Type 0 where
  pub digits : all_ascii_digits others ≡ all_ascii_digits text
  pub value : digits_value_after 10 n others ≡ digits_value 10 text

le_after : (n : ℕ) (ds : List ℕ) → n ≤ digits_value_after 10 n ds
le_after n [] = omega arith
le_after n (c ∷ cs) = let l = le_after (n * 10 + digit_value c) cs in omega arith

over : (most v : ℕ) → most < v → nat_le v most ≡ false
over most v lt = grind (arith, nat_tests)

too_much : (most : ℕ) (text : List ℕ) → most < digits_value 10 text → number_up_to most text ≡ None
too_much most text lt = by (nat_lt 0 (length text) && all_ascii_digits text)
  where
    by : (b : Bool) → (if b && nat_le (digits_value 10 text) most then Some (digits_value 10 text) else None) ≡ None
    by true = rw (over most (digits_value 10 text) lt) refl
    by false = refl

-- a number that is too great with one digit more
pub too_great : (most n c : ℕ) (cs text : List ℕ) → GoesOn n (c ∷ cs) text → most < n * 10 → number_up_to most text ≡ None
too_great most n c cs text on lt =
    let l = le_after (n * 10 + digit_value c) cs in
    let v = on.value in
    too_much most text (omega arith)

-- one digit more
pub goes_on : (n c : ℕ) (cs text : List ℕ) → GoesOn n (c ∷ cs) text → is_ascii_digit c ≡ true → 48 ≤ c → c ≤ 57 → GoesOn (n * 10 + (c - 48)) cs text
goes_on n c cs text on e low high = record {
  digits = rw e at on.digits;
  value = ap (λ (k : ℕ). digits_value_after 10 (n * 10 + k) cs) (sym (worth c low high)) ∙ on.value;
}
  where
    worth : (c : ℕ) → 48 ≤ c → c ≤ 57 → digit_value c ≡ c - 48
    worth c l h = grind (arith, nat_tests)

-- a number that stays below 10^18 with this many digits more
abbrev pub HasRoom : ℕ → ℕ → Type 0
HasRoom n more = (n + 1) * 10 ^ more ≤ 10 ^ 18

pub first_room : (l : ℕ) → l ≤ 18 → HasRoom 0 l
first_room l le = let p : 10 ^ l ≤ 10 ^ 18 = pow-le-pow_right ten le in omega arith
  where
    ten : 0 < 10
    ten = omega arith

pub less_room : (n d l : ℕ) → d ≤ 9 → HasRoom n (l + 1) → HasRoom (n * 10 + d) l
less_room n d l le h =
    let p : 10 ^ (l + 1) ≡ 10 ^ l * 10 = pow_more 10 l in
    let m : (n * 10 + d + 1) * 10 ^ l ≤ ((n + 1) * 10) * 10 ^ l = mul-le-mul_right (10 ^ l) (omega arith) in
    let e : ((n + 1) * 10) * 10 ^ l ≡ (n + 1) * (10 ^ l * 10) = grind arith in
    let g : (n + 1) * (10 ^ l * 10) ≤ 10 ^ 18 = subst (λ k. (n + 1) * k ≤ 10 ^ 18) p h in
    omega arith

pub has_room : (n l : ℕ) → HasRoom n l → n < 10 ^ 18
has_room n l h =
    let o : 1 ≤ 10 ^ l = one-le-pow l 10 (omega arith) in
    let m : (n + 1) * 1 ≤ (n + 1) * 10 ^ l = mul-le-mul_left (n + 1) o in
    omega arith

pub one_digit_more : (n c d : ℕ) (cs l text : List ℕ) → l ≡ c ∷ cs → d ≡ c - 48 → is_ascii_digit c ≡ true → 48 ≤ c → c ≤ 57 → GoesOn n l text × HasRoom n (length l)
    → GoesOn (n * 10 + d) cs text × HasRoom (n * 10 + d) (length cs)
one_digit_more n c d cs l text e same is low high (on, room) =
    let long : length l ≡ length cs + 1 = ap length e ∙ omega arith in (
      subst (λ (k : ℕ). GoesOn (n * 10 + k) cs text) (sym same) (goes_on n c cs text (subst (λ (k : List ℕ). GoesOn n k text) e on) is low high),
      less_room n d (length cs) (omega arith) (subst (λ (k : ℕ). HasRoom n k) long room),
    )

mapped : {X Y : Type 0} (f : X → Y) (b : Bool) (x : X) → option_map f (if b then Some x else None) ≡ (if b then Some (f x) else None)
mapped f true x = refl
mapped f false x = refl

pub without_sign : (c : ℕ) (cs : List ℕ) → c ≢ 45 → c ≢ 43 → option_map pos (number_up_to (2 ^ 63 - 1) (c ∷ cs)) ≡ integer_of (c ∷ cs)
without_sign c cs m p = split (eqb_tells c 45) (eqb_tells c 43)
  where
    split : ((eqb c 45 ≡ true) × (c ≡ 45)) ⊎ ((eqb c 45 ≡ false) × (c ≢ 45)) → ((eqb c 43 ≡ true) × (c ≡ 43)) ⊎ ((eqb c 43 ≡ false) × (c ≢ 43))
        → option_map pos (number_up_to (2 ^ 63 - 1) (c ∷ cs)) ≡ integer_of (c ∷ cs)
    split (inl h) q = absurd (m h.1)
    split (inr h) (inl q) = absurd (p q.1)
    split (inr h) (inr q) =
        rw (h.0, q.0)
        (mapped pos (nat_lt 0 (length (c ∷ cs)) && all_ascii_digits (c ∷ cs) && nat_le (digits_value 10 (c ∷ cs)) (2 ^ 63 - 1)) (digits_value 10 (c ∷ cs)))
