-- Double quotes written twice, up to the first one and from there on.
use Rattle.std.proofs.Common.{
  ◌≡◌,
  ℕ,
  zero,
  suc,
  ◌+◌,
  ◌<◌,
  arith,
  Bool,
  true,
  false,
  cond,
  List,
  [],
  ◌∷◌,
  ◌++◌,
  length,
  take,
  drop,
  refl,
  ap,
  append_assoc,
}
use Rattle.std.specs.Prelude.{not, eqb}
use Rattle.std.specs.List.{position_or_len, before_first, after_first}
use Rattle.sqlite_looks.specs.Texts.{doubled, quoted}

-- how many bytes stand before the first double quote
abbrev pub plain_len : List ℕ → ℕ
plain_len bs = position_or_len (λ b. eqb b 34) bs

no_zero : (b : Bool) (m : ℕ) → cond (not b) (1 + m) 0 ≡ 0 → b ≡ true
no_zero true m h = refl
no_zero false m h = absurd (omega (arith, h))

no_suc : (b : Bool) (m n : ℕ) → cond (not b) (1 + m) 0 ≡ suc n → b ≡ false
no_suc false m n h = refl
no_suc true m n h = absurd (omega (arith, h))

suc_is : (b : Bool) (m n : ℕ) → cond (not b) (1 + m) 0 ≡ suc n → m ≡ n
suc_is false m n h = omega (arith, h)
suc_is true m n h = absurd (omega (arith, h))

drop_more : (n b : ℕ) (bs : List ℕ) → drop (suc n + 1) (b ∷ bs) ≡ drop (n + 1) bs
drop_more n b bs = let e : suc n + 1 ≡ suc (n + 1) = omega arith in rw e refl

split : (bs : List ℕ) (n : ℕ) → plain_len bs ≡ n → n < length bs
    → doubled bs ≡ take n bs ++ 34 ∷ 34 ∷ doubled (drop (n + 1) bs)
split [] n p h = absurd (omega arith)
split (b ∷ bs) zero p h = rw (no_zero (eqb b 34) (plain_len bs) p) refl
split (b ∷ bs) (suc n) p h =
    let ih = split bs n (suc_is (eqb b 34) (plain_len bs) n p) (omega arith) in
    rw (drop_more n b bs) (rw (no_suc (eqb b 34) (plain_len bs) n p) (ap (λ cs. b ∷ cs) ih))

-- without a double quote nothing is doubled
pub none : (bs : List ℕ) → plain_len bs ≡ length bs → doubled bs ≡ bs
none [] p = refl
none (b ∷ bs) p =
    rw (no_suc (eqb b 34) (plain_len bs) (length bs) p)
    (ap (λ cs. b ∷ cs) (none bs (suc_is (eqb b 34) (plain_len bs) (length bs) p)))

-- the text `a` goes on with what stands before the first double quote, `b`, and with that twice, `c`
pub next : (a b c rest plain after all : List ℕ) → plain_len rest < length rest → plain ≡ before_first (λ b. eqb b 34) rest
    → after ≡ after_first (λ b. eqb b 34) rest → a ++ doubled rest ≡ all → b ≡ a ++ plain → c ≡ b ++ 34 ∷ 34 ∷ []
    → c ++ doubled after ≡ all
next a b c rest plain after all l p d same e1 e2 =
    let cut : doubled rest ≡ take (plain_len rest) rest ++ 34 ∷ 34 ∷ doubled (drop (plain_len rest + 1) rest) =
    split rest (plain_len rest) refl l in
    let tail : ((a ++ plain) ++ 34 ∷ 34 ∷ []) ++ doubled after ≡ a ++ (plain ++ 34 ∷ 34 ∷ doubled after) = simp append_assoc in
    cc

-- the text `a` ends with what is left, `b`, and with a double quote, `c`
pub whole : (a b c rest all : List ℕ) → plain_len rest ≡ length rest → a ++ doubled rest ≡ 34 ∷ doubled all → b ≡ a ++ rest
    → c ≡ b ++ 34 ∷ [] → c ≡ quoted all
whole a b c rest all p same e1 e2 =
    let plain : doubled rest ≡ rest = none rest p in
    let tail : (34 ∷ doubled all) ++ 34 ∷ [] ≡ quoted all = refl in
    cc
