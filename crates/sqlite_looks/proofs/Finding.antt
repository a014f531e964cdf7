-- What is so of the value of an option, and numbers one after the other.
use Rattle.std.proofs.Common.{◌≡◌, ℕ, zero, suc, ◌+◌, arith, [], ◌∷◌, ◌++◌, Option, Some, sym, ap, ◌∙◌, subst}
use Rattle.std.specs.Prelude.{unwrap_or}
use Rattle.std.specs.List.{range_with_len}

-- what is so of the value of an option is so of it by its other name
pub at_one : {A : Type 0} (P : A → Type 0) {o : Option A} {a b : A} → o ≡ Some a → o ≡ Some b → P a → P b
at_one P {o} {a} {b} e f h = subst P (ap (λ it. unwrap_or it a) (sym e ∙ f)) h

last : (a n j : ℕ) → a + n ≡ j → range_with_len a (suc n) ≡ range_with_len a n ++ j ∷ []
last a zero j e = let same : a ≡ j = omega (arith, e) in ap (λ k. k ∷ []) same
last a (suc n) j e = ap (λ ks. a ∷ ks) (last (a + 1) n j (omega (arith, e)))

-- one number more, which is the last
pub one_more : (n : ℕ) → range_with_len 0 (n + 1) ≡ range_with_len 0 n ++ n ∷ []
one_more n = let on : n + 1 ≡ suc n = omega arith in ap (range_with_len 0) on ∙ last 0 n n (omega arith)
