-- Quotes written twice, up to the first quote and from there on.
use Rattle.std.proofs.Common.{◌≡◌, ℕ, zero, suc, ◌+◌, ◌<◌, arith, Bool, true, false, cond, List, [], ◌∷◌, ◌++◌, length, take, drop, refl, ◌∙◌, ap, append_assoc}
use Rattle.std.specs.Prelude.{not, eqb, Result, Ok, Err, IfOk, is_ok}
use Rattle.std.specs.List.{position_or_len, before_first, after_first}
use Rattle.med_lexer.specs.Lexemes.{doubled, between}

no_zero : (b : Bool) (m : ℕ) → cond (not b) (1 + m) 0 ≡ 0 → b ≡ true
no_zero true m h = refl
no_zero false m h = absurd (omega (arith, h))

no_suc : (b : Bool) (m n : ℕ) → cond (not b) (1 + m) 0 ≡ suc n → b ≡ false
no_suc false m n h = refl
no_suc true m n h = absurd (omega (arith, h))

suc_is : (b : Bool) (m n : ℕ) → cond (not b) (1 + m) 0 ≡ suc n → m ≡ n
suc_is false m n h = omega (arith, h)
suc_is true m n h = absurd (omega (arith, h))

drop_more : (n b : ℕ) (bs : List ℕ) → drop (suc n + 1) (b ∷ bs) ≡ drop (n + 1) bs
drop_more n b bs = let e : suc n + 1 ≡ suc (n + 1) = omega arith in rw e refl

pub quote_split : (q : ℕ) (bs : List ℕ) (n : ℕ) → position_or_len (λ b. eqb b q) bs ≡ n → n < length bs → doubled q bs ≡ take n bs ++ q ∷ q ∷ doubled q (drop (n + 1) bs)
quote_split q [] n p h = absurd (omega arith)
quote_split q (b ∷ bs) zero p h = rw (no_zero (eqb b q) (position_or_len (λ b. eqb b q) bs) p) refl
quote_split q (b ∷ bs) (suc n) p h =
    let ih = quote_split q bs n (suc_is (eqb b q) (position_or_len (λ b. eqb b q) bs) n p) (omega arith) in
    rw (drop_more n b bs) (rw (no_suc (eqb b q) (position_or_len (λ b. eqb b q) bs) n p) (ap (λ cs. b ∷ cs) ih))

pub no_quote : (q : ℕ) (bs : List ℕ) → position_or_len (λ b. eqb b q) bs ≡ length bs → doubled q bs ≡ bs
no_quote q [] p = refl
no_quote q (b ∷ bs) p =
    rw (no_suc (eqb b q) (position_or_len (λ b. eqb b q) bs) (length bs) p) (ap (λ cs. b ∷ cs) (no_quote q bs (suc_is (eqb b q) (position_or_len (λ b. eqb b q) bs) (length bs) p)))

-- ---- the loop

pub quote_next : (q : ℕ) (a o1 o2 o3 rest plain after all : List ℕ) → position_or_len (λ b. eqb b q) rest < length rest → plain ≡ before_first (λ b. eqb b q) rest → after ≡ after_first (λ b. eqb b q) rest →
    a ++ doubled q rest ≡ all → o1 ≡ a ++ plain → o2 ≡ o1 ++ q ∷ [] → o3 ≡ o2 ++ q ∷ [] → o3 ++ doubled q after ≡ all
quote_next q a o1 o2 o3 rest plain after all l p d same e1 e2 e3 =
    let cut : doubled q rest ≡ take (position_or_len (λ b. eqb b q) rest) rest ++ q ∷ q ∷ doubled q (drop (position_or_len (λ b. eqb b q) rest + 1) rest) = quote_split q rest (position_or_len (λ b. eqb b q) rest) refl l in
    let whole : ((a ++ plain) ++ q ∷ []) ++ q ∷ [] ≡ a ++ (plain ++ q ∷ q ∷ []) = simp append_assoc in
    let tail : (a ++ (plain ++ q ∷ q ∷ [])) ++ doubled q after ≡ a ++ (plain ++ q ∷ q ∷ doubled q after) = simp append_assoc in
    cc

pub quote_end : {U E : Type 0} (q : ℕ) (r : Result U E) (enc a o1 o2 rest old all : List ℕ) → o2 ≡ cond (is_ok r) (o1 ++ enc) o1 → enc ≡ q ∷ [] → o1 ≡ a ++ rest → position_or_len (λ b. eqb b q) rest ≡ length rest →
    a ++ doubled q rest ≡ ((old ++ 32 ∷ []) ++ q ∷ []) ++ doubled q all → IfOk r (λ u. o2 ≡ (old ++ 32 ∷ []) ++ between q all)
quote_end q (Err e) enc a o1 o2 rest old all h en e1 p same = tt
quote_end q (Ok u) enc a o1 o2 rest old all h en e1 p same =
    let plain : doubled q rest ≡ rest = no_quote q rest p in
    let tail : (((old ++ 32 ∷ []) ++ q ∷ []) ++ doubled q all) ++ q ∷ [] ≡ (old ++ 32 ∷ []) ++ (q ∷ (doubled q all ++ q ∷ [])) = simp append_assoc in
    cc

pub with_quote : (a b enc : List ℕ) (q : ℕ) → b ≡ a ++ enc → enc ≡ q ∷ [] → b ≡ a ++ q ∷ []
with_quote a b enc q h e = h ∙ ap (λ x. a ++ x) e
