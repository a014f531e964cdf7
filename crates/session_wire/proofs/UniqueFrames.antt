-- A text has at most one frame.
use Rattle.std.proofs.Common.{◌≡◌, ◌≢◌, ℕ, ◌+◌, ◌*◌, ◌/◌, ◌%◌, ◌<◌, inl, inr, List, [], ◌∷◌, ◌++◌, codes, get_or, drop, refl, sym, ap, ◌∙◌, subst, arith}
use Rattle.std.proofs.lemmas.Bool.{cases_lt}
use Rattle.std.proofs.lemmas.Fmt.{decimal_digit, decimal_injective}
use Rattle.std.specs.Fmt.{decimal}
use Rattle.med_session.specs.Requests.{AskedLine, opening, sql, bye}
use Rattle.session_wire.specs.Frames.{BeginsWithSid, IsRequest, IsFrame, IsReplySid}
use Rattle.session_wire.proofs.Digits.{decimal_two, decimal_three}

-- no space in it
abbrev HasNoSpace : List ℕ → Type 0
HasNoSpace [] = Unit {0}
HasNoSpace (b ∷ bs) = (b ≢ 32) × HasNoSpace bs

spaceless_number : (n : ℕ) → n < 1000 → HasNoSpace (decimal n)
spaceless_number n small =
    elim (cases_lt n 10) [
      | inl one ↦ subst HasNoSpace (sym (decimal_digit n one)) (λ e. omega arith, tt)
      | inr two ↦ elim (cases_lt n 100) [
        | inl less ↦
            let same : n ≡ 10 * (n / 10) + n % 10 = omega arith in
            let d : decimal n ≡ (48 + n / 10) ∷ (48 + n % 10) ∷ [] = ap decimal same ∙ decimal_two (n / 10) (n % 10) (omega arith) (omega arith) (omega arith) in
            subst HasNoSpace (sym d) (λ e. omega arith, (λ e. omega arith, tt))
        | inr three ↦
            let same : n ≡ 100 * (n / 100) + 10 * (n / 10 % 10) + n % 10 = omega arith in
            let d : decimal n ≡ (48 + n / 100) ∷ (48 + n / 10 % 10) ∷ (48 + n % 10) ∷ [] = ap decimal same ∙ decimal_three (n / 100) (n / 10 % 10) (n % 10) (omega arith) (omega arith) (omega arith) (omega arith) in
            subst HasNoSpace (sym d) (λ e. omega arith, (λ e. omega arith, (λ e. omega arith, tt)))
      ]
    ]

cut_once : (r s a b : List ℕ) → HasNoSpace r → HasNoSpace s → r ++ 32 ∷ a ≡ s ++ 32 ∷ b → (r ≡ s) × (a ≡ b)
cut_once [] [] a b h k e = (refl, cc)
cut_once [] (y ∷ s) a b h k e = let no : y ≡ 32 = cc in absurd (k.0 no)
cut_once (x ∷ r) [] a b h k e = let no : x ≡ 32 = cc in absurd (h.0 no)
cut_once (x ∷ r) (y ∷ s) a b h k e =
    let first : x ≡ y = cc in
    let others : r ++ 32 ∷ a ≡ s ++ 32 ∷ b = cc in
    let both = cut_once r s a b h.1 k.1 others in
    (ap (λ c. c ∷ r) first ∙ ap (λ l. y ∷ l) both.0, both.1)

-- the first bytes of the verbs differ
apart : (m n : ℕ) (a b : List ℕ) → m ≢ n → m ∷ a ≡ n ∷ b → ⊥
apart m n a b h e = h (ap (λ l. get_or l 0 0) e)

one_request : (text : List ℕ) (p q : AskedLine) → IsRequest text p → IsRequest text q → p ≡ q
one_request text (opening user) (opening other) h k = let e : codes "OPEN " ++ user ≡ codes "OPEN " ++ other = sym h.0 ∙ k.0 in ap (λ l. opening (drop 5 l)) e
one_request text (opening user) (sql query) h k = absurd (apart 79 81 _ _ (λ e. omega arith) (sym h.0 ∙ k))
one_request text (opening user) bye h k = absurd (apart 79 66 _ _ (λ e. omega arith) (sym h.0 ∙ k))
one_request text (sql query) (opening user) h k = absurd (apart 81 79 _ _ (λ e. omega arith) (sym h ∙ k.0))
one_request text (sql query) (sql other) h k = let e : codes "Q " ++ query ≡ codes "Q " ++ other = sym h ∙ k in ap (λ l. sql (drop 2 l)) e
one_request text (sql query) bye h k = absurd (apart 81 66 _ _ (λ e. omega arith) (sym h ∙ k))
one_request text bye (opening user) h k = absurd (apart 66 79 _ _ (λ e. omega arith) (sym h ∙ k.0))
one_request text bye (sql query) h k = absurd (apart 66 81 _ _ (λ e. omega arith) (sym h ∙ k))
one_request text bye bye h k = refl

one_sid : (text : List ℕ) (m n : ℕ) (a b : List ℕ) → BeginsWithSid text m a → BeginsWithSid text n b → (m ≡ n) × (a ≡ b)
one_sid text m n a b h k =
    let both = cut_once (decimal m) (decimal n) a b (spaceless_number m (omega arith)) (spaceless_number n (omega arith)) (sym h.1 ∙ k.1) in
    (decimal_injective m n (omega arith) (omega arith) both.0, both.1)

pub one_frame : (text : List ℕ) (m n : ℕ) (p q : AskedLine) → IsFrame text m p → IsFrame text n q → (m ≡ n) × (p ≡ q)
one_frame text m n p q f g =
    let both = one_sid text m n f.0 g.0 f.1 g.1 in
    (both.0, one_request g.0 p q (subst (λ l. IsRequest l p) both.1 f.2) g.2)

pub one_reply_sid : (text : List ℕ) (m n : ℕ) → IsReplySid text m → IsReplySid text n → m ≡ n
one_reply_sid text m n (inl h) (inl k) = (one_sid text m n h.0 k.0 h.1 k.1).0
one_reply_sid text m n (inl h) (inr k) = absurd (k.1 m h.0 h.1)
one_reply_sid text m n (inr h) (inl k) = absurd (h.1 n k.0 k.1)
one_reply_sid text m n (inr h) (inr k) = h.0 ∙ sym k.0
