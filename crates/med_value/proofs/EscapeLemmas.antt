-- Escaped texts: read back they are the text, none of them is NULL's, and none has a TAB, LF or CR.
use Rattle.std.proofs.Common.{◌≡◌, ◌≢◌, ℕ, Bool, true, false, List, [], ◌∷◌, ◌++◌, codes, refl, sym, ap, ◌∙◌, nat_eq, All, get_or}
use Rattle.std.proofs.lemmas.Bool.{eqb-true, eq-eqb}
use Rattle.std.proofs.lemmas.List.Elements.{All-append, All-cons, All-nil}
use Rattle.med_value.specs.Datum.{NoValue}
use Rattle.med_value.specs.Text.{escaped, escaped_text, field_text, read_back, IsUnbroken}

read_plain : (c : ℕ) (tail : List ℕ) → nat_eq c 92 ≡ false → read_back (c ∷ tail) ≡ c ∷ read_back tail
read_plain c [] e = refl
read_plain c (d ∷ rest) e = rw e refl

-- one byte, by what it is
read_one : (c : ℕ) (p q r s : Bool) → nat_eq c 92 ≡ p → nat_eq c 9 ≡ q → nat_eq c 10 ≡ r → nat_eq c 13 ≡ s → (tail : List ℕ) → read_back (escaped c ++ tail) ≡ c ∷ read_back tail
read_one c true q r s e f g h tail = rw e (ap (λ b. b ∷ read_back tail) (sym (eqb-true c 92 e)))
read_one c false true r s e f g h tail = rw (e, f) (ap (λ b. b ∷ read_back tail) (sym (eqb-true c 9 f)))
read_one c false false true s e f g h tail = rw (e, f, g) (ap (λ b. b ∷ read_back tail) (sym (eqb-true c 10 g)))
read_one c false false false true e f g h tail = rw (e, f, g, h) (ap (λ b. b ∷ read_back tail) (sym (eqb-true c 13 h)))
read_one c false false false false e f g h tail = rw (e, f, g, h) (read_plain c tail e)

pub read_back-escaped_text : (t : List ℕ) → read_back (escaped_text t) ≡ t
read_back-escaped_text [] = refl
read_back-escaped_text (c ∷ t) = read_one c (nat_eq c 92) (nat_eq c 9) (nat_eq c 10) (nat_eq c 13) refl refl refl refl (escaped_text t) ∙ ap (λ l. c ∷ l) (read_back-escaped_text t)

-- behind its backslash NULL's text has an N
letter_is_n : (letter : ℕ) (tail : List ℕ) → nat_eq letter 78 ≡ false → (92 ∷ letter ∷ tail) ≢ codes "\\N"
letter_is_n letter tail other w = let n : nat_eq letter 78 ≡ true = ap (λ l. nat_eq (get_or l 1 0) 78) w in absurd cc

not_null_first : (c : ℕ) (p q r s : Bool) → nat_eq c 92 ≡ p → nat_eq c 9 ≡ q → nat_eq c 10 ≡ r → nat_eq c 13 ≡ s → (tail : List ℕ) → (escaped c ++ tail) ≢ codes "\\N"
not_null_first c true q r s e f g h tail = rw e (letter_is_n 92 tail refl)
not_null_first c false true r s e f g h tail = rw (e, f) (letter_is_n 116 tail refl)
not_null_first c false false true s e f g h tail = rw (e, f, g) (letter_is_n 110 tail refl)
not_null_first c false false false true e f g h tail = rw (e, f, g, h) (letter_is_n 114 tail refl)
not_null_first c false false false false e f g h tail = rw (e, f, g, h) (λ w. let backslash : nat_eq c 92 ≡ true = ap (λ l. nat_eq (get_or l 0 0) 92) w in absurd cc)

pub text_is_not_null : (t : List ℕ) → escaped_text t ≢ field_text NoValue
text_is_not_null [] e = absurd cc
text_is_not_null (c ∷ t) e = not_null_first c (nat_eq c 92) (nat_eq c 9) (nat_eq c 10) (nat_eq c 13) refl refl refl refl (escaped_text t) e

one_byte : (c : ℕ) → c ≢ 9 → c ≢ 10 → c ≢ 13 → All IsUnbroken (c ∷ [])
one_byte c a b d = All-cons IsUnbroken c [] (record { no_tab = a; no_line_feed = b; no_carriage_return = d }) (All-nil IsUnbroken)

-- a backslash and a letter
two_bytes : (c : ℕ) → c ≢ 9 → c ≢ 10 → c ≢ 13 → All IsUnbroken (92 ∷ c ∷ [])
two_bytes c a b d = All-cons IsUnbroken 92 (c ∷ []) (record { no_tab = λ e. absurd cc; no_line_feed = λ e. absurd cc; no_carriage_return = λ e. absurd cc }) (one_byte c a b d)

differs : (c n : ℕ) → nat_eq c n ≡ false → c ≢ n
differs c n e w = let found : nat_eq c n ≡ true = eq-eqb c n w in absurd cc

unbroken_one : (c : ℕ) (p q r s : Bool) → nat_eq c 92 ≡ p → nat_eq c 9 ≡ q → nat_eq c 10 ≡ r → nat_eq c 13 ≡ s → All IsUnbroken (escaped c)
unbroken_one c true q r s e f g h = rw e (two_bytes 92 (λ w. absurd cc) (λ w. absurd cc) (λ w. absurd cc))
unbroken_one c false true r s e f g h = rw (e, f) (two_bytes 116 (λ w. absurd cc) (λ w. absurd cc) (λ w. absurd cc))
unbroken_one c false false true s e f g h = rw (e, f, g) (two_bytes 110 (λ w. absurd cc) (λ w. absurd cc) (λ w. absurd cc))
unbroken_one c false false false true e f g h = rw (e, f, g, h) (two_bytes 114 (λ w. absurd cc) (λ w. absurd cc) (λ w. absurd cc))
unbroken_one c false false false false e f g h = rw (e, f, g, h) (one_byte c (differs c 9 f) (differs c 10 g) (differs c 13 h))

pub unbroken : (t : List ℕ) → All IsUnbroken (escaped_text t)
unbroken [] = All-nil IsUnbroken
unbroken (c ∷ t) = All-append IsUnbroken (escaped c) (escaped_text t) (unbroken_one c (nat_eq c 92) (nat_eq c 9) (nat_eq c 10) (nat_eq c 13) refl refl refl refl) (unbroken t)
