-- A text cut behind its first character.
use Rattle.std.proofs.Common.{◌≡◌, ℕ, Bool, true, false, ◌&&◌, List, [], ◌∷◌, ◌++◌, length, length-append, sym, ap, ◌∙◌, arith}
use Rattle.std.specs.Str.{chars, IsUtf8}
use Rattle.std.proofs.Math.Utf8.{scalar, scalars, encodes, encode}
use Rattle.std.proofs.lemmas.Str.{chars-nil, chars-encodes, encode_same, length-encode, len_utf8_bounds}

pub no_chars : (bs : List ℕ) → length bs ≡ 0 → chars bs ≡ []
no_chars [] e = chars-nil
no_chars (b ∷ bs) e = absurd (omega arith)

and_right : (p q : Bool) → (p && q) ≡ true → q ≡ true
and_right true q e = e
and_right false q e = absurd cc

first_by : (bs rest cs : List ℕ) (c : ℕ) → scalars cs ≡ true → encodes cs ≡ bs → bs ≡ encode c ++ rest → chars bs ≡ c ∷ chars rest
first_by bs rest [] c s e f =
    let l : 0 ≡ length (encode c ++ rest) = ap length (e ∙ f) in
    let b = (len_utf8_bounds c).0 in
    absurd (omega (arith, l, b, length-encode c, length-append (encode c) rest))
first_by bs rest (d ∷ cs) c s e f =
    let h = encode_same d c (encodes cs) rest (e ∙ f) in
    let t : chars rest ≡ cs = ap chars (sym h.1) ∙ chars-encodes cs (and_right (scalar d) (scalars cs) s) in
    let w : chars bs ≡ d ∷ cs = ap chars (sym e) ∙ chars-encodes (d ∷ cs) s in
    rw (t, ← h.0) w

pub char_first : (bs rest : List ℕ) (c : ℕ) → IsUtf8 bs → bs ≡ encode c ++ rest → chars bs ≡ c ∷ chars rest
char_first bs rest c u f = first_by bs rest u.0 c u.1.0 u.1.1 f
