-- Bytes that are the front of a line, and lead to no line yet.
use Rattle.std.proofs.Common.{◌≡◌, ℕ, ◌-◌, ◌≤◌, ◌==◌, ◌||◌, sym, nat_lt, Bool, true, false, List, [], ◌∷◌, ◌++◌, length, refl, ◌∙◌, arith, length-append, Some}
use Rattle.std.proofs.lemmas.Bool.Decides.{nat_tests}
use Rattle.std.proofs.lemmas.List.Folds.{list_any-append}
use Rattle.std.specs.List.{list_any}
use Rattle.med_value.specs.Limits.{line_limit}
use Rattle.session_wire.specs.Lines.{rest, lines_of, unread_after, IsFrontOfLine}
use Rattle.session_wire.proofs.Pieces.{HasNoLf, rest_has_no_lf}
use Rattle.session_wire.proofs.FirstLine.{lines_free, within_ends}

no_lf-from_test : (bs : List ℕ) → list_any (λ b. b == 10) bs ≡ false → HasNoLf bs
no_lf-from_test [] e = tt
no_lf-from_test (b ∷ bs) e = at_first (b == 10) refl (no_lf-from_test bs)
  where
    at_first : (t : Bool) → (b == 10) ≡ t → (list_any (λ b. b == 10) bs ≡ false → HasNoLf bs) → HasNoLf (b ∷ bs)
    at_first true u k = let no : true ≡ false = rw u at e in cc
    at_first false u k = (u, k (rw u at e))

test-from_no_lf : (bs : List ℕ) → HasNoLf bs → list_any (λ b. b == 10) bs ≡ false
test-from_no_lf [] h = refl
test-from_no_lf (b ∷ bs) h = rw h.0 (test-from_no_lf bs h.1)

-- they are left unread
pub front_is_rest : (bytes : List ℕ) → IsFrontOfLine bytes → lines_of bytes ≡ rest bytes
front_is_rest bytes h =
    let short : length bytes ≤ line_limit = h.is_short in
    let test : nat_lt line_limit (length bytes) ≡ false = grind (arith, nat_tests) in
    lines_free line_limit bytes (no_lf-from_test bytes h.has_no_lf) ∙ rw test refl

-- what is left unread is the front of a line
pub left_is_front : (bytes after : List ℕ) → unread_after (lines_of bytes) ≡ Some after → IsFrontOfLine after
left_is_front bytes after e =
    let both = within_ends line_limit bytes after e in
    let test : nat_lt line_limit (length after) ≡ false = rw both.0 both.1 in
    let short : length after ≤ line_limit = grind (arith, nat_tests) in
    record { has_no_lf = rw both.0 (test-from_no_lf _ (rest_has_no_lf bytes)); is_short = short }

-- and stays one with more bytes that have no LF, while it is short
pub front-append : (bytes piece : List ℕ) → IsFrontOfLine bytes → list_any (λ b. b == 10) piece ≡ false → length piece ≤ line_limit - length bytes → IsFrontOfLine (bytes ++ piece)
front-append bytes piece h e s =
    let short : length bytes ≤ line_limit = h.is_short in
    record { has_no_lf = list_any-append _ bytes piece ∙ rw (h.has_no_lf, e) refl; is_short = omega (arith, length-append bytes piece) }

-- more bytes with an LF, or past the limit, are none
pub no_front : (bytes piece : List ℕ) → IsFrontOfLine (bytes ++ piece) → (list_any (λ b. b == 10) piece ≡ false) × (length piece ≤ line_limit - length bytes)
no_front bytes piece h =
    let short : length (bytes ++ piece) ≤ line_limit = h.is_short in
    (no_other (list_any (λ b. b == 10) bytes) (list_any (λ b. b == 10) piece) (sym (list_any-append _ bytes piece) ∙ h.has_no_lf), omega (arith, length-append bytes piece))
  where
    no_other : (a b : Bool) → (a || b) ≡ false → b ≡ false
    no_other true b e = absurd cc
    no_other false true e = absurd cc
    no_other false false e = refl
