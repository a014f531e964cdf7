-- What the codec finds at the front of some bytes is the first of their lines.
use Rattle.std.proofs.Common.{◌≡◌, ℕ, suc, ◌+◌, ◌<◌, ◌≤◌, ◌==◌, nat_lt, nat_le, Bool, true, false, cond, List, [], ◌∷◌, ◌++◌, length, take, drop, refl, sym, ap, ◌∙◌, Some, None, arith, append-nil, length-append, inl, inr, ◌⊎◌, add-one}
use Rattle.std.proofs.lemmas.Bool.{cases_lt}
use lib.Seq.{take-append_seam}
use Rattle.std.proofs.lemmas.Bool.Decides.{nat_tests}
use Rattle.std.specs.Str.{is_utf8}
use Rattle.std.specs.List.{position_or_len}
use Rattle.tokio_util.specs.Codec.Lines.{without_carriage_return, Scan, line as found, too_long, unfinished, newline_from, read_line}
use Rattle.tokio_util.specs.Codec.LinesLaws.{read_line_found, read_line_long, read_line_short}
use Rattle.session_wire.specs.Lines.{Lines, line, rest, closed, split, is_line, up_to_closing, lines_within, unread_after}
use Rattle.session_wire.proofs.Pieces.{HasNoLf, split_front}

-- the lines that begin with what a scan found
abbrev pub from_scan : ℕ → Scan → Lines
from_scan limit (found text after) = cond (is_utf8 text) (line text (lines_within limit after)) closed
from_scan limit (too_long after) = closed
from_scan limit (unfinished is_dropped kept) = rest kept

pub newline_is : (xs : List ℕ) → newline_from 0 xs ≡ position_or_len (λ b. b == 10) xs
unfolding newline_from
newline_is xs = omega arith

place_lf : (b : ℕ) (bs : List ℕ) → (b == 10) ≡ true → position_or_len (λ c. c == 10) (b ∷ bs) ≡ 0
place_lf b bs e = rw e refl

pub place_other : (b : ℕ) (bs : List ℕ) → (b == 10) ≡ false → position_or_len (λ c. c == 10) (b ∷ bs) ≡ 1 + position_or_len (λ c. c == 10) bs
place_other b bs e = rw e refl

abbrev lf_at : List ℕ → ℕ
lf_at xs = position_or_len (λ c. c == 10) xs

-- no LF, or what stands before the first, and what stands after it
abbrev pub Parts : List ℕ → Type 0
Parts xs = (HasNoLf xs × (lf_at xs ≡ length xs)) ⊎ ((r : List ℕ) × (ys : List ℕ) × HasNoLf r × (xs ≡ r ++ 10 ∷ ys) × (lf_at xs ≡ length r))

parts_cons : (b : ℕ) (bs : List ℕ) → (t : Bool) → (b == 10) ≡ t → Parts bs → Parts (b ∷ bs)
parts_cons b bs true e p = let same : b ≡ 10 = grind (arith, nat_tests) in inr ([], bs, tt, ap (λ c. c ∷ bs) same, place_lf b bs e)
parts_cons b bs false e (inl p) = inl ((e, p.0), omega (arith, place_other b bs e, p.1))
parts_cons b bs false e (inr p) = inr (b ∷ p.0, p.1, (e, p.2), ap (λ l. b ∷ l) p.3, omega (arith, place_other b bs e, p.4))

parts : (xs : List ℕ) → Parts xs
parts [] = inl (tt, refl)
parts (b ∷ bs) = parts_cons b bs (b == 10) refl (parts bs)

split_free : (xs : List ℕ) → HasNoLf xs → split xs ≡ ([], xs)
split_free xs h = ap split (sym (append-nil xs)) ∙ split_front xs [] h ∙ ap (λ (l : List ℕ). ([], l)) (append-nil xs)

split_first : (r ys : List ℕ) → HasNoLf r → split (r ++ 10 ∷ ys) ≡ (r ∷ (split ys).0, (split ys).1)
split_first r ys h = split_front r (10 ∷ ys) h ∙ ap (λ (l : List ℕ). (l ∷ (split ys).0, (split ys).1)) (append-nil r)

lines_first : (limit : ℕ) (r ys : List ℕ) → HasNoLf r → lines_within limit (r ++ 10 ∷ ys) ≡ cond (is_line limit r) (line (without_carriage_return r) (lines_within limit ys)) closed
unfolding lines_within
lines_first limit r ys h = ap (λ (p : List (List ℕ) × List ℕ). up_to_closing limit p.0 p.1) (split_first r ys h)

pub lines_free : (limit : ℕ) (xs : List ℕ) → HasNoLf xs → lines_within limit xs ≡ cond (nat_lt limit (length xs)) closed (rest xs)
unfolding lines_within
lines_free limit xs h = ap (λ (p : List (List ℕ) × List ℕ). up_to_closing limit p.0 p.1) (split_free xs h)

front_free : (limit : ℕ) (xs : List ℕ) → HasNoLf xs → newline_from 0 xs ≡ length xs → (limit < length xs) ⊎ (length xs ≤ limit) → lines_within limit xs ≡ from_scan limit (read_line limit 0 xs)
front_free limit xs h e (inr short) =
    let test : nat_lt limit (length xs) ≡ false = grind (arith, nat_tests) in
    lines_free limit xs h ∙ rw (test, read_line_short limit 0 xs (omega arith) short) refl
front_free limit xs h e (inl long) =
    let test : nat_lt limit (length xs) ≡ true = grind (arith, nat_tests) in
    lines_free limit xs h ∙ rw (test, read_line_long limit 0 xs (omega arith) long) refl

front_first : (limit : ℕ) (r ys : List ℕ) → HasNoLf r → newline_from 0 (r ++ 10 ∷ ys) ≡ length r → (limit < length r) ⊎ (length r ≤ limit) → lines_within limit (r ++ 10 ∷ ys) ≡ from_scan limit (read_line limit 0 (r ++ 10 ∷ ys))
front_first limit r ys h e (inr short) =
    let test : nat_le (length r) limit ≡ true = grind (arith, nat_tests) in
    let read : read_line limit 0 (r ++ 10 ∷ ys) ≡ found (without_carriage_return (take (length r) (r ++ 10 ∷ ys))) (drop (length r + 1) (r ++ 10 ∷ ys)) =
    rw e at (read_line_found limit 0 (r ++ 10 ∷ ys) (omega (arith, length-append r (10 ∷ ys))) (omega arith)) in
    let front : take (length r) (r ++ 10 ∷ ys) ≡ r = take-append_seam r (10 ∷ ys) in
    let back : drop (length r + 1) (r ++ 10 ∷ ys) ≡ ys = drop_behind r ys in
    lines_first limit r ys h ∙ rw (test, read, front, back) refl
  where
    drop_behind : (r ys : List ℕ) → drop (length r + 1) (r ++ 10 ∷ ys) ≡ ys
    drop_behind r ys = rw add-one (drop_past r ys)
      where
        drop_past : (r ys : List ℕ) → drop (suc (length r)) (r ++ 10 ∷ ys) ≡ ys
        drop_past [] ys = refl
        drop_past (b ∷ r) ys = drop_past r ys
front_first limit r ys h e (inl long) =
    let test : nat_le (length r) limit ≡ false = grind (arith, nat_tests) in
    lines_first limit r ys h ∙ rw (test, read_line_long limit 0 (r ++ 10 ∷ ys) (omega arith) (omega (arith, length-append r (10 ∷ ys)))) refl

at_parts : (limit : ℕ) (xs : List ℕ) → Parts xs → lines_within limit xs ≡ from_scan limit (read_line limit 0 xs)
at_parts limit xs (inl p) = front_free limit xs p.0 (newline_is xs ∙ p.1) (cases_lt limit (length xs))
at_parts limit xs (inr p) =
    rw p.3 (front_first limit p.0 p.1 p.2 (rw p.3 at (newline_is xs ∙ p.4)) (cases_lt limit (length p.0)))

-- what the codec finds first is the first line
pub lines_by_scan : (limit : ℕ) (xs : List ℕ) → lines_within limit xs ≡ from_scan limit (read_line limit 0 xs)
lines_by_scan limit xs = at_parts limit xs (parts xs)

ends_with_rest : (limit : ℕ) (ls : List (List ℕ)) (r after : List ℕ) → unread_after (up_to_closing limit ls r) ≡ Some after → (after ≡ r) × (nat_lt limit (length r) ≡ false)
ends_with_rest limit [] r after e = at_rest (nat_lt limit (length r)) refl
  where
    at_rest : (t : Bool) → nat_lt limit (length r) ≡ t → (after ≡ r) × (nat_lt limit (length r) ≡ false)
    at_rest true t = let no : None ≡ Some after = rw t at e in cc
    at_rest false t = let same : Some r ≡ Some after = rw t at e in (cc, t)
ends_with_rest limit (l ∷ ls) r after e = at_line (is_line limit l) refl (ends_with_rest limit ls r after)
  where
    at_line : (t : Bool) → is_line limit l ≡ t → (unread_after (up_to_closing limit ls r) ≡ Some after → (after ≡ r) × (nat_lt limit (length r) ≡ false)) → (after ≡ r) × (nat_lt limit (length r) ≡ false)
    at_line true t k = k (rw t at e)
    at_line false t k = let no : None ≡ Some after = rw t at e in cc

pub within_ends : (limit : ℕ) (xs after : List ℕ) → unread_after (lines_within limit xs) ≡ Some after → (after ≡ (split xs).1) × (nat_lt limit (length (split xs).1) ≡ false)
unfolding lines_within
within_ends limit xs after e = ends_with_rest limit (split xs).0 (split xs).1 after e
