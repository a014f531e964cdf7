-- How a text is cut at its first LF, and a line at the CR at its end.
use Rattle.std.proofs.Common.{◌≡◌, ◌≢◌, ◌<◌, ◌+◌, ◌-◌, ◌==◌, ℕ, Bool, true, false, cond, List, [], ◌∷◌, ◌++◌, map, length, take, get_or, Some, None, Bor, refl, sym, ap, ◌∙◌, arith, length-append, rules}
use Rattle.std.specs.List.{slice_split, before_first, after_first}
use Rattle.std.proofs.lemmas.Grind.{common_steps}
use Rattle.std.proofs.lemmas.List.Splits.{slice_split_none, slice_split_first}
use Rattle.std.proofs.lemmas.Str.Pattern.{IsSplitOnceResult, split_once_first, split_parts}
use Rattle.fed_setup.specs.Scripts.{lines_parted, line_text}

-- ---- the CR at the end

last_is : (x : ℕ) (xs : List ℕ) → x ∷ xs ≡ take (length xs) (x ∷ xs) ++ get_or (x ∷ xs) (length xs) 0 ∷ []
last_is x [] = refl
last_is x (y ∷ ys) = ap (λ l. x ∷ l) (last_is y ys)

kept : (b : Bool) (l m : List ℕ) → (b ≡ true → ⊥) → l ≡ cond b m l
kept true l m h = absurd (h refl)
kept false l m h = refl

same_number : (m n : ℕ) → (m == n) ≡ true → m ≡ n
same_number m n h = search rules

behind : (x : ℕ) (xs : List ℕ) → length (x ∷ xs) - 1 ≡ length xs
behind x xs = omega arith

-- a line that ends in no CR is its own text
pub own_text : (l : List ℕ) → ((front : List ℕ) → l ≢ front ++ 13 ∷ []) → l ≡ line_text l
own_text [] h = refl
own_text (x ∷ xs) h =
    kept (get_or (x ∷ xs) (length (x ∷ xs) - 1) 0 == 13) (x ∷ xs) (take (length (x ∷ xs) - 1) (x ∷ xs)) (λ e.
    let at : get_or (x ∷ xs) (length xs) 0 ≡ 13 =
    ap (λ n. get_or (x ∷ xs) n 0) (sym (behind x xs)) ∙ same_number (get_or (x ∷ xs) (length (x ∷ xs) - 1) 0) 13 e in
    h (take (length xs) (x ∷ xs)) (last_is x xs ∙ ap (λ b. take (length xs) (x ∷ xs) ++ b ∷ []) at))

-- ---- the first LF

no_line_feed : (n : ℕ) → n ≢ 10 → (n == 10) ≡ false
no_line_feed n h = search rules

get_same : (xs : List ℕ) (k d : ℕ) → k < length xs → get_or xs k 0 ≡ get_or xs k d
get_same xs k d small = grind (arith, common_steps)

-- a text without LF is one line
pub one_line : (text line : List ℕ) → IsSplitOnceResult 10 text None → line ≡ line_text text → lines_parted text ≡ line ∷ []
one_line text line h is =
    let none = split_parts 10 text None h (omega arith) in
    ap (map line_text) (slice_split_none (λ b. b == 10) text (λ k d small. no_line_feed (get_or text k d) (λ same. none k small (get_same text k d small ∙ same)))) ∙ ap (λ l. l ∷ []) (sym is)

cut_lines : (text cut after : List ℕ) → cut ≡ before_first (λ b. b == 10) text → after ≡ after_first (λ b. b == 10) text
    → slice_split (λ b. b == 10) text ≡ before_first (λ b. b == 10) text ∷ slice_split (λ b. b == 10) (after_first (λ b. b == 10) text)
    → lines_parted text ≡ line_text cut ∷ lines_parted after
cut_lines text cut after a b h =
    ap (map line_text) h ∙ ap (λ l. line_text l ∷ lines_parted (after_first (λ b. b == 10) text)) (sym a) ∙ ap (λ t. line_text cut ∷ lines_parted t) (sym b)

shorter : (text cut after : List ℕ) → text ≡ cut ++ 10 ∷ after → length after < length text
shorter text cut after e =
    let n : length text ≡ length cut + length (10 ∷ after) = ap length e ∙ length-append cut (10 ∷ after) in
    omega (arith, n)

-- the first line ends at the first LF
pub first_line : (text line : List ℕ) (x : Bor (List ℕ) × Bor (List ℕ)) → IsSplitOnceResult 10 text (Some x) → line ≡ line_text x.0.now
    → (lines_parted text ≡ line ∷ lines_parted x.1.now) × (length x.1.now < length text)
first_line text line x h is =
    let f = split_once_first 10 text (Some x) h (omega arith) in
    let parts = split_parts 10 text (Some x) h (omega arith) in (
      cut_lines text x.0.now x.1.now f.1 f.2 (slice_split_first (λ b. b == 10) text 0 f.0) ∙ ap (λ l. l ∷ lines_parted x.1.now) (sym is),
      shorter text x.0.now x.1.now parts.0,
    )
