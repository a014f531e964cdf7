-- Ranges of the bytes of lines that stand one below the other.
use Rattle.std.proofs.Common.{◌≡◌, ℕ, ◌+◌, ◌-◌, ◌<◌, ◌≤◌, ◌^◌, Bool, true, false, ◌&&◌, List, [], ◌∷◌, ◌++◌, length, map, take, drop, get_or, nat_le, nat_lt, zero, suc, refl, sym, ap, ◌∙◌, arith}
use Rattle.std.specs.List.{list_all, slice_range}
use Rattle.std.proofs.lemmas.Bool.{le-leb, leb-true, ltb-true, lt-ltb}
use Rattle.std.proofs.lemmas.List.{length-append, length-take-le, length-drop, length-map, get_or-drop, get_or-map, take_more, take_at, drop_at, take_all, drop-drop, drop-take, take-take, take-append-drop}
use Rattle.jsonl_wrapper.specs.declared.lines.Span.{Span}
use Rattle.jsonl_wrapper.specs.Lines.{text_of, line_at, lines_at, spans_from, moved, is_movable, IsImage}
use Rattle.jsonl_wrapper.proofs.LineLaws.{text_both, text_size, places_both, image_with}

pub zero_more : (n : ℕ) → 0 + n ≡ n
zero_more n = omega arith

both : (a b : Bool) → (a && b) ≡ true → (a ≡ true) × (b ≡ true)
both true b e = (refl, e)
both false b e = absurd cc

-- so many places as lines, each as far behind the first as the lines before it are long
pub places_count : (at : ℕ) (ls : List (List ℕ)) → length (spans_from at ls) ≡ length ls
places_count at [] = refl
places_count at (l ∷ ls) = ap suc (places_count (at + length l + 1) ls)

place_there : (n at : ℕ) (ls : List (List ℕ)) (d : Span) → at < length ls → (get_or (spans_from n ls) at d).start ≡ n + length (text_of (take at ls))
place_there n at [] d lt = absurd (omega arith)
place_there n zero (l ∷ ls) d lt = omega arith
place_there n (suc at) (l ∷ ls) d lt = let size = text_size l (take at ls) in let on = place_there (n + length l + 1) at ls d (omega arith) in on ∙ omega arith

pub starts : (content : List ℕ) (spans : List Span) (lines : List (List ℕ)) (at : ℕ) (d span : Span) → IsImage content spans lines → at < length spans
    → span ≡ get_or spans at d → span.start ≡ length (text_of (take at lines))
starts content spans lines at d span is lt e =
    let count = ap length is.places ∙ places_count 0 lines in
    ap (λ (s : Span). s.start) (e ∙ ap (λ (ss : List Span). get_or ss at d) is.places) ∙ place_there 0 at lines d (omega arith) ∙ omega arith

pub ends : (content : List ℕ) (spans : List Span) (lines : List (List ℕ)) (at : ℕ) → IsImage content spans lines → length spans ≤ at
    → length content ≡ length (text_of (take at lines))
ends content spans lines at is le =
    let count = ap length is.places ∙ places_count 0 lines in
    ap length is.text ∙ ap (λ (ls : List (List ℕ)). length (text_of ls)) (sym (take_all at lines (omega arith)))

-- places that are moved
may_move : (from to : ℕ) (span : Span) (rest : List Span) → list_all (is_movable from to) (span ∷ rest) ≡ true
    → (from ≤ span.start) × (from ≤ span.end) × (span.start - from + to < 2 ^ 64) × (span.end - from + to < 2 ^ 64) × (list_all (is_movable from to) rest ≡ true)
may_move from to span rest e =
    let all = both (is_movable from to span) (list_all (is_movable from to) rest) e in
    let a = both (nat_le from span.start) (nat_le from span.end && (nat_lt (span.start - from + to) (2 ^ 64) && nat_lt (span.end - from + to) (2 ^ 64))) all.0 in
    let b = both (nat_le from span.end) (nat_lt (span.start - from + to) (2 ^ 64) && nat_lt (span.end - from + to) (2 ^ 64)) a.1 in
    let c = both (nat_lt (span.start - from + to) (2 ^ 64)) (nat_lt (span.end - from + to) (2 ^ 64)) b.1 in
    (leb-true from span.start a.0, leb-true from span.end b.0, ltb-true (span.start - from + to) (2 ^ 64) c.0, ltb-true (span.end - from + to) (2 ^ 64) c.1, all.1)

stays : (at : ℕ) (spans : List Span) → list_all (is_movable at at) spans ≡ true → map (moved at at) spans ≡ spans
stays at [] e = refl
stays at (s ∷ spans) e =
    let m = may_move at at s spans e in
    let same : moved at at s ≡ s = (let a : s.start - at + at ≡ s.start = omega arith in let b : s.end - at + at ≡ s.end = omega arith in
    ap (λ (n : ℕ). record { start = n; end = s.end - at + at }) a ∙ ap (λ (n : ℕ). record { start = s.start; end = n }) b) in
    ap (λ (x : Span). x ∷ map (moved at at) spans) same ∙ ap (λ (xs : List Span). s ∷ xs) (stays at spans m.4)

pub stays_at : (from to : ℕ) (spans : List Span) → from ≡ to → list_all (is_movable from to) spans ≡ true → map (moved from to) spans ≡ spans
stays_at from to spans same e = sym (ap (λ (n : ℕ). map (moved from n) spans) same) ∙ stays from spans (ap (λ (n : ℕ). list_all (is_movable from n) spans) same ∙ e)

-- lines whose text has room behind a place can be moved there
pub movable : (from to n : ℕ) (ls : List (List ℕ)) → from ≤ n → n - from + to + length (text_of ls) < 2 ^ 64 → list_all (is_movable from to) (spans_from n ls) ≡ true
movable from to n [] le lt = refl
movable from to n (l ∷ ls) le lt =
    let size = text_size l ls in
    let a : nat_le from n ≡ true = le-leb from n le in
    let b : nat_le from (n + length l) ≡ true = le-leb from (n + length l) (omega arith) in
    let c : nat_lt (n - from + to) (2 ^ 64) ≡ true = lt-ltb (n - from + to) (2 ^ 64) (omega arith) in
    let d : nat_lt (n + length l - from + to) (2 ^ 64) ≡ true = lt-ltb (n + length l - from + to) (2 ^ 64) (omega arith) in
    rw (a, b, c, d) (movable from to (n + length l + 1) ls (omega arith) (omega arith))

pub moves : (from to n : ℕ) (ls : List (List ℕ)) → from ≤ n → map (moved from to) (spans_from n ls) ≡ spans_from (n - from + to) ls
moves from to n [] le = refl
moves from to n (l ∷ ls) le =
    let a : n + length l - from + to ≡ n - from + to + length l = omega arith in
    let b : n + length l + 1 - from + to ≡ n - from + to + length l + 1 = omega arith in
    ap (λ (e : ℕ). record { start = n - from + to; end = e } ∷ map (moved from to) (spans_from (n + length l + 1) ls)) a
    ∙ ap (λ (ss : List Span). record { start = n - from + to; end = n - from + to + length l } ∷ ss)
    (moves from to (n + length l + 1) ls (omega arith) ∙ ap (λ (k : ℕ). spans_from k ls) b)

-- a list, cut at two places
pub upto_both : {X : Type 0} (xs : List X) (from to : ℕ) → from ≤ to → take to xs ≡ take from xs ++ slice_range xs from to
upto_both {X} xs from to le =
    let m = to - from in
    let e : to ≡ from + m = omega arith in
    let front : take from (take (from + m) xs) ≡ take from xs = take-take from (from + m) xs (omega arith) in
    ap (λ (n : ℕ). take n xs) e ∙ sym (take-append-drop from (take (from + m) xs))
    ∙ ap (λ (ys : List X). ys ++ drop from (take (from + m) xs)) front ∙ ap (λ (ys : List X). take from xs ++ ys) (drop-take from m xs)

three_parts : {X : Type 0} (xs : List X) (from to : ℕ) → from ≤ to → xs ≡ take from xs ++ (slice_range xs from to ++ drop to xs)
three_parts {X} xs from to le =
    let m = to - from in
    let e : from + m ≡ to = omega arith in
    let rest : drop from xs ≡ slice_range xs from to ++ drop to xs =
    sym (take-append-drop m (drop from xs)) ∙ ap (λ (ys : List X). take m (drop from xs) ++ ys) (drop-drop m from xs ∙ ap (λ (n : ℕ). drop n xs) e) in
    sym (take-append-drop from xs) ∙ ap (λ (ys : List X). take from xs ++ ys) rest

range_length : {X : Type 0} (xs : List X) (from to : ℕ) → from ≤ to → to ≤ length xs → length (slice_range xs from to) ≡ to - from
range_length xs from to le lt =
    let m = to - from in
    length-take-le m (drop from xs) (let d = length-drop from xs in omega arith)

-- some of the lines: their bytes are one range, and so are their places
pub range_of_bytes : (content : List ℕ) (spans : List Span) (lines : List (List ℕ)) (from to first end : ℕ) → IsImage content spans lines → from ≤ to
    → first ≡ length (text_of (take from lines)) → end ≡ length (text_of (take to lines))
    → (slice_range content first end ≡ text_of (slice_range lines from to)) × (first + length (text_of (slice_range lines from to)) ≡ end) × (end ≤ length content)
range_of_bytes content spans lines from to first end is le ef et =
    let a = take from lines in
    let run = slice_range lines from to in
    let b = drop to lines in
    let text : content ≡ text_of a ++ (text_of run ++ text_of b) =
    is.text ∙ ap text_of (three_parts lines from to le) ∙ text_both a (run ++ b) ∙ ap (λ (bytes : List ℕ). text_of a ++ bytes) (text_both run b) in
    let x = ap (λ (ls : List (List ℕ)). length (text_of ls)) (upto_both lines from to le) in
    let y = ap length (text_both a run) in
    let z = length-append (text_of a) (text_of run) in
    let size : first + length (text_of run) ≡ end = omega arith in
    let wide : end - first ≡ length (text_of run) = omega arith in (
      ap (λ (bytes : List ℕ). slice_range bytes first end) text ∙ ap (λ (n : ℕ). take n (drop first (text_of a ++ (text_of run ++ text_of b)))) wide
          ∙ ap (take (length (text_of run))) (drop_at (text_of a) (text_of run ++ text_of b) first (sym ef)) ∙ take_at (text_of run) (text_of b) (length (text_of run)) refl,
      size,
      (let p = ap length text in let q = length-append (text_of a) (text_of run ++ text_of b) in let r = length-append (text_of run) (text_of b) in omega arith),
    )

pub range_of_places : (content : List ℕ) (spans : List Span) (lines : List (List ℕ)) (from to first : ℕ) → IsImage content spans lines → from ≤ to → to ≤ length spans
    → first ≡ length (text_of (take from lines)) → slice_range spans from to ≡ spans_from first (slice_range lines from to)
range_of_places content spans lines from to first is le lt ef =
    let a = take from lines in
    let run = slice_range lines from to in
    let b = drop to lines in
    let n = length (text_of a) in
    let count = ap length is.places ∙ places_count 0 lines in
    let cut : spans ≡ spans_from 0 a ++ (spans_from n run ++ spans_from (n + length (text_of run)) b) =
    is.places ∙ ap (spans_from 0) (three_parts lines from to le) ∙ places_both 0 a (run ++ b)
    ∙ ap (λ (k : ℕ). spans_from 0 a ++ spans_from k (run ++ b)) (zero_more n) ∙ ap (λ (ss : List Span). spans_from 0 a ++ ss) (places_both n run b) in
    let before : length (spans_from 0 a) ≡ from = places_count 0 a ∙ length-take-le from lines (omega arith) in
    let wide : length (spans_from n run) ≡ to - from = places_count n run ∙ range_length lines from to le (omega arith) in
    ap (λ (ss : List Span). slice_range ss from to) cut
    ∙ ap (take (to - from)) (drop_at (spans_from 0 a) (spans_from n run ++ spans_from (n + length (text_of run)) b) from before)
    ∙ take_at (spans_from n run) (spans_from (n + length (text_of run)) b) (to - from) wide ∙ ap (λ (k : ℕ). spans_from k run) (sym ef)

-- they can be moved behind bytes for which there is room, and then follow them
pub range_moves : (first base size : ℕ) (spans : List Span) (run : List (List ℕ)) → spans ≡ spans_from first run → size ≡ base + length (text_of run) → size < 2 ^ 64
    → (list_all (is_movable first base) spans ≡ true) × (map (moved first base) spans ≡ spans_from base run)
range_moves first base size spans run es e lt =
    let none : first - first + base ≡ base = omega arith in (
      ap (list_all (is_movable first base)) es ∙ movable first base first run (omega arith) (omega arith),
      ap (map (moved first base)) es ∙ moves first base first run (omega arith) ∙ ap (λ (k : ℕ). spans_from k run) none,
    )

pub range_follows : (content bytes : List ℕ) (spans moves : List Span) (next : List ℕ) (after : List Span) (lines run : List (List ℕ))
    → next ≡ content ++ bytes → bytes ≡ text_of run → after ≡ spans ++ moves → moves ≡ spans_from (length content) run
    → IsImage content spans lines → IsImage next after (lines ++ run)
range_follows content bytes spans moves next after lines run en eb ea em is =
    image_with content spans lines next after run is (en ∙ ap (λ (bs : List ℕ). content ++ bs) eb) (ea ∙ ap (λ (ss : List Span). spans ++ ss) em)

-- one of the lines more
pub one_of_range : (content : List ℕ) (spans : List Span) (from at : ℕ) (d span : Span) → from ≤ at → at < length spans → span ≡ get_or spans at d
    → slice_range (lines_at content spans) from (at + 1) ≡ slice_range (lines_at content spans) from at ++ line_at content span ∷ []
one_of_range content spans from at d span le lt e =
    let lines = lines_at content spans in
    let count : length lines ≡ length spans = length-map spans (line_at content) in
    let rest = length-drop from lines in
    let more : at + 1 - from ≡ at - from + 1 = omega arith in
    let there : from + (at - from) ≡ at = omega arith in
    ap (λ (n : ℕ). take n (drop from lines)) more ∙ take_more (drop from lines) (at - from) (line_at content d) (omega arith)
    ∙ ap (λ (l : List ℕ). slice_range lines from at ++ l ∷ [])
    (get_or-drop from lines (at - from) (line_at content d) ∙ ap (λ (n : ℕ). get_or lines n (line_at content d)) there
    ∙ get_or-map (line_at content) spans at d (line_at content d) lt ∙ ap (line_at content) (sym e))
