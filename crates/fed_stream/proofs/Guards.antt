-- Lemmas on guards against request lines.
use Rattle.std.proofs.Common.{◌≡◌, ◌<◌, ◌≤◌, ◌+◌, ◌⊎◌, inl, inr, ℕ, zero, suc, Bool, true, false, not, cond, ◌&&◌, ◌||◌, min, length-take-le, nat_lt, List, [], ◌∷◌, ◌++◌, length, take, drop, Option, Some, None, Result, Ok, Err, IfSome, option_map, if◌then◌else◌, refl, sym, ap, ◌∙◌, subst, take-append-drop, drop-drop, arith}
use Rattle.std.specs.List.{before_first, after_first, position_or_len, list_any, list_all}
use Rattle.std.specs.Io.KnownBytes.{Keeps, ReadConsumes, prepend_known}
use Rattle.std.proofs.Math.Seq.{take-append_seam}
use Rattle.fed_stream.specs.Guards.{admitted, begins_upper, first_line, is_feed, is_method, is_request_line, is_space, is_upper, is_version, left_at}
use Rattle.fed_stream.specs.declared.guarded.Stage.{Stage}
use Rattle.fed_stream.specs.declared.guarded.Stage.TheVariants.{Begins, Passes, Refused}

-- ---- the first line

before_one : (p : ℕ → Bool) (b : Bool) (x : ℕ) (xs : List ℕ) → p x ≡ b → before_first p (x ∷ xs) ≡ cond b [] (x ∷ before_first p xs)
before_one p true x xs e = ap (λ c. take (cond (not c) (1 + position_or_len p xs) 0) (x ∷ xs)) e
before_one p false x xs e =
    let one : 1 + position_or_len p xs ≡ suc (position_or_len p xs) = omega arith in
    ap (λ c. take (cond (not c) (1 + position_or_len p xs) 0) (x ∷ xs)) e ∙ ap (λ n. take n (x ∷ xs)) one

-- the first line does not change by what comes behind its line feed, or behind the bytes that count
pub same_line : (p : ℕ → Bool) (n : ℕ) (held rest : List ℕ) → (n ≤ length held) ⊎ (list_any p held ≡ true) → before_first p (take n (held ++ rest)) ≡ before_first p (take n held)
same_line p zero held rest h = refl
same_line p (suc n) [] rest (inl most) = absurd (omega (arith, most))
same_line p (suc n) [] rest (inr any) = absurd cc
same_line p (suc n) (x ∷ xs) rest h = split (p x) refl h (same_line p n xs rest)
  where
    split : (b : Bool) → p x ≡ b → (suc n ≤ length (x ∷ xs)) ⊎ (list_any p (x ∷ xs) ≡ true)
        → ((n ≤ length xs) ⊎ (list_any p xs ≡ true) → before_first p (take n (xs ++ rest)) ≡ before_first p (take n xs))
        → before_first p (x ∷ take n (xs ++ rest)) ≡ before_first p (x ∷ take n xs)
    split true e h more = before_one p true x _ e ∙ sym (before_one p true x _ e)
    split false e (inl most) more = before_one p false x _ e ∙ ap (λ l. x ∷ l) (more (inl (omega (arith, most)))) ∙ sym (before_one p false x _ e)
    split false e (inr any) more = before_one p false x _ e ∙ ap (λ l. x ∷ l) (more (inr (ap (λ b. b || list_any p xs) (sym e) ∙ any))) ∙ sym (before_one p false x _ e)

and_false : (b : Bool) → (b && false) ≡ false
and_false true = refl
and_false false = refl

-- what begins otherwise than with an upper-case letter is no request line
other_method : (b : Bool) (x : ℕ) (xs : List ℕ) → is_space x ≡ b → is_upper x ≡ false → is_method (before_first is_space (x ∷ xs)) ≡ false
other_method true x xs e not_so = ap is_method (before_one is_space true x xs e)
other_method false x xs e not_so =
    let others = before_first is_space xs in
    ap is_method (before_one is_space false x xs e) ∙ ap (λ c. nat_lt 0 (length (x ∷ others)) && (c && list_all is_upper others)) not_so ∙ and_false (nat_lt 0 (length (x ∷ others)))

other_line : (b : Bool) (x : ℕ) (xs : List ℕ) → is_feed x ≡ b → is_upper x ≡ false → is_request_line (before_first is_feed (x ∷ xs)) ≡ false
other_line true x xs e not_so = ap is_request_line (before_one is_feed true x xs e)
other_line false x xs e not_so =
    let line = x ∷ before_first is_feed xs in
    let rest = after_first is_space line in
    ap is_request_line (before_one is_feed false x xs e)
    ∙ ap (λ c. c && (nat_lt 0 (length (before_first is_space rest)) && is_version (after_first is_space rest))) (other_method (is_space x) x (before_first is_feed xs) refl not_so)

pub other_bytes : (bytes : List ℕ) → begins_upper bytes ≡ false → is_request_line (first_line bytes) ≡ false
other_bytes [] not_so = refl
other_bytes (x ∷ xs) not_so = other_line (is_feed x) x (take 1048576 xs) refl not_so

other_more : (held rest : List ℕ) → 0 < length held → begins_upper held ≡ false → begins_upper (held ++ rest) ≡ false
other_more [] rest some not_so = absurd (omega (arith, some))
other_more (x ∷ xs) rest some not_so = not_so

-- ---- it is shown whether the first line is a request line

abbrev IsShown : List ℕ → List ℕ → Type 0
IsShown held rest = is_request_line (first_line (held ++ rest)) ≡ is_request_line (first_line held)

whatever : (known : Option (List ℕ)) (P : List ℕ → Type 0) → ((xs : List ℕ) → P xs) → IfSome known P
whatever None P all = tt
whatever (Some xs) P all = all xs

any_behind : (p : ℕ → Bool) (held more : List ℕ) → list_any p more ≡ true → list_any p (held ++ more) ≡ true
any_behind p [] more any = any
any_behind p (x ∷ xs) more any = or_true (p x) (list_any p (xs ++ more)) (any_behind p xs more any)
  where
    or_true : (b c : Bool) → c ≡ true → (b || c) ≡ true
    or_true true c e = refl
    or_true false c e = e

pub shown_by_feed : (known : Option (List ℕ)) (held more new : List ℕ) → new ≡ held ++ more → list_any is_feed more ≡ true → IfSome known (IsShown new)
shown_by_feed known held more new e any =
    whatever known (IsShown new) (λ rest. ap is_request_line (same_line is_feed 1048577 new rest (inr (ap (list_any is_feed) e ∙ any_behind is_feed held more any))))

pub shown_by_length : (known : Option (List ℕ)) (held : List ℕ) → 1048577 ≤ length held → IfSome known (IsShown held)
shown_by_length known held most = whatever known (IsShown held) (λ rest. ap is_request_line (same_line is_feed 1048577 held rest (inl most)))

pub shown_by_first : (known : Option (List ℕ)) (held : List ℕ) → 0 < length held → begins_upper held ≡ false → IfSome known (IsShown held)
shown_by_first known held some not_so = whatever known (IsShown held) (λ rest. other_bytes (held ++ rest) (other_more held rest some not_so) ∙ sym (other_bytes held not_so))

-- ---- what a guard has left

pub begins_kept : (stage : Stage) → stage ≡ Begins → (held new : List ℕ) (given : ℕ) (a b : Option (List ℕ)) → Keeps (prepend_known held a) (prepend_known new b)
    → Keeps (option_map (left_at stage held given) a) (option_map (left_at stage new given) b)
begins_kept stage at held new given a b k =
    subst (λ s. Keeps (option_map (left_at s held given) a) (option_map (left_at s new given) b)) (sym at) (kept a b k)
  where
    kept : (a b : Option (List ℕ)) → Keeps (prepend_known held a) (prepend_known new b) → Keeps (option_map (left_at Begins held given) a) (option_map (left_at Begins new given) b)
    kept None b k = tt
    kept (Some xs) None k = absurd k
    kept (Some xs) (Some ys) k = ap admitted k

pub begins_refused : (stage : Stage) → stage ≡ Begins → (held new : List ℕ) (given : ℕ) (a b : Option (List ℕ)) → Keeps (prepend_known held a) (prepend_known new b) → IfSome b (IsShown new)
    → is_request_line (first_line new) ≡ true → Keeps (option_map (left_at stage held given) a) (option_map (left_at Refused new 0) b)
begins_refused stage at held new given a b k shown is_so =
    subst (λ s. Keeps (option_map (left_at s held given) a) (option_map (left_at Refused new 0) b)) (sym at) (kept a b k shown)
  where
    kept : (a b : Option (List ℕ)) → Keeps (prepend_known held a) (prepend_known new b) → IfSome b (IsShown new) → Keeps (option_map (left_at Begins held given) a) (option_map (left_at Refused new 0) b)
    kept None b k shown = tt
    kept (Some xs) None k shown = absurd k
    kept (Some xs) (Some ys) k shown = sym (sym (ap admitted k) ∙ ap (λ c. if c then [] else new ++ ys) (shown ∙ is_so))

pub begins_passed : (stage : Stage) → stage ≡ Begins → (held new : List ℕ) (given : ℕ) (a b : Option (List ℕ)) → Keeps (prepend_known held a) (prepend_known new b) → IfSome b (IsShown new)
    → is_request_line (first_line new) ≡ false → Keeps (option_map (left_at stage held given) a) (option_map (left_at Passes new 0) b)
begins_passed stage at held new given a b k shown not_so =
    subst (λ s. Keeps (option_map (left_at s held given) a) (option_map (left_at Passes new 0) b)) (sym at) (kept a b k shown)
  where
    kept : (a b : Option (List ℕ)) → Keeps (prepend_known held a) (prepend_known new b) → IfSome b (IsShown new) → Keeps (option_map (left_at Begins held given) a) (option_map (left_at Passes new 0) b)
    kept None b k shown = tt
    kept (Some xs) None k shown = absurd k
    kept (Some xs) (Some ys) k shown = sym (sym (ap admitted k) ∙ ap (λ c. if c then [] else new ++ ys) (shown ∙ not_so))

pub given_parts : (held rest copied piece : List ℕ) (g n m : ℕ) → rest ≡ drop g held → n ≡ min (length rest) m → copied ≡ take n rest → drop g held ≡ take n (copied ++ drop n piece) ++ drop (g + n) held
given_parts held rest copied piece g n m is few copies =
    let within : n ≤ length rest = omega (arith, few) in
    let long : length copied ≡ n = ap length copies ∙ length-take-le n rest within in
    let front : take n (copied ++ drop n piece) ≡ take n (drop g held) = ap (λ m. take m (copied ++ drop n piece)) (sym long) ∙ take-append_seam copied (drop n piece) ∙ copies ∙ ap (take n) is in
    let behind : drop n (drop g held) ≡ drop (g + n) held = grind (arith, drop-drop) in
    sym (take-append-drop n (drop g held)) ∙ ap (λ l. take n (drop g held) ++ l) behind ∙ ap (λ l. l ++ drop (g + n) held) (sym front)

pub kept_then : {E : Type 0} (a b c : Option (List ℕ)) (r : Result ℕ E) (buf : List ℕ) → Keeps a b → ReadConsumes b c r buf → ReadConsumes a c r buf
kept_then None None c r buf k reads = reads
kept_then None (Some ys) c (Ok n) buf k reads = (tt, reads.1)
kept_then None (Some ys) c (Err e) buf k reads = tt
kept_then (Some xs) None c r buf k reads = absurd k
kept_then (Some xs) (Some ys) c r buf k reads = subst (λ zs. ReadConsumes (Some zs) c r buf) k reads
