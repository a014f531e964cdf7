-- The first line of some bytes has LF at its end alone.
use Rattle.std.proofs.Common.{◌≡◌, ◌∙◌, ◌<◌, ◌≤◌, ◌+◌, ◌==◌, ℕ, zero, suc, Bool, true, false, not, cond, nat_lt, List, [], ◌∷◌, ◌++◌, length, Some, None, MatchOption, position, slice_get, refl, sym, ap, subst, arith}
use Rattle.std.specs.List.{position_or_len}
use Rattle.fed_stream.specs.Served.{IsOneLine}

-- LF
abbrev feeds : ℕ → Bool
feeds = λ byte. byte == 10

at_once : (b : Bool) (m : ℕ) → b ≡ true → cond (not b) (1 + m) 0 ≤ 0
at_once true m e = omega arith
at_once false m e = absurd cc

one_later : (b : Bool) (m k : ℕ) → m ≤ k → cond (not b) (1 + m) 0 ≤ suc k
one_later true m k le = omega (arith, le)
one_later false m k le = omega (arith, le)

-- the first one stands no further on than any
first_feed : (xs : List ℕ) (k : ℕ) → slice_get xs k ≡ Some 10 → position_or_len feeds xs ≤ k
first_feed [] k is = absurd cc
first_feed (x ∷ xs) zero is =
    let same : x ≡ 10 = cc in
    at_once (feeds x) (position_or_len feeds xs) (ap feeds same)
first_feed (x ∷ xs) (suc k) is = one_later (feeds x) (position_or_len feeds xs) k (first_feed xs k is)

get_front : (xs ys : List ℕ) (k x : ℕ) → slice_get xs k ≡ Some x → slice_get (xs ++ ys) k ≡ Some x
get_front [] ys k x is = absurd cc
get_front (z ∷ zs) ys zero x is = is
get_front (z ∷ zs) ys (suc k) x is = get_front zs ys k x is

get_within : (xs : List ℕ) (k x : ℕ) → slice_get xs k ≡ Some x → k < length xs
get_within [] k x is = absurd cc
get_within (z ∷ zs) zero x is = omega arith
get_within (z ∷ zs) (suc k) x is = let h : k < length zs = get_within zs k x is in omega (arith, h)

ends_it : (b : Bool) (m len n k : ℕ) → nat_lt m len ≡ b → MatchOption (cond b (Some m) None) (n ≡ len) (λ place. n ≡ place + 1) → m ≤ k → k < n → n ≡ suc k
ends_it true m len n k e h le lt = omega (arith, h, le, lt)
ends_it false m len n k e h le lt =
    let past : len ≤ m = grind (arith, e) in
    absurd (omega (arith, past, h, le, lt))

pub one_line : (rest part others : List ℕ) (n : ℕ) → rest ≡ part ++ others → length part ≡ n → MatchOption (position feeds rest) (n ≡ length rest) (λ place. n ≡ place + 1) → IsOneLine part
one_line rest part others n parts long h k is =
    let within : k < length part = get_within part k 10 is in
    let here : slice_get rest k ≡ Some 10 = subst (λ (xs : List ℕ). slice_get xs k ≡ Some 10) (sym parts) (get_front part others k 10 is) in
    long ∙ ends_it (nat_lt (position_or_len feeds rest) (length rest)) (position_or_len feeds rest) (length rest) n k refl h (first_feed rest k here) (subst (λ (m : ℕ). k < m) long within)
