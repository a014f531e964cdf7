-- So many elements of a list, from a place on: the entries of one core among those of all.
use Rattle.std.proofs.Common.{◌≡◌, ℕ, zero, suc, ◌+◌, ◌<◌, ◌≤◌, List, [], ◌∷◌, map, length, get_or, take, drop, refl, sym, ap, ◌∙◌, arith, drop-cons, add-one}
use Rattle.std.specs.List.{range_with_len}

abbrev pub stretch : {X : Type 0} → List X → ℕ → ℕ → List X
stretch xs first n = take n (drop first xs)

none_taken : {X : Type 0} (n : ℕ) → take {A = X} n [] ≡ []
none_taken zero = refl
none_taken (suc n) = refl

none_dropped : {X : Type 0} (n : ℕ) → drop {A = X} n [] ≡ []
none_dropped zero = refl
none_dropped (suc n) = refl

-- the elements at so many places one after another
pub picked : {X : Type 0} (xs : List X) (d : X) (first n : ℕ) → first + n ≤ length xs → map (λ (k : ℕ). get_or xs k d) (range_with_len first n) ≡ stretch xs first n
picked xs d first zero h = refl
picked xs d first (suc n) h =
    let lt : first < length xs = omega (arith, h) in
    ap (λ (ys : List _). get_or xs first d ∷ ys) (ap (λ (m : ℕ). map (λ (k : ℕ). get_or xs k d) (range_with_len m n)) (add-one first) ∙ picked xs d (suc first) n (omega (arith, h)))
    ∙ sym (ap (take (suc n)) (drop-cons xs first d lt))

pub length_stretch : {X : Type 0} (xs : List X) (first n : ℕ) → first + n ≤ length xs → length (stretch xs first n) ≡ n
length_stretch xs zero zero h = refl
length_stretch [] zero (suc n) h = absurd (omega (arith, h))
length_stretch (x ∷ xs) zero (suc n) h = ap suc (length_stretch xs zero n (omega (arith, h)))
length_stretch [] (suc first) zero h = refl
length_stretch [] (suc first) (suc n) h = absurd (omega (arith, h))
length_stretch (x ∷ xs) (suc first) n h = length_stretch xs first n (omega (arith, h))

at_taken : {X : Type 0} (xs : List X) (d : X) (n k : ℕ) → k < n → get_or (take n xs) k d ≡ get_or xs k d
at_taken xs d zero k h = absurd (omega (arith, h))
at_taken [] d (suc n) k h = refl
at_taken (x ∷ xs) d (suc n) zero h = refl
at_taken (x ∷ xs) d (suc n) (suc k) h = at_taken xs d n k (omega (arith, h))

pub at_stretch : {X : Type 0} (xs : List X) (d : X) (first n k : ℕ) → k < n → get_or (stretch xs first n) k d ≡ get_or xs (first + k) d
at_stretch xs d zero n k h = at_taken xs d n k h ∙ (let e : k ≡ 0 + k = omega arith in ap (λ (m : ℕ). get_or xs m d) e)
at_stretch [] d (suc first) n k h = ap (λ (ys : List _). get_or ys k d) (none_taken n)
at_stretch (x ∷ xs) d (suc first) n k h = at_stretch xs d first n k h ∙ (let e : suc (first + k) ≡ suc first + k = omega arith in ap (λ (m : ℕ). get_or (x ∷ xs) m d) e)

-- a stretch of a stretch
front_stretch : {X : Type 0} (xs : List X) (n a m : ℕ) → a + m ≤ n → stretch (take n xs) a m ≡ stretch xs a m
front_stretch [] n a m h = ap (λ (ys : List _). stretch ys a m) (none_taken n)
front_stretch (x ∷ xs) zero zero zero h = refl
front_stretch (x ∷ xs) zero zero (suc m) h = absurd (omega (arith, h))
front_stretch (x ∷ xs) zero (suc a) m h = absurd (omega (arith, h))
front_stretch (x ∷ xs) (suc n) zero zero h = refl
front_stretch (x ∷ xs) (suc n) zero (suc m) h = ap (λ (ys : List _). x ∷ ys) (front_stretch xs n zero m (omega (arith, h)))
front_stretch (x ∷ xs) (suc n) (suc a) m h = front_stretch xs n a m (omega (arith, h))

pub inner_stretch : {X : Type 0} (xs : List X) (first n a m : ℕ) → a + m ≤ n → stretch (stretch xs first n) a m ≡ stretch xs (first + a) m
inner_stretch xs zero n a m h = front_stretch xs n a m h ∙ (let e : a ≡ 0 + a = omega arith in ap (λ (k : ℕ). stretch xs k m) e)
inner_stretch [] (suc first) n a m h = ap (λ (ys : List _). stretch ys a m) (none_taken n) ∙ ap (take m) (none_dropped a ∙ sym (none_dropped (suc first + a)))
inner_stretch (x ∷ xs) (suc first) n a m h = inner_stretch xs first n a m h ∙ (let e : suc (first + a) ≡ suc first + a = omega arith in ap (λ (k : ℕ). stretch (x ∷ xs) k m) e)

pub map_stretch : {X Y : Type 0} (f : X → Y) (xs : List X) (first n : ℕ) → map f (stretch xs first n) ≡ stretch (map f xs) first n
map_stretch f xs zero zero = refl
map_stretch f [] zero (suc n) = refl
map_stretch f (x ∷ xs) zero (suc n) = ap (λ (ys : List _). f x ∷ ys) (map_stretch f xs zero n)
map_stretch f [] (suc first) zero = refl
map_stretch f [] (suc first) (suc n) = refl
map_stretch f (x ∷ xs) (suc first) n = map_stretch f xs first n
