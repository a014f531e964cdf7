-- Lists of which each element stands so to the one in its place.
use Rattle.std.proofs.Common.{◌≡◌, Bool, true, false, cond, List, [], ◌∷◌, ◌++◌, map, filter, flat_map, length, suc, refl, ap, subst}
use Rattle.tri_expr.proofs.Forms.{two}
use Rattle.pushdown.specs.Columns.{Pairwise}

-- what takes such elements as one gives the same of both lists
pub same_map : {X Y : Type 0} (R : X → X → Type 0) (f : X → Y) → ((x y : X) → R x y → f x ≡ f y) → (xs ys : List X) → Pairwise R xs ys → map f xs ≡ map f ys
same_map R f e [] [] h = refl
same_map R f e [] (y ∷ ys) h = absurd h
same_map R f e (x ∷ xs) [] h = absurd h
same_map R f e (x ∷ xs) (y ∷ ys) h = two (λ (v : _) (vs : List _). v ∷ vs) (e x y h.0) (same_map R f e xs ys h.1)

pub same_flat : {X Y : Type 0} (R : X → X → Type 0) (f : X → List Y) → ((x y : X) → R x y → f x ≡ f y) → (xs ys : List X) → Pairwise R xs ys → flat_map f xs ≡ flat_map f ys
same_flat R f e [] [] h = refl
same_flat R f e [] (y ∷ ys) h = absurd h
same_flat R f e (x ∷ xs) [] h = absurd h
same_flat R f e (x ∷ xs) (y ∷ ys) h = two (λ (v vs : List _). v ++ vs) (e x y h.0) (same_flat R f e xs ys h.1)

pub same_length : {X : Type 0} (R : X → X → Type 0) (xs ys : List X) → Pairwise R xs ys → length xs ≡ length ys
same_length R [] [] h = refl
same_length R [] (y ∷ ys) h = absurd h
same_length R (x ∷ xs) [] h = absurd h
same_length R (x ∷ xs) (y ∷ ys) h = ap suc (same_length R xs ys h.1)

-- of two that are kept or left out together
kept_pair : {X : Type 0} (R : X → X → Type 0) (x y : X) (xs ys : List X) → R x y → Pairwise R xs ys → (b : Bool) → Pairwise R (cond b (x ∷ xs) xs) (cond b (y ∷ ys) ys)
kept_pair R x y xs ys h i true = (h, i)
kept_pair R x y xs ys h i false = i

pub pair_filter : {X : Type 0} (R : X → X → Type 0) (p : X → Bool) → ((x y : X) → R x y → p x ≡ p y) → (xs ys : List X) → Pairwise R xs ys → Pairwise R (filter p xs) (filter p ys)
pair_filter R p e [] [] h = tt
pair_filter R p e [] (y ∷ ys) h = absurd h
pair_filter R p e (x ∷ xs) [] h = absurd h
pair_filter R p e (x ∷ xs) (y ∷ ys) h =
    let i = kept_pair R x y (filter p xs) (filter p ys) h.0 (pair_filter R p e xs ys h.1) (p x) in
    subst (λ (b : Bool). Pairwise R (cond (p x) (x ∷ filter p xs) (filter p xs)) (cond b (y ∷ filter p ys) (filter p ys))) (e x y h.0) i

-- elements that stand so to one another are made others that do
pub pair_map : {X Y : Type 0} (R : X → X → Type 0) (S : Y → Y → Type 0) (f : X → Y) → ((x y : X) → R x y → S (f x) (f y)) → (xs ys : List X) → Pairwise R xs ys → Pairwise S (map f xs) (map f ys)
pair_map R S f e [] [] h = tt
pair_map R S f e [] (y ∷ ys) h = absurd h
pair_map R S f e (x ∷ xs) [] h = absurd h
pair_map R S f e (x ∷ xs) (y ∷ ys) h = (e x y h.0, pair_map R S f e xs ys h.1)

-- the same elements made two others each
pub pair_both : {X Y : Type 0} (S : Y → Y → Type 0) (f g : X → Y) → ((x : X) → S (f x) (g x)) → (xs : List X) → Pairwise S (map f xs) (map g xs)
pair_both S f g e [] = tt
pair_both S f g e (x ∷ xs) = (e x, pair_both S f g e xs)

-- two relations at once
pub pair_and : {X : Type 0} (R S : X → X → Type 0) (xs ys : List X) → Pairwise R xs ys → Pairwise S xs ys → Pairwise (λ x y. R x y × S x y) xs ys
pair_and R S [] [] h i = tt
pair_and R S [] (y ∷ ys) h i = absurd h
pair_and R S (x ∷ xs) [] h i = absurd h
pair_and R S (x ∷ xs) (y ∷ ys) h i = ((h.0, i.0), pair_and R S xs ys h.1 i.1)

-- of two relations the other one alone
pub pair_second : {X : Type 0} (R S : X → X → Type 0) (xs ys : List X) → Pairwise (λ x y. R x y × S x y) xs ys → Pairwise S xs ys
pair_second R S [] [] h = tt
pair_second R S [] (y ∷ ys) h = absurd h
pair_second R S (x ∷ xs) [] h = absurd h
pair_second R S (x ∷ xs) (y ∷ ys) h = (h.0.1, pair_second R S xs ys h.1)
