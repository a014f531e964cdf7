-- One list is another in another order, as an inductive type, and what lists of other lists make of it.
use Rattle.std.proofs.Common.{◌≡◌, ℕ, zero, suc, ◌<◌, Bool, true, false, ◌||◌, ◌&&◌, cond, List, [], ◌∷◌, ◌++◌, length, filter, map, flat_map, refl, ap, ◌∙◌, arith, get_or, set, IsPermutation}
use Rattle.std.proofs.lemmas.List.Sorted.{IsPermutation-refl, IsPermutation-trans, IsPermutation-cons, IsPermutation-keeps, IsPermutation-swap}
use Rattle.std.specs.List.{swap, list_any, list_all}
use Rattle.tri_expr.specs.Lists.{gather}

or_turned : (a b c : Bool) → (a || (b || c)) ≡ (b || (a || c))
or_turned true true c = refl
or_turned true false c = refl
or_turned false true c = refl
or_turned false false c = refl

and_turned : (a b c : Bool) → (a && (b && c)) ≡ (b && (a && c))
and_turned true true c = refl
and_turned true false c = refl
and_turned false true c = refl
and_turned false false c = refl

pub data Shuffled {X : Type 0} : List X → List X → Type 0 where
  none : Shuffled [] []
  skip : (x : X) {xs ys : List X} → Shuffled xs ys → Shuffled (x ∷ xs) (x ∷ ys)
  turn : (x y : X) (xs : List X) → Shuffled (x ∷ y ∷ xs) (y ∷ x ∷ xs)
  both : {xs ys zs : List X} → Shuffled xs ys → Shuffled ys zs → Shuffled xs zs

pub same : {X : Type 0} (xs : List X) → Shuffled xs xs
same [] = none
same (x ∷ xs) = skip x (same xs)

pub back : {X : Type 0} {xs ys : List X} → Shuffled xs ys → Shuffled ys xs
back none = none
back (skip x s) = skip x (back s)
back (turn x y xs) = turn y x xs
back (both s t) = both (back t) (back s)

-- from std's exchanges and to them
pub to_swaps : {X : Type 0} {xs ys : List X} → Shuffled xs ys → IsPermutation xs ys
to_swaps none = IsPermutation-refl []
to_swaps (skip x {xs} {ys} s) = IsPermutation-cons x xs ys (to_swaps s)
to_swaps (turn x y xs) = IsPermutation-swap (x ∷ y ∷ xs) (y ∷ x ∷ xs) 0 1 (omega arith) (omega arith) refl
to_swaps (both {xs} {ys} {zs} s t) = IsPermutation-trans xs ys zs (to_swaps s) (to_swaps t)

with_first : {X : Type 0} (x : X) (xs : List X) (j : ℕ) (d : X) → j < length xs → Shuffled (x ∷ xs) (get_or xs j d ∷ set xs j x)
with_first x [] j d lt = absurd (omega arith)
with_first x (y ∷ xs) zero d lt = turn x y xs
with_first x (y ∷ xs) (suc j) d lt = both (turn x y xs) (both (skip y (with_first x xs j d (omega arith))) (turn y (get_or xs j d) (set xs j x)))

exchanged : {X : Type 0} (xs : List X) (i j : ℕ) (d : X) → i < length xs → j < length xs → Shuffled xs (set (set xs i (get_or xs j d)) j (get_or xs i d))
exchanged [] i j d p q = none
exchanged (x ∷ xs) zero zero d p q = same (x ∷ xs)
exchanged (x ∷ xs) zero (suc j) d p q = with_first x xs j d (omega arith)
exchanged (x ∷ xs) (suc i) zero d p q = with_first x xs i d (omega arith)
exchanged (x ∷ xs) (suc i) (suc j) d p q = skip x (exchanged xs i j d (omega arith) (omega arith))

by_swap : {X : Type 0} (xs : List X) (i j : ℕ) → i < length xs → j < length xs → Shuffled xs (swap xs i j)
by_swap [] i j p q = none
by_swap (d ∷ xs) i j p q = exchanged (d ∷ xs) i j d p q

pub from_swaps : {X : Type 0} (xs ys : List X) → IsPermutation xs ys → Shuffled xs ys
from_swaps xs ys s = IsPermutation-keeps xs (λ l. Shuffled xs l) (same xs) (λ l i j p q h. both h (by_swap l i j p q)) ys s

-- what keeps it
pub mapped : {X Y : Type 0} (f : X → Y) {xs ys : List X} → Shuffled xs ys → Shuffled (map f xs) (map f ys)
mapped f none = none
mapped f (skip x s) = skip (f x) (mapped f s)
mapped f (turn x y xs) = turn (f x) (f y) (map f xs)
mapped f (both s t) = both (mapped f s) (mapped f t)

pub after : {X : Type 0} (zs : List X) {xs ys : List X} → Shuffled xs ys → Shuffled (zs ++ xs) (zs ++ ys)
after [] s = s
after (z ∷ zs) s = skip z (after zs s)

pub before : {X : Type 0} (zs : List X) {xs ys : List X} → Shuffled xs ys → Shuffled (xs ++ zs) (ys ++ zs)
before zs none = same zs
before zs (skip x s) = skip x (before zs s)
before zs (turn x y xs) = turn x y (xs ++ zs)
before zs (both s t) = both (before zs s) (before zs t)

pub joined_to : {X : Type 0} {xs ys us vs : List X} → Shuffled xs ys → Shuffled us vs → Shuffled (xs ++ us) (ys ++ vs)
joined_to {ys = ys} {us = us} s t = both (before us s) (after ys t)

passed : {X : Type 0} (x : X) (ys zs : List X) → Shuffled (x ∷ (ys ++ zs)) (ys ++ (x ∷ zs))
passed x [] zs = same (x ∷ zs)
passed x (y ∷ ys) zs = both (turn x y (ys ++ zs)) (skip y (passed x ys zs))

parts_turned : {X : Type 0} (xs ys zs : List X) → Shuffled (xs ++ (ys ++ zs)) (ys ++ (xs ++ zs))
parts_turned [] ys zs = same (ys ++ zs)
parts_turned (x ∷ xs) ys zs = both (skip x (parts_turned xs ys zs)) (passed x ys (xs ++ zs))

pub each_mapped : {X Y : Type 0} (f : X → List Y) {xs ys : List X} → Shuffled xs ys → Shuffled (flat_map f xs) (flat_map f ys)
each_mapped f none = none
each_mapped f (skip x s) = after (f x) (each_mapped f s)
each_mapped f (turn x y xs) = parts_turned (f x) (f y) (flat_map f xs)
each_mapped f (both s t) = both (each_mapped f s) (each_mapped f t)

pub within_each : {X Y : Type 0} (f g : X → List Y) → ((x : X) → Shuffled (f x) (g x)) → (xs : List X) → Shuffled (flat_map f xs) (flat_map g xs)
within_each f g h [] = none
within_each f g h (x ∷ xs) = joined_to (h x) (within_each f g h xs)

one_filtered : {X : Type 0} (b : Bool) (x : X) {xs ys : List X} → Shuffled xs ys → Shuffled (cond b (x ∷ xs) xs) (cond b (x ∷ ys) ys)
one_filtered true x s = skip x s
one_filtered false x s = s

two_filtered : {X : Type 0} (b c : Bool) (x y : X) (xs : List X) → Shuffled (cond b (x ∷ cond c (y ∷ xs) xs) (cond c (y ∷ xs) xs)) (cond c (y ∷ cond b (x ∷ xs) xs) (cond b (x ∷ xs) xs))
two_filtered true true x y xs = turn x y xs
two_filtered true false x y xs = same (x ∷ xs)
two_filtered false true x y xs = same (y ∷ xs)
two_filtered false false x y xs = same xs

pub filtered : {X : Type 0} (p : X → Bool) {xs ys : List X} → Shuffled xs ys → Shuffled (filter p xs) (filter p ys)
filtered p none = none
filtered p (skip x s) = one_filtered (p x) x (filtered p s)
filtered p (turn x y xs) = two_filtered (p x) (p y) x y (filter p xs)
filtered p (both s t) = both (filtered p s) (filtered p t)

pub as_long : {X : Type 0} {xs ys : List X} → Shuffled xs ys → length xs ≡ length ys
as_long none = refl
as_long (skip x s) = ap suc (as_long s)
as_long (turn x y xs) = refl
as_long (both s t) = as_long s ∙ as_long t

pub none_left : {X : Type 0} (xs ys : List X) → Shuffled xs ys → xs ≡ [] → ys ≡ []
none_left xs [] s e = refl
none_left xs (y ∷ ys) s e = let l = as_long s in let z = ap length e in absurd (omega arith)

pub any_kept : {X : Type 0} (p : X → Bool) {xs ys : List X} → Shuffled xs ys → list_any p xs ≡ list_any p ys
any_kept p none = refl
any_kept p (skip x s) = ap (λ b. p x || b) (any_kept p s)
any_kept p (turn x y xs) = or_turned (p x) (p y) (list_any p xs)
any_kept p (both s t) = any_kept p s ∙ any_kept p t

pub all_kept : {X : Type 0} (p : X → Bool) {xs ys : List X} → Shuffled xs ys → list_all p xs ≡ list_all p ys
all_kept p none = refl
all_kept p (skip x s) = ap (λ b. p x && b) (all_kept p s)
all_kept p (turn x y xs) = and_turned (p x) (p y) (list_all p xs)
all_kept p (both s t) = all_kept p s ∙ all_kept p t

-- a sum, a least, a greatest: by an operation of which two neighbours may change places
pub gathered : {X A : Type 0} (op : X → A → A) (start : A) → ((x y : X) (a : A) → op x (op y a) ≡ op y (op x a)) → {xs ys : List X} → Shuffled xs ys → gather op start xs ≡ gather op start ys
gathered op start h none = refl
gathered op start h (skip x s) = ap (op x) (gathered op start h s)
gathered op start h (turn x y xs) = h x y (gather op start xs)
gathered op start h (both s t) = gathered op start h s ∙ gathered op start h t
