-- A flat_map of a shuffled list.
use Rattle.std.proofs.Common.{◌≡◌, ℕ, zero, suc, ◌<◌, Bool, true, false, cond, List, [], ◌∷◌, ◌++◌, length, get_or, set, refl, sym, ap, subst, arith, IsPermutation, append_assoc}
use Rattle.std.specs.List.{flat_map, filter, swap}
use Rattle.pushdown.specs.Joins.{Each}
use Rattle.std.proofs.lemmas.List.Edits.{swap_is}
use Rattle.std.proofs.lemmas.List.Sorted.{IsPermutation-refl, IsPermutation-trans, IsPermutation-keeps, IsPermutation-append_left, IsPermutation-append_right, IsPermutation-append_comm}

pub same : {X : Type 0} (xs ys : List X) → xs ≡ ys → IsPermutation xs ys
same xs ys e = subst (λ (l : List _). IsPermutation xs l) e (IsPermutation-refl xs)

pub past : {X : Type 0} (a b c : List X) → IsPermutation (a ++ (b ++ c)) (b ++ (a ++ c))
past a b c =
    IsPermutation-trans (a ++ (b ++ c)) (a ++ b ++ c) (b ++ (a ++ c)) (same (a ++ (b ++ c)) (a ++ b ++ c) (sym (append_assoc a b c)))
    (IsPermutation-trans (a ++ b ++ c) (b ++ a ++ c) (b ++ (a ++ c)) (IsPermutation-append_left c (a ++ b) (b ++ a) (IsPermutation-append_comm a b)) (same (b ++ a ++ c) (b ++ (a ++ c)) (append_assoc b a c)))

module _ {X Y : Type 0} (f : X → List Y) where
  exchanged : (l : List X) (j : ℕ) (x d : X) → j < length l → IsPermutation (f x ++ flat_map f l) (f (get_or l j d) ++ flat_map f (set l j x))
  exchanged [] j x d p = absurd (omega arith)
  exchanged (z ∷ l) zero x d p = past (f x) (f z) (flat_map f l)
  exchanged (z ∷ l) (suc j) x d p =
      let y = get_or l j d in
      IsPermutation-trans _ (f z ++ (f x ++ flat_map f l)) _ (past (f x) (f z) (flat_map f l))
      (IsPermutation-trans _ (f z ++ (f y ++ flat_map f (set l j x))) _ (IsPermutation-append_right (f z) _ _ (exchanged l j x d (omega arith))) (past (f z) (f y) (flat_map f (set l j x))))

  swapped : (l : List X) (i j : ℕ) (d : X) → i < length l → j < length l → IsPermutation (flat_map f l) (flat_map f (set (set l i (get_or l j d)) j (get_or l i d)))
  swapped [] i j d p q = absurd (omega arith)
  swapped (x ∷ l) zero zero d p q = IsPermutation-refl _
  swapped (x ∷ l) zero (suc j) d p q = exchanged l j x d (omega arith)
  swapped (x ∷ l) (suc i) zero d p q = exchanged l i x d (omega arith)
  swapped (x ∷ l) (suc i) (suc j) d p q = IsPermutation-append_right (f x) _ _ (swapped l i j d (omega arith) (omega arith))

  swapped_plain : (l : List X) (i j : ℕ) → i < length l → j < length l → IsPermutation (flat_map f l) (flat_map f (swap l i j))
  swapped_plain [] i j p q = absurd (omega arith)
  swapped_plain (x ∷ l) i j p q = subst (λ (m : List X). IsPermutation (flat_map f (x ∷ l)) (flat_map f m)) (swap_is (x ∷ l) i j x p q) (swapped (x ∷ l) i j x p q)

  pub flat_map_shuffled : (xs ys : List X) → IsPermutation xs ys → IsPermutation (flat_map f xs) (flat_map f ys)
  flat_map_shuffled xs ys h = IsPermutation-keeps xs (λ l. IsPermutation (flat_map f xs) (flat_map f l)) (IsPermutation-refl _) (λ l i j p q k. IsPermutation-trans _ (flat_map f l) _ k (swapped_plain l i j p q)) ys h

filter_step : {X : Type 0} (b : Bool) (x : X) (k l : List X) → k ≡ l → cond b (x ∷ []) [] ++ k ≡ cond b (x ∷ l) l
filter_step true x k l e = ap (λ (l : List _). x ∷ l) e
filter_step false x k l e = e

filter_is : {X : Type 0} (p : X → Bool) (xs : List X) → flat_map (λ x. cond (p x) (x ∷ []) []) xs ≡ filter p xs
filter_is p [] = refl
filter_is p (x ∷ xs) = filter_step (p x) x _ _ (filter_is p xs)

pub filter_shuffled : {X : Type 0} (p : X → Bool) (xs ys : List X) → IsPermutation xs ys → IsPermutation (filter p xs) (filter p ys)
filter_shuffled p xs ys h = rw (← filter_is p xs, ← filter_is p ys) (flat_map_shuffled (λ x. cond (p x) (x ∷ []) []) xs ys h)

pub each_parts : {X : Type 0} (P : X → Type 0) (xs ys : List X) → Each P (xs ++ ys) → Each P xs × Each P ys
each_parts P [] ys h = (tt, h)
each_parts P (x ∷ xs) ys h = let i = each_parts P xs ys h.1 in ((h.0, i.0), i.1)

module _ {X : Type 0} (P : X → Type 0) where
  each_got : (l : List X) (j : ℕ) (d : X) → j < length l → Each P l → P (get_or l j d)
  each_got [] j d lt h = absurd (omega arith)
  each_got (x ∷ l) zero d lt h = h.0
  each_got (x ∷ l) (suc j) d lt h = each_got l j d (omega arith) h.1

  each_set : (l : List X) (j : ℕ) (x : X) → P x → Each P l → Each P (set l j x)
  each_set [] j x p h = tt
  each_set (y ∷ l) zero x p h = (p, h.1)
  each_set (y ∷ l) (suc j) x p h = (h.0, each_set l j x p h.1)

  each_swapped : (l : List X) (i j : ℕ) → i < length l → j < length l → Each P l → Each P (swap l i j)
  each_swapped [] i j p q h = absurd (omega arith)
  each_swapped (x ∷ l) i j p q h =
      subst (Each P) (swap_is (x ∷ l) i j x p q)
      (each_set (set (x ∷ l) i (get_or (x ∷ l) j x)) j (get_or (x ∷ l) i x) (each_got (x ∷ l) i x p h) (each_set (x ∷ l) i (get_or (x ∷ l) j x) (each_got (x ∷ l) j x q h) h))

  pub each_shuffled : (xs ys : List X) → IsPermutation xs ys → Each P xs → Each P ys
  each_shuffled xs ys h e = IsPermutation-keeps xs (Each P) e (λ l i j p q k. each_swapped l i j p q k) ys h
