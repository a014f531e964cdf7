-- A list that rises strictly is the only sorted list with its elements.
use Rattle.std.proofs.Common.{
  ◌≡◌,
  ◌⊎◌,
  inl,
  inr,
  ℕ,
  zero,
  suc,
  ◌+◌,
  ◌<◌,
  ◌≤◌,
  Bool,
  true,
  false,
  cond,
  List,
  [],
  ◌∷◌,
  length,
  filter,
  get_or,
  All,
  refl,
  sym,
  ap,
  subst,
  ◌∙◌,
  arith,
  add-one,
}
use Rattle.std.specs.Cmp.{IsStrictWeakOrder}
use Rattle.std.specs.List.Sorted.{IsPermutation, IsSortedBy}
use Rattle.std.proofs.lemmas.List.Sorted.{length_permutation, All-permutation, IsPermutation-sym, sorted_far}
use Rattle.sqlite_trees.specs.Tree.{IsAscending}
use Rattle.sqlite_trees.proofs.ListLemmas.{IsPermutation-filter, filter_all, all-get_or}

short : {X : Type 0} (p : X → Bool) (xs : List X) → length (filter p xs) ≤ length xs
short p [] = omega arith
short p (x ∷ xs) =
    let more = short p xs in
    elim (p x) as (λ b. length (cond b (x ∷ filter p xs) (filter p xs)) ≤ suc (length xs)) [ true ↦ omega arith | false ↦ omega arith ]

-- a filter that keeps the length keeps the list
pub kept_all : {X : Type 0} (p : X → Bool) (xs : List X) → length (filter p xs) ≡ length xs → filter p xs ≡ xs
kept_all p [] e = refl
kept_all {X} p (x ∷ xs) e = go (kept_all p xs) (p x) e
  where
    go : (length (filter p xs) ≡ length xs → filter p xs ≡ xs) → (b : Bool)
        → length (cond b (x ∷ filter p xs) (filter p xs)) ≡ suc (length xs) → cond b (x ∷ filter p xs) (filter p xs) ≡ x ∷ xs
    go more true h = ap (λ l. x ∷ l) (more (omega arith))
    go more false h = absurd (let s = short p xs in omega arith)

module _ {X : Type 0} (lt : X → X → Bool) (o : IsStrictWeakOrder lt) where
  not_below_itself : (x : X) → lt x x ≡ false
  not_below_itself x = go (lt x x) refl
    where
      go : (b : Bool) → lt x x ≡ b → lt x x ≡ false
      go true e = o.one_way x x e
      go false e = e

  abbrev pub Rises : List X → Type 0
  Rises = IsAscending (λ a b. lt a b ≡ true)

  tail_sorted : (y : X) (ys : List X) → IsSortedBy lt (y ∷ ys) → IsSortedBy lt ys
  tail_sorted y ys h k d low within = let within' : suc k + 1 < suc (length ys) = omega arith in
      rw (add-one k) (rw (add-one (suc k)) at (h (suc k) d (omega arith) within'))

  first_same : (x : X) (xs : List X) (y : X) (ys : List X) → Rises (x ∷ xs) → IsSortedBy lt (y ∷ ys) → IsPermutation (x ∷ xs) (y ∷ ys)
      → y ≡ x
  first_same x xs y ys up sorted same =
      let least : All (λ z. lt z y ≡ false) (y ∷ ys) = λ j d h. sorted_far lt o (y ∷ ys) sorted 0 j d (omega arith) h in
      let back : lt x y ≡ false = All-permutation (λ z. lt z y ≡ false) (y ∷ ys) (x ∷ xs) (IsPermutation-sym _ _ same) least 0 x
      (omega arith) in
      let from : All (λ z. (z ≡ x) ⊎ (lt x z ≡ true)) (x ∷ xs) = above in
      elim (All-permutation (λ z. (z ≡ x) ⊎ (lt x z ≡ true)) (x ∷ xs) (y ∷ ys) same from 0 y (omega arith)) [
        | inl e ↦ e
        | inr e ↦ absurd (let no = sym e ∙ back in cc)
      ]
    where
      above : All (λ z. (z ≡ x) ⊎ (lt x z ≡ true)) (x ∷ xs)
      above k d h = go k h
        where
          go : (j : ℕ) → j < suc (length xs) → (get_or (x ∷ xs) j d ≡ x) ⊎ (lt x (get_or (x ∷ xs) j d) ≡ true)
          go zero low = inl refl
          go (suc j) low = inr (all-get_or (λ z. lt x z ≡ true) xs j d up.0 (omega arith))

  pub only_sorted : (xs ys : List X) → Rises xs → IsSortedBy lt ys → IsPermutation xs ys → ys ≡ xs
  only_sorted [] [] up sorted same = refl
  only_sorted [] (y ∷ ys) up sorted same = absurd (let n = length_permutation [] (y ∷ ys) same in omega arith)
  only_sorted (x ∷ xs) [] up sorted same = absurd (let n = length_permutation (x ∷ xs) [] same in omega arith)
  only_sorted (x ∷ xs) (y ∷ ys) up sorted same =
      let head = first_same x xs y ys up sorted same in
      let moved : IsPermutation (x ∷ xs) (x ∷ ys) = subst (λ z. IsPermutation (x ∷ xs) (z ∷ ys)) head same in
      let p = λ (z : X). lt x z in
      let less : IsPermutation (filter p xs) (filter p ys) = rw (not_below_itself x) at (IsPermutation-filter p (x ∷ xs) (x ∷ ys) moved) in
      let front : filter p xs ≡ xs = filter_all p xs up.0 in
      let n = length_permutation (filter p xs) (filter p ys) less in
      let m = length_permutation (x ∷ xs) (x ∷ ys) moved in
      let front_n : length (filter p xs) ≡ length xs = ap length front in
      let back : filter p ys ≡ ys = kept_all p ys (omega arith) in
      let rest : IsPermutation xs ys = subst (λ l. IsPermutation l ys) front (subst (λ l. IsPermutation (filter p xs) l) back less) in
      rw (head, only_sorted xs ys up.1 (tail_sorted y ys sorted) rest)
