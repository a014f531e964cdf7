-- Lists that get one more element at their end or lose one, and names that stand once.
use Rattle.std.proofs.Common.{◌≡◌, ◌≢◌, ℕ, ◌⊎◌, Bool, true, false, cond, List, [], ◌∷◌, ◌++◌, Option, Some, None, slice_get, length, refl, ap, sym, ◌∙◌, subst, zero, suc, inl, inr, arith, bytes_eq}
use Rattle.std.specs.List.{IsDistinct, AllByRecursion}
use Rattle.std.proofs.lemmas.Slice.Eq.{bytes_eq-Decides}
use Rattle.std.proofs.lemmas.Bool.{false≢true}
use Rattle.med_catalog.specs.Objects.{TableObject}
use Rattle.sql_meaning.specs.World.{beside_without}
use Rattle.med_world.specs.Engine.{IsFirst}

pub same_bytes : (a b : List ℕ) → a ≡ b → bytes_eq a b ≡ true
same_bytes a b e = (bytes_eq-Decides a b).1 e

pub bytes_same : (a b : List ℕ) → bytes_eq a b ≡ true → a ≡ b
bytes_same a b e = (bytes_eq-Decides a b).0 e

pub false_from : (b : Bool) → (b ≡ true → ⊥) → b ≡ false
false_from true h = absurd (h refl)
false_from false h = refl

pub other_bytes : (a b : List ℕ) → (a ≡ b → ⊥) → bytes_eq a b ≡ false
other_bytes a b h = false_from (bytes_eq a b) (λ t. h (bytes_same a b t))

pub bytes_other : (a b : List ℕ) → bytes_eq a b ≡ false → a ≡ b → ⊥
bytes_other a b f e = false≢true (sym f ∙ same_bytes a b e)

pub none_some : {X : Type 0} (x : X) (o : Option X) → o ≡ None → o ≡ Some x → ⊥
none_some x o a b = absurd cc

-- an element stays in its place
pub push_before : {A : Type 0} (xs : List A) (y : A) (i : ℕ) (x : A) → slice_get xs i ≡ Some x → slice_get (xs ++ y ∷ []) i ≡ Some x
push_before [] y i x h = absurd cc
push_before (z ∷ zs) y zero x h = h
push_before (z ∷ zs) y (suc i) x h = push_before zs y i x h

-- the new one is last
pub push_last : {A : Type 0} (xs : List A) (y : A) → slice_get (xs ++ y ∷ []) (length xs) ≡ Some y
push_last [] y = refl
push_last (z ∷ zs) y = push_last zs y

-- an element was there, or is the new one
pub push_cases : {A : Type 0} (xs : List A) (y : A) (i : ℕ) (x : A) → slice_get (xs ++ y ∷ []) i ≡ Some x → (slice_get xs i ≡ Some x) ⊎ ((i ≡ length xs) × (y ≡ x))
push_cases [] y zero x h = inr (refl, cc)
push_cases [] y (suc i) x h = absurd cc
push_cases (z ∷ zs) y zero x h = inl h
push_cases (z ∷ zs) y (suc i) x h =
    let r = push_cases zs y i x h in
    elim r as (λ _. (slice_get zs i ≡ Some x) ⊎ ((suc i ≡ suc (length zs)) × (y ≡ x))) [ inl p ↦ inl p | inr p ↦ inr (ap suc p.0, p.1) ]

pub each_at : {A : Type 0} (P : A → Type 0) (xs : List A) (i : ℕ) (x : A) → AllByRecursion P xs → slice_get xs i ≡ Some x → P x
each_at P [] i x h at = absurd cc
each_at P (y ∷ ys) zero x h at =
    let e : y ≡ x = cc in
    subst P e h.0
each_at P (y ∷ ys) (suc i) x h at = each_at P ys i x h.1 at

-- of names that stand once, two places of a name are one
pub one_place : (names : List (List ℕ)) (name : List ℕ) (i j : ℕ) → IsDistinct bytes_eq names → slice_get names i ≡ Some name → slice_get names j ≡ Some name → i ≡ j
unfolding IsDistinct
one_place [] name i j h at_i at_j = absurd cc
one_place (n ∷ ns) name zero zero h at_i at_j = refl
one_place (n ∷ ns) name zero (suc j) h at_i at_j =
    let e : n ≡ name = cc in
    absurd (bytes_other n name (each_at (λ y. bytes_eq n y ≡ false) ns j name h.0 at_j) e)
one_place (n ∷ ns) name (suc i) zero h at_i at_j =
    let e : n ≡ name = cc in
    absurd (bytes_other n name (each_at (λ y. bytes_eq n y ≡ false) ns i name h.0 at_i) e)
one_place (n ∷ ns) name (suc i) (suc j) h at_i at_j = ap suc (one_place ns name i j h.1 at_i at_j)

pub zero≢suc : (n : ℕ) → zero ≡ suc n → ⊥
zero≢suc n e = absurd cc

suc≢zero : (n : ℕ) → suc n ≡ zero → ⊥
suc≢zero n e = absurd cc

suc_same : (i k : ℕ) → suc i ≡ suc k → i ≡ k
suc_same i k e = omega arith

-- what is left where the first table of a name goes stood in another place
pub left_was : {X : Type 0} (name : List ℕ) (tables : List TableObject) (xs : List X) (k : ℕ) → IsFirst name tables k
    → (j : ℕ) (x : X) → slice_get (beside_without name tables xs) j ≡ Some x → (i : ℕ) × (slice_get xs i ≡ Some x) × (i ≢ k)
left_was name [] xs k first j x at = absurd first
left_was name (t ∷ ts) [] k first j x at = absurd cc
left_was name (t ∷ ts) (y ∷ ys) zero first j x at =
    let same : slice_get (cond true ys (y ∷ beside_without name ts ys)) j ≡ Some x = subst (λ b. slice_get (cond b ys (y ∷ beside_without name ts ys)) j ≡ Some x) first at in
    (suc j, same, suc≢zero j)
left_was {X} name (t ∷ ts) (y ∷ ys) (suc k) first j x at = here j (left_was name ts ys k first.1) (subst (λ b. slice_get (cond b ys (y ∷ beside_without name ts ys)) j ≡ Some x) first.0 at)
  where
    Was : ℕ → Type 0
    Was j = (x : X) → slice_get (beside_without name ts ys) j ≡ Some x → (i : ℕ) × (slice_get ys i ≡ Some x) × (i ≢ k)

    here : (j : ℕ) → ((n : ℕ) → Was n) → slice_get (y ∷ beside_without name ts ys) j ≡ Some x → (i : ℕ) × (slice_get (y ∷ ys) i ≡ Some x) × (i ≢ suc k)
    here zero rest h = (zero, h, zero≢suc k)
    here (suc j) rest h = let r = rest j x h in (suc r.0, r.1, λ e. r.2 (suc_same r.0 k e))

-- an element is not past the end
pub past : {X : Type 0} (xs : List X) (k : ℕ) (x : X) → slice_get xs k ≡ Some x → k ≡ length xs → ⊥
past [] k x at e = absurd cc
past (y ∷ ys) zero x at e = (let q : zero ≡ suc (length ys) = e in zero≢suc (length ys) q)
past (y ∷ ys) (suc k) x at e = past ys k x at (suc_same k (length ys) e)
