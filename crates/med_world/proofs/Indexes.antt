-- Where the elements of a list stood before the one of a name went.
use Rattle.std.proofs.Common.{◌≡◌, ◌≢◌, ℕ, Bool, true, false, cond, List, [], ◌∷◌, slice_get, length, refl, ap, ◌∙◌, zero, suc, arith, bytes_eq}
use Rattle.med_catalog.specs.Prelude.{TableObject, without}
use Rattle.sql_meaning.specs.World.{beside_without}
use Rattle.med_world.specs.Engine.{IsFirst}

-- where the element in place j stood, before the one in place k went
pub was_index : ℕ → ℕ → ℕ
was_index zero j = suc j
was_index (suc k) zero = zero
was_index (suc k) (suc j) = suc (was_index k j)

suc_same : (i k : ℕ) → suc i ≡ suc k → i ≡ k
suc_same i k e = omega arith

pub was_once : (k i j : ℕ) → was_index k i ≡ was_index k j → i ≡ j
unfolding was_index
was_once zero i j e = suc_same i j e
was_once (suc k) zero zero e = refl
was_once (suc k) zero (suc j) e = absurd (omega arith)
was_once (suc k) (suc i) zero e = absurd (omega arith)
was_once (suc k) (suc i) (suc j) e = ap suc (was_once k i j (suc_same (was_index k i) (was_index k j) e))

pub was_other : (k j : ℕ) → was_index k j ≢ k
unfolding was_index
was_other zero j = λ e. (let q : suc j ≡ zero = e in omega arith)
was_other (suc k) zero = λ e. (let q : zero ≡ suc k = e in omega arith)
was_other (suc k) (suc j) = λ e. was_other k j (suc_same (was_index k j) k e)

-- each other place is that of an element that is left
pub was_some : (k i : ℕ) → i ≢ k → (j : ℕ) × (was_index k j ≡ i)
unfolding was_index
was_some zero zero ne = absurd (ne refl)
was_some zero (suc i) ne = (i, refl)
was_some (suc k) zero ne = (zero, refl)
was_some (suc k) (suc i) ne = let r = was_some k i (λ e. ne (ap suc e)) in (suc r.0, ap suc r.1)

pub left_at : {X : Type 0} (name : List ℕ) (tables : List TableObject) (xs : List X) (k : ℕ) → IsFirst name tables k → (j : ℕ) → slice_get (beside_without name tables xs) j ≡ slice_get xs (was_index k j)
unfolding was_index
left_at name [] xs k first j = absurd first
left_at name (t ∷ ts) [] k first j = refl
left_at name (t ∷ ts) (x ∷ xs) zero first j = ap (λ b. slice_get (cond b xs (x ∷ beside_without name ts xs)) j) first
left_at name (t ∷ ts) (x ∷ xs) (suc k) first zero = ap (λ b. slice_get (cond b xs (x ∷ beside_without name ts xs)) zero) first.0
left_at name (t ∷ ts) (x ∷ xs) (suc k) first (suc j) = ap (λ b. slice_get (cond b xs (x ∷ beside_without name ts xs)) (suc j)) first.0 ∙ left_at name ts xs k first.1 j

abbrev pub has_name : List ℕ → TableObject → Bool
has_name name t = bytes_eq name t.name

pub tables_left : (name : List ℕ) (tables : List TableObject) (k : ℕ) → IsFirst name tables k → (j : ℕ) → slice_get (without (has_name name) tables) j ≡ slice_get tables (was_index k j)
unfolding was_index
tables_left name [] k first j = absurd first
tables_left name (t ∷ ts) zero first j = ap (λ b. slice_get (cond b ts (t ∷ without (has_name name) ts)) j) first
tables_left name (t ∷ ts) (suc k) first zero = ap (λ b. slice_get (cond b ts (t ∷ without (has_name name) ts)) zero) first.0
tables_left name (t ∷ ts) (suc k) first (suc j) = ap (λ b. slice_get (cond b ts (t ∷ without (has_name name) ts)) (suc j)) first.0 ∙ tables_left name ts k first.1 j

-- as many are left on both sides
pub as_many_left : {X : Type 0} (name : List ℕ) (tables : List TableObject) (xs : List X) → length xs ≡ length tables → length (beside_without name tables xs) ≡ length (without (has_name name) tables)
as_many_left name [] [] e = refl
as_many_left name [] (x ∷ xs) e = absurd (omega arith)
as_many_left name (t ∷ ts) [] e = absurd (omega arith)
as_many_left name (t ∷ ts) (x ∷ xs) e = split (bytes_eq name t.name) (as_many_left name ts xs (suc_same (length xs) (length ts) e))
  where
    split : (b : Bool) → length (beside_without name ts xs) ≡ length (without (has_name name) ts) → length (cond b xs (x ∷ beside_without name ts xs)) ≡ length (cond b ts (t ∷ without (has_name name) ts))
    split true rest = suc_same (length xs) (length ts) e
    split false rest = ap suc rest
