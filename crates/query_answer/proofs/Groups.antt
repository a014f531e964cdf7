-- Groups and distinct outputs, from the numbers of their keys.
use Rattle.std.proofs.Common.{◌≡◌, ◌<◌, ◌≤◌, ◌+◌, ℕ, zero, suc, List, [], ◌∷◌, ◌++◌, map, set, get_or, length, refl, ap, arith, IsSorted}
use Rattle.std.proofs.lemmas.List.{length-map, get_or-map}
use Rattle.std.specs.declared.cmp.Ordering.{Ordering}
use Rattle.med_query.specs.Prelude.{distinct, Output, output_eq}
use Rattle.med_query.proofs.AnyOrder.{output_eq_only, output_eq_self}
use Rattle.query_answer.specs.Keys.{keys_after, put_at}
use Rattle.query_answer.proofs.KeyNumbers.{all_keys}

pub nothing_more : {X : Type 0} (l : List X) → length l ≡ 0 → l ≡ []
nothing_more [] h = refl
nothing_more (x ∷ xs) h = absurd (omega arith)

-- an order of what elements show orders what they show
pub sorted_map : {X Y : Type 0} (f : X → Y) (cmp : Y → Y → Ordering) (xs : List X) → IsSorted (λ a b. cmp (f a) (f b)) xs → IsSorted cmp (map f xs)
sorted_map f cmp [] h k d low high = absurd (omega arith)
sorted_map f cmp (x ∷ xs) h k d low high =
    let len : length (map f (x ∷ xs)) ≡ length (x ∷ xs) = length-map (x ∷ xs) f in
    let a = get_or-map f (x ∷ xs) (k + 1) x d (omega (arith, len)) in
    let b = get_or-map f (x ∷ xs) k x d (omega (arith, len)) in
    rw (a, b) (h k x low (omega (arith, len)))

-- outputs each once
pub outputs_once : (outs : List Output) → keys_after output_eq [] outs ≡ distinct output_eq outs
outputs_once outs = all_keys output_eq output_eq_only output_eq_self outs

-- a row goes to those of its number, or is the first of a new group
pub put_in : {X : Type 0} (gs : List (List X)) (i : ℕ) (x : X) → i < length gs → put_at gs i x ≡ set gs i (get_or gs i [] ++ x ∷ [])
put_in [] i x h = absurd (omega arith)
put_in (g ∷ gs) zero x h = refl
put_in (g ∷ gs) (suc i) x h = ap (λ l. g ∷ l) (put_in gs i x (omega arith))

pub put_end : {X : Type 0} (gs : List (List X)) (i : ℕ) (x : X) → length gs ≤ i → put_at gs i x ≡ gs ++ (x ∷ []) ∷ []
put_end [] i x h = refl
put_end (g ∷ gs) zero x h = absurd (omega arith)
put_end (g ∷ gs) (suc i) x h = ap (λ l. g ∷ l) (put_end gs i x (omega arith))
