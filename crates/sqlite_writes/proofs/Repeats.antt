-- Whether a value is twice in a list does not depend on the list's order.
use Rattle.std.proofs.Common.{◌≡◌, Bool, true, false, not, ◌&&◌, ◌||◌, List, [], ◌∷◌, refl, sym, ap, ap₂, ◌∙◌, subst, IsPermutation}
use Rattle.std.specs.declared.cmp.Ordering.{Ordering}
use Rattle.std.specs.declared.cmp.Ordering.TheVariants.{Less, Equal, Greater}
use Rattle.std.specs.Ordering.{is_eq}
use Rattle.std.specs.List.{list_any}
use Rattle.std.proofs.lemmas.Bool.{and_parts}
use Rattle.std.specs.Cmp.{both_ways}
use Rattle.std.proofs.lemmas.List.Sorted.{list_any-IsPermutation, IsPermutation-refl, IsPermutation-cons, IsPermutation-middle}
use Rattle.std.proofs.lemmas.List.Sorted.{IsPermutation-trans}
use Rattle.sqlite_trees.proofs.ListLemmas.{along_permutation}
use Rattle.med_value.specs.Prelude.{Datum, datum_cmp, is_missing}
use Rattle.med_value.proofs.OrderLemmas.{datum_cmp_equal}
use Rattle.sqlite_writes.specs.Kinds.{repeats}

abbrev pub is_same : Datum → Datum → Bool
is_same v w = not (is_missing v) && is_eq (datum_cmp v w)

pub equal_is : (o : Ordering) → is_eq o ≡ true → o ≡ Equal
equal_is Less e = absurd cc
equal_is Equal e = refl
equal_is Greater e = absurd cc

turned : (v w : Datum) → is_same v w ≡ true → is_same w v ≡ true
turned v w h =
    let e : v ≡ w = datum_cmp_equal v w (equal_is _ (and_parts (not (is_missing v)) (is_eq (datum_cmp v w)) h).1) in
    subst (λ z. is_same z v ≡ true) e (subst (λ z. is_same v z ≡ true) (sym e) h)

either_way : (v w : Datum) → is_same v w ≡ is_same w v
either_way v w = both_ways _ _ (turned v w) (turned w v)

four : (a b c d : Bool) → ((a || b) || (c || d)) ≡ ((a || c) || (b || d))
four true b c d = refl
four false true true d = refl
four false true false d = refl
four false false c d = refl

abbrev RepeatsAlike : List Datum → List Datum → Type 0
RepeatsAlike xs ys = IsPermutation xs ys × (repeats xs ≡ repeats ys)

pub repeats_alike : (xs ys : List Datum) → IsPermutation xs ys → repeats xs ≡ repeats ys
repeats_alike xs ys same = (along_permutation RepeatsAlike
    (λ xs. (IsPermutation-refl xs, refl))
    (λ x xs ys h. (IsPermutation-cons x xs ys h.0, ap₂ ◌||◌ (list_any-IsPermutation (is_same x) xs ys h.0) h.1))
    (λ x y xs. (
      IsPermutation-middle (x ∷ []) y xs,
      four (is_same x y) (list_any (is_same x) xs) (list_any (is_same y) xs) (repeats xs)
          ∙ ap (λ b. (b || list_any (is_same y) xs) || (list_any (is_same x) xs || repeats xs)) (either_way x y),
    ))
    (λ xs ys zs p q. (IsPermutation-trans xs ys zs p.0 q.0, p.1 ∙ q.1))
    xs ys same).1
