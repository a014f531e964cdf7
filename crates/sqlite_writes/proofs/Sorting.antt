-- Rows in the order of their keys: a list that rises by key is the only order of its rows.
use Rattle.std.proofs.Common.{◌≡◌, ◌+◌, Bool, true, false, if◌then◌else◌, List, [], ◌∷◌, refl, ap, ◌∙◌, arith, IsPermutation}
use Rattle.std.specs.declared.cmp.Ordering.{Ordering}
use Rattle.std.specs.declared.cmp.Ordering.TheVariants.{Less, Equal, Greater}
use Rattle.std.specs.Ordering.{is_lt, is_le, ordering_reverse}
use Rattle.std.specs.Cmp.{IsStrictWeakOrder}
use Rattle.std.specs.List.Sorted.{IsSortedBy}
use Rattle.std.proofs.lemmas.List.Sorted.{ranks_by, IsPermutation-trans}
use Rattle.sqlite_trees.specs.Tree.{IsAscending}
use Rattle.sqlite_trees.proofs.ListLemmas.{all_weaker, all-permutation, ascending-get_or}
use Rattle.sqlite_looks.proofs.Unique.{Rises, only_sorted}
use Rattle.med_value.specs.Order.{datum_cmp}
use Rattle.med_value.proofs.OrderLemmas.{datum_cmp_total}
use Rattle.fdw_api.specs.Kinds.{Held}
use Rattle.sqlite_writes.specs.Kinds.{key_cell, put_by_key, in_key_order, put_permutes, order_permutes}

abbrev pub below : Held → Held → Bool
below x y = is_lt (datum_cmp (key_cell x) (key_cell y))

pub by_keys : IsStrictWeakOrder below
by_keys = ranks_by datum_cmp_total key_cell

-- none is above a later one
abbrev pub NoneAbove : List Held → Type 0
NoneAbove = IsAscending (λ x y. below y x ≡ false)

not_above : (x y : Held) → is_le (datum_cmp (key_cell x) (key_cell y)) ≡ true → below y x ≡ false
not_above x y e = ap is_lt (datum_cmp_total.antisymm (key_cell y) (key_cell x)) ∙ go (datum_cmp (key_cell x) (key_cell y)) e
  where
    go : (o : Ordering) → is_le o ≡ true → is_lt (ordering_reverse o) ≡ false
    go Less e = refl
    go Equal e = refl
    go Greater e = absurd cc

not_below : (o : Ordering) → is_le o ≡ false → is_lt o ≡ false
not_below Less e = absurd cc
not_below Equal e = refl
not_below Greater e = refl

put_sorted : (x : Held) (ys : List Held) → NoneAbove ys → NoneAbove (put_by_key x ys)
put_sorted x [] up = (tt, tt)
put_sorted x (y ∷ ys) up = go (is_le (datum_cmp (key_cell x) (key_cell y))) refl (put_sorted x ys up.1)
  where
    go : (b : Bool) → is_le (datum_cmp (key_cell x) (key_cell y)) ≡ b → NoneAbove (put_by_key x ys)
        → NoneAbove (if b then x ∷ y ∷ ys else y ∷ put_by_key x ys)
    go true e more = (
      (
        not_above x y e,
        all_weaker (λ z. below z y ≡ false) (λ z. below z x ≡ false) (λ z h. by_keys.chain z y x h
            (not_above x y e)) ys up.0,
      ),
      up,
    )
    go false e more = (all-permutation (λ z. below z y ≡ false) (x ∷ ys) (put_by_key x ys) (put_permutes x ys) (not_below _ e, up.0), more)

order_sorted : (xs : List Held) → NoneAbove (in_key_order xs)
order_sorted [] = tt
order_sorted (x ∷ xs) = put_sorted x (in_key_order xs) (order_sorted xs)

sorted_by : (xs : List Held) → NoneAbove xs → IsSortedBy below xs
sorted_by xs up k d low within = ascending-get_or (λ x y. below y x ≡ false) xs k (k + 1) d up (omega arith) within

-- rows in the order of their keys are the rising list that has them
pub order_is : (xs ys : List Held) → Rises below by_keys ys → IsPermutation ys xs → in_key_order xs ≡ ys
order_is xs ys up same =
    only_sorted below by_keys ys (in_key_order xs) up (sorted_by _ (order_sorted xs)) (IsPermutation-trans ys xs (in_key_order xs) same
    (order_permutes xs))
