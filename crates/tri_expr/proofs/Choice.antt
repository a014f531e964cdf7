-- The lesser and the greater of two by a total order in which equal is the same: in any order of three the same.
use Rattle.std.proofs.Common.{◌≡◌, Bool, true, false, cond, is_lt, refl, sym, ap, subst, ◌∙◌}
use Rattle.std.specs.declared.cmp.Ordering.{Ordering}
use Rattle.std.specs.declared.cmp.Ordering.TheVariants.{Less, Equal, Greater}
use Rattle.std.specs.Ordering.{ordering_reverse}
use Rattle.std.specs.Cmp.{IsTotalOrder}
use Rattle.med_value.specs.Prelude.{Datum, datum_cmp}
use Rattle.med_value.proofs.OrderLemmas.{datum_cmp_total}

self_reverse : (o : Ordering) → o ≡ ordering_reverse o → o ≡ Equal
self_reverse Less e = absurd cc
self_reverse Equal e = refl
self_reverse Greater e = absurd cc

pub datum_cmp_self : (a : Datum) → datum_cmp a a ≡ Equal
datum_cmp_self a = self_reverse (datum_cmp a a) (datum_cmp_total.antisymm a a)

abbrev pub turned_over : {K : Type 0} → (K → K → Ordering) → K → K → Ordering
turned_over R x y = R y x

-- the lesser of two by a total order in which equal is the same: in any order of three the same
module _ {K : Type 0} (R : K → K → Ordering) (o : IsTotalOrder R) (only : (x y : K) → R x y ≡ Equal → x ≡ y) where
  abbrev pub first_of_two : K → K → K
  first_of_two v w = cond (is_lt (R w v)) w v

  less_from : (c : Ordering) → is_lt c ≡ true → c ≡ Less
  less_from Less e = refl
  less_from Equal e = absurd cc
  less_from Greater e = absurd cc

  lower_by : (a x y : K) (c : Ordering) → R a x ≡ c → is_lt c ≡ false → is_lt (R a y) ≡ true → is_lt (R x y) ≡ true
  lower_by a x y Less e h k = absurd cc
  lower_by a x y Equal e h k = subst (λ z. is_lt (R z y) ≡ true) (only a x e) k
  lower_by a x y Greater e h k = ap is_lt (o.trans x a y (o.antisymm x a ∙ ap ordering_reverse e) (less_from (R a y) k))

  same_by : (x y : K) (c : Ordering) → R x y ≡ c → is_lt c ≡ false → is_lt (R y x) ≡ false → x ≡ y
  same_by x y Less e h k = absurd cc
  same_by x y Equal e h k = only x y e
  same_by x y Greater e h k = let l : R y x ≡ Less = o.antisymm y x ∙ ap ordering_reverse e in let b : is_lt (R y x) ≡ true = ap is_lt l in absurd cc

  one_way : (x y : K) → is_lt (R x y) ≡ true → is_lt (R y x) ≡ false
  one_way x y h = ap is_lt (o.antisymm y x ∙ ap ordering_reverse (less_from (R x y) h))

  either_by : (v w : K) (b c : Bool) → is_lt (R w v) ≡ b → is_lt (R v w) ≡ c → cond b w v ≡ cond c v w
  either_by v w true true e f = let n = one_way w v e in absurd cc
  either_by v w true false e f = refl
  either_by v w false true e f = refl
  either_by v w false false e f = same_by v w (R v w) refl f e

  pub either : (v w : K) → first_of_two v w ≡ first_of_two w v
  either v w = either_by v w (is_lt (R w v)) (is_lt (R v w)) refl refl

  of_three : (x y a : K) (p q : Bool) → is_lt (R a y) ≡ p → is_lt (R a x) ≡ q → first_of_two x (cond p a y) ≡ first_of_two y (cond q a x)
  of_three x y a true true e f = rw (e, f) refl
  of_three x y a true false e f = rw (f, lower_by a x y (R a x) refl f e) refl
  of_three x y a false true e f = rw (e, lower_by a y x (R a y) refl e f) refl
  of_three x y a false false e f = either x y

  pub three : (x y a : K) → first_of_two x (first_of_two y a) ≡ first_of_two y (first_of_two x a)
  three x y a = of_three x y a (is_lt (R a y)) (is_lt (R a x)) refl refl

pub turned_over_total : {K : Type 0} (R : K → K → Ordering) → IsTotalOrder R → ((x y : K) → R x y ≡ Equal → x ≡ y) → IsTotalOrder (turned_over R)
turned_over_total R o only = record {
  antisymm = λ x y. o.antisymm y x;
  trans = λ x y z p q. o.trans z y x q p;
  congr = λ x y z p. ap (R z) (sym (only y x p));
}
