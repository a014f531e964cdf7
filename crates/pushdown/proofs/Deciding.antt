-- A condition by its test.
use Rattle.std.proofs.Common.{◌≡◌, ℕ, zero, suc, ◌+◌, ◌-◌, ◌<◌, ◌≤◌, Bool, true, false, not, ◌&&◌, cond, nat_le, nat_lt, [], ◌∷◌, ◌++◌, length, Option, Some, None, refl, sym, ap, ◌∙◌, arith}
use Rattle.std.specs.Ordering.{ordering_reverse}
use Rattle.std.specs.declared.cmp.Ordering.{Ordering}
use Rattle.std.specs.declared.cmp.Ordering.TheVariants.{Less, Equal, Greater}
use Rattle.std.proofs.lemmas.Option.{same_Some}
use Rattle.med_value.specs.Prelude.{Datum, NoValue, Whole, Chars, Logic, Tuple, cell, is_missing, compares_true, holds, datum_cmp}
use Rattle.med_value.proofs.OrderLemmas.{datum_cmp_total}
use Rattle.med_value.specs.declared.order.Comparison.{Comparison}
use Rattle.med_value.specs.declared.order.Comparison.TheVariants as comparisons
use Rattle.med_value.specs.declared.operators.Status.TheVariants as statuses
use Rattle.tri_expr.specs.Prelude.{Tree, column, literal, compare, asks, bare, Is, compared, tested, OnClass, tree_meaning, is_met}
use Rattle.pushdown.specs.Tests.{TestOf, with_literal, with_earlier, asks_null, passes, mirrored, either, where_in, with_other, offered_test}
use Rattle.pushdown.specs.Offers.{is_true}

cell_right : (x r : Tuple) (n at : ℕ) → length x ≡ n → n ≤ at → cell (x ++ r) at ≡ cell r (at - n)
cell_right [] r zero at e h = ap (cell r) (omega arith)
cell_right [] r (suc n) at e h = absurd (omega (arith, e))
cell_right (v ∷ x) r zero at e h = absurd (omega (arith, e))
cell_right (v ∷ x) r (suc n) zero e h = absurd (omega (arith, h))
cell_right (v ∷ x) r (suc n) (suc at) e h = cell_right x r n at (omega (arith, e)) (omega (arith, h)) ∙ ap (cell r) (omega arith)

cell_left : (x r : Tuple) (at : ℕ) → at < length x → cell (x ++ r) at ≡ cell x at
cell_left [] r at h = absurd (omega (arith, h))
cell_left (v ∷ x) r zero h = refl
cell_left (v ∷ x) r (suc at) h = cell_left x r at (omega (arith, h))

met_compare : (op : Comparison) (u v : Datum) → is_met (compared op (Is u) (Is v)) ≡ compares_true op u v
met_compare op NoValue v = refl
met_compare op (Whole m) NoValue = refl
met_compare op (Whole m) (Whole n) = refl
met_compare op (Whole m) (Chars t) = refl
met_compare op (Whole m) (Logic b) = refl
met_compare op (Chars s) NoValue = refl
met_compare op (Chars s) (Whole n) = refl
met_compare op (Chars s) (Chars t) = refl
met_compare op (Chars s) (Logic b) = refl
met_compare op (Logic p) NoValue = refl
met_compare op (Logic p) (Whole n) = refl
met_compare op (Logic p) (Chars t) = refl
met_compare op (Logic p) (Logic b) = refl

mirror_holds : (op : Comparison) (o : Ordering) → holds (mirrored op) (ordering_reverse o) ≡ holds op o
mirror_holds comparisons.Equal Less = refl
mirror_holds comparisons.Equal Equal = refl
mirror_holds comparisons.Equal Greater = refl
mirror_holds comparisons.Apart Less = refl
mirror_holds comparisons.Apart Equal = refl
mirror_holds comparisons.Apart Greater = refl
mirror_holds comparisons.Below Less = refl
mirror_holds comparisons.Below Equal = refl
mirror_holds comparisons.Below Greater = refl
mirror_holds comparisons.AtMost Less = refl
mirror_holds comparisons.AtMost Equal = refl
mirror_holds comparisons.AtMost Greater = refl
mirror_holds comparisons.Above Less = refl
mirror_holds comparisons.Above Equal = refl
mirror_holds comparisons.Above Greater = refl
mirror_holds comparisons.AtLeast Less = refl
mirror_holds comparisons.AtLeast Equal = refl
mirror_holds comparisons.AtLeast Greater = refl

mirror_is : (op : Comparison) (v w : Datum) → compares_true (mirrored op) w v ≡ compares_true op v w
mirror_is op v w = sides (is_missing v) (is_missing w) (ap (holds (mirrored op)) (datum_cmp_total.antisymm w v) ∙ mirror_holds op (datum_cmp v w))
  where
    sides : (p q : Bool) → holds (mirrored op) (datum_cmp w v) ≡ holds op (datum_cmp v w) → cond q false (cond p false (holds (mirrored op) (datum_cmp w v))) ≡ cond p false (cond q false (holds op (datum_cmp v w)))
    sides true true e = refl
    sides true false e = refl
    sides false true e = refl
    sides false false e = e

null_met : (negative : Bool) (v : Datum) → is_met (tested statuses.Null negative (Is v)) ≡ cond negative (not (is_missing v)) (is_missing v)
null_met true NoValue = refl
null_met true (Whole n) = refl
null_met true (Chars t) = refl
null_met true (Logic b) = refl
null_met false NoValue = refl
null_met false (Whole n) = refl
null_met false (Chars t) = refl
null_met false (Logic b) = refl

-- a place that is in the entry
pub record Within (base width at : ℕ) (t o : TestOf) : Type 0 where
  low : base ≤ at
  is : t ≡ o

within : (base width at : ℕ) (t o : TestOf) → where_in base width at t ≡ Some o → Within base width at t o
within base width at t o e = split (nat_le base at) refl (nat_lt at (base + width)) e
  where
    split : (p : Bool) → nat_le base at ≡ p → (q : Bool) → cond (p && q) (Some t) None ≡ Some o → Within base width at t o
    split true e true h = record { low = (grind (arith, e)); is = same_Some t o h }
    split true e false h = absurd cc
    split false e q h = absurd cc

-- a column of the entry with one of an earlier entry
pub record Other (base width a b : ℕ) (op : Comparison) (o : TestOf) : Type 0 where
  early : b < base
  low : base ≤ a
  is : with_earlier (a - base) op b ≡ o

other : (base width a : ℕ) (op : Comparison) (b : ℕ) (o : TestOf) → with_other base width a op b ≡ Some o → Other base width a b op o
other base width a op b o e = split (nat_lt b base) refl e
  where
    split : (p : Bool) → nat_lt b base ≡ p → cond p (where_in base width a (with_earlier (a - base) op b)) None ≡ Some o → Other base width a b op o
    split true q h = let w = within base width a (with_earlier (a - base) op b) o h in record { early = (grind (arith, q)); low = w.low; is = w.is }
    split false q h = absurd cc

module _ (x r : Tuple) (base width : ℕ) (lx : length x ≡ base) where
  columns_met : (a b : ℕ) (op : Comparison) (o : TestOf) → either (with_other base width a op b) (with_other base width b (mirrored op) a) ≡ Some o → compares_true op (cell (x ++ r) a) (cell (x ++ r) b) ≡ passes o x r
  columns_met a b op o e = split (with_other base width a op b) refl e
    where
      split : (w : Option TestOf) → with_other base width a op b ≡ w → either w (with_other base width b (mirrored op) a) ≡ Some o → compares_true op (cell (x ++ r) a) (cell (x ++ r) b) ≡ passes o x r
      split (Some t) q h =
          let k = other base width a op b t q in
          ap (λ (v : Datum). compares_true op v (cell (x ++ r) b)) (cell_right x r base a lx k.low)
          ∙ ap (λ (v : Datum). compares_true op (cell r (a - base)) v) (cell_left x r b (let l = k.early in omega (arith, l, lx)))
          ∙ ap (λ (t : TestOf). passes t x r) (k.is ∙ same_Some t o h)
      split None q h =
          let k = other base width b (mirrored op) a o h in
          sym (mirror_is op (cell (x ++ r) a) (cell (x ++ r) b))
          ∙ ap (λ (v : Datum). compares_true (mirrored op) v (cell (x ++ r) a)) (cell_right x r base b lx k.low)
          ∙ ap (λ (v : Datum). compares_true (mirrored op) (cell r (b - base)) v) (cell_left x r a (let l = k.early in omega (arith, l, lx)))
          ∙ ap (λ (t : TestOf). passes t x r) k.is

  decides : (t : Tree) (o : TestOf) → offered_test base width t ≡ Some o → is_true t (x ++ r) ≡ passes o x r
  decides (compare op (column a) (literal v)) o e =
      let k = within base width a (with_literal (a - base) op v) o e in
      met_compare op (cell (x ++ r) a) v ∙ ap (λ (u : Datum). compares_true op u v) (cell_right x r base a lx k.low) ∙ ap (λ (t : TestOf). passes t x r) k.is
  decides (compare op (literal v) (column a)) o e =
      let k = within base width a (with_literal (a - base) (mirrored op) v) o e in
      met_compare op v (cell (x ++ r) a) ∙ sym (mirror_is op v (cell (x ++ r) a)) ∙ ap (λ (u : Datum). compares_true (mirrored op) u v) (cell_right x r base a lx k.low) ∙ ap (λ (t : TestOf). passes t x r) k.is
  decides (compare op (column a) (column b)) o e = met_compare op (cell (x ++ r) a) (cell (x ++ r) b) ∙ columns_met a b op o e
  decides (asks statuses.Null negative (column a)) o e =
      let k = within base width a (asks_null (a - base) negative) o e in
      null_met negative (cell (x ++ r) a) ∙ ap (λ (u : Datum). cond negative (not (is_missing u)) (is_missing u)) (cell_right x r base a lx k.low) ∙ ap (λ (t : TestOf). passes t x r) k.is
  decides t o e = absurd cc

abbrev pub Bares : Type 0
Bares = (params : Tuple) (t : Tree) → tree_meaning params (bare t) ≡ tree_meaning params t

pub tests_decide : Bares → (base width : ℕ) (t : Tree) (o : TestOf) → offered_test base width (bare t) ≡ Some o → (x r : Tuple) → length x ≡ base → length r ≡ width → is_true t (x ++ r) ≡ passes o x r
tests_decide law base width t o e x r lx lr = ap (λ (f : OnClass). is_met (f ((x ++ r) ∷ []))) (sym (law [] t)) ∙ decides x r base width lx (bare t) o e
