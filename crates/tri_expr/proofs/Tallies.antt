-- An accumulator step by step, and aggregates in any order.
use Rattle.std.proofs.Common.{◌≡◌, ℕ, ◌+◌, ℤ, pos, ◌+ℤ◌, Bool, true, false, cond, List, [], ◌∷◌, ◌++◌, length, filter, refl, sym, ap, ◌∙◌, arith}
use Rattle.std.specs.declared.cmp.Ordering.TheVariants.{Equal}
use Rattle.std.specs.Cmp.{IsTotalOrder}
use Rattle.std.proofs.Math.IntN.{+ℤ_comm, +ℤ_assoc}
use Rattle.med_value.specs.Prelude.{Datum, NoValue, Whole, Chars, Logic, datum_cmp, is_missing}
use Rattle.med_value.proofs.OrderLemmas.{datum_cmp_total, datum_cmp_equal}
use Rattle.tri_expr.proofs.Choice.{either, three, turned_over, turned_over_total}
use Rattle.tri_expr.specs.declared.expr.SetFunction.{SetFunction}
use Rattle.tri_expr.specs.declared.expr.SetFunction.TheVariants.{Count, Sum, Min, Max}
use Rattle.tri_expr.specs.declared.tally.Tally.{Tally}
use Rattle.tri_expr.specs.Outcome.{Is}
use Rattle.tri_expr.specs.View.{seen}
use Rattle.tri_expr.specs.Aggregate.{is_present, whole_of, total, lesser, greater, skipping, aggregated}
use Rattle.tri_expr.specs.Lists.{gather}
use Rattle.tri_expr.proofs.Shuffled.{Shuffled, skip, turn, both, gathered, filtered, as_long, same}
use Rattle.tri_expr.specs.Tally.{Tallied, IsAdded, best_of, better_of, finished}

finished_by : (k : SetFunction) (vs : List Datum) → finished k (length (filter is_present vs)) (total vs) (best_of k vs) ≡ aggregated k vs
finished_by Count vs = refl
finished_by Sum vs = refl
finished_by Min vs = refl
finished_by Max vs = refl

pub finished_is : (t : Tally) (vs : List Datum) → Tallied t vs → finished t.function t.count t.total (seen t.best) ≡ aggregated t.function vs
finished_is t vs h = rw (h.count, h.total, h.best) (finished_by t.function vs)

-- any two neighbours may change places
module _ (better : Datum → Datum → Datum) (pick : (v w : Datum) → is_missing v ≡ false → is_missing w ≡ false → is_missing (better v w) ≡ false) (either_way : (v w : Datum) → better v w ≡ better w v) (any_three : (x y a : Datum) → better x (better y a) ≡ better y (better x a)) where
  gone : (v : Datum) → is_missing v ≡ true → v ≡ NoValue
  gone NoValue e = refl
  gone (Whole n) e = absurd cc
  gone (Chars t) e = absurd cc
  gone (Logic b) e = absurd cc

  skipping_either_by : (v w : Datum) (b c : Bool) → is_missing v ≡ b → is_missing w ≡ c → skipping better v w ≡ skipping better w v
  skipping_either_by v w true true e f = rw (e, f) (gone w f ∙ sym (gone v e))
  skipping_either_by v w true false e f = rw (e, f) refl
  skipping_either_by v w false true e f = rw (e, f) refl
  skipping_either_by v w false false e f = rw (e, f) (either_way v w)

  pub skipping_either : (v w : Datum) → skipping better v w ≡ skipping better w v
  skipping_either v w = skipping_either_by v w (is_missing v) (is_missing w) refl refl

  skipping_three_by : (x y a : Datum) (b c d : Bool) → is_missing x ≡ b → is_missing y ≡ c → is_missing a ≡ d → skipping better x (skipping better y a) ≡ skipping better y (skipping better x a)
  skipping_three_by x y a true c d e f g = rw e refl
  skipping_three_by x y a false true d e f g = rw (e, f) refl
  skipping_three_by x y a false false true e f g = rw (e, f, g) (rw (e, f) (either_way x y))
  skipping_three_by x y a false false false e f g = rw (e, f, g) (rw (pick y a f g, pick x a e g) (any_three x y a))

  pub skipping_three : (x y a : Datum) → skipping better x (skipping better y a) ≡ skipping better y (skipping better x a)
  skipping_three x y a = skipping_three_by x y a (is_missing x) (is_missing y) (is_missing a) refl refl refl

picked : (b : Bool) (v w : Datum) → is_missing v ≡ false → is_missing w ≡ false → is_missing (cond b w v) ≡ false
picked true v w e f = f
picked false v w e f = e

greater_total : IsTotalOrder (turned_over datum_cmp)
greater_total = turned_over_total datum_cmp datum_cmp_total datum_cmp_equal

lesser_either : (v w : Datum) → lesser v w ≡ lesser w v
lesser_either = skipping_either _ (λ v w. picked _ v w) (either datum_cmp datum_cmp_total datum_cmp_equal) (three datum_cmp datum_cmp_total datum_cmp_equal)

lesser_three : (x y a : Datum) → lesser x (lesser y a) ≡ lesser y (lesser x a)
lesser_three = skipping_three _ (λ v w. picked _ v w) (either datum_cmp datum_cmp_total datum_cmp_equal) (three datum_cmp datum_cmp_total datum_cmp_equal)

over_equal : (x y : Datum) → turned_over datum_cmp x y ≡ Equal → x ≡ y
over_equal x y e = sym (datum_cmp_equal y x e)

greater_either : (v w : Datum) → greater v w ≡ greater w v
greater_either = skipping_either _ (λ v w. picked _ v w) (either (turned_over datum_cmp) greater_total over_equal) (three (turned_over datum_cmp) greater_total over_equal)

greater_three : (x y a : Datum) → greater x (greater y a) ≡ greater y (greater x a)
greater_three = skipping_three _ (λ v w. picked _ v w) (either (turned_over datum_cmp) greater_total over_equal) (three (turned_over datum_cmp) greater_total over_equal)

total_three : (x y : Datum) (a : ℤ) → whole_of x +ℤ (whole_of y +ℤ a) ≡ whole_of y +ℤ (whole_of x +ℤ a)
total_three x y a = sym (+ℤ_assoc (whole_of x) (whole_of y) a) ∙ ap (λ z. z +ℤ a) (+ℤ_comm (whole_of x) (whole_of y)) ∙ +ℤ_assoc (whole_of y) (whole_of x) a

pub total_shuffled : {vs ws : List Datum} → Shuffled vs ws → total vs ≡ total ws
total_shuffled = gathered (λ v t. whole_of v +ℤ t) (pos 0) total_three

pub least_shuffled : {vs ws : List Datum} → Shuffled vs ws → gather lesser NoValue vs ≡ gather lesser NoValue ws
least_shuffled = gathered lesser NoValue lesser_three

pub greatest_shuffled : {vs ws : List Datum} → Shuffled vs ws → gather greater NoValue vs ≡ gather greater NoValue ws
greatest_shuffled = gathered greater NoValue greater_three

-- an aggregate is the same in any order of its values
pub aggregated_shuffled : (k : SetFunction) {vs ws : List Datum} → Shuffled vs ws → aggregated k vs ≡ aggregated k ws
aggregated_shuffled Count s = ap (λ n. Is (Whole (pos n))) (as_long (filtered is_present s))
aggregated_shuffled Sum s = rw (as_long (filtered is_present s), total_shuffled s) refl
aggregated_shuffled Min s = ap Is (least_shuffled s)
aggregated_shuffled Max s = ap Is (greatest_shuffled s)

pub to_front : (vs : List Datum) (v : Datum) → Shuffled (vs ++ v ∷ []) (v ∷ vs)
to_front [] v = same (v ∷ [])
to_front (w ∷ vs) v = both (skip w (to_front vs v)) (turn w v vs)

pub best_more : (k : SetFunction) (vs : List Datum) (v : Datum) → better_of k (best_of k vs) v ≡ best_of k (vs ++ v ∷ [])
best_more Count vs v = refl
best_more Sum vs v = refl
best_more Min vs v = lesser_either (gather lesser NoValue vs) v ∙ sym (least_shuffled (to_front vs v))
best_more Max vs v = greater_either (gather greater NoValue vs) v ∙ sym (greatest_shuffled (to_front vs v))

pub count_one : (v : Datum) (n : ℕ) (vs : List Datum) → n ≡ length (filter is_present vs) → n + cond (is_missing v) 0 1 ≡ length (filter is_present (v ∷ vs))
count_one NoValue n vs e = omega (arith, e)
count_one (Whole m) n vs e = omega (arith, e)
count_one (Chars t) n vs e = omega (arith, e)
count_one (Logic b) n vs e = omega (arith, e)

-- one more value
pub tallied_more : (old new : Tally) (vs : List Datum) (v : Datum) → IsAdded old new v → Tallied old vs → Tallied new (vs ++ v ∷ [])
tallied_more old new vs v a t = record {
  count = a.count ∙ count_one v old.count vs t.count ∙ sym (as_long (filtered is_present (to_front vs v)));
  total = a.total ∙ ap (λ z. z +ℤ whole_of v) t.total ∙ +ℤ_comm (total vs) (whole_of v) ∙ sym (total_shuffled (to_front vs v));
  best = a.best ∙ ap (λ b. better_of old.function b v) t.best ∙ best_more old.function vs v ∙ ap (λ k. best_of k (vs ++ v ∷ [])) (sym a.function);
}
