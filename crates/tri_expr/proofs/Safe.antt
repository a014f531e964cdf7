-- An expression that is not risky has no fault.
use Rattle.std.proofs.Common.{◌≡◌, ℕ, Bool, true, false, not, ◌||◌, cond, List, [], ◌∷◌, map, refl, None}
use Rattle.std.specs.List.{list_any, list_all}
use Rattle.med_value.specs.Datum.{Datum, NoValue, Whole, Chars, Logic, Tuple}
use Rattle.tri_expr.specs.declared.expr.Expr.{Expr}
use Rattle.med_value.specs.declared.order.Comparison.{Comparison}
use Rattle.med_value.specs.declared.order.Comparison.TheVariants.{Equal as Same, AtMost, AtLeast}
use Rattle.tri_expr.specs.declared.expr.SetFunction.{SetFunction}
use Rattle.tri_expr.specs.declared.expr.SetFunction.TheVariants.{Count, Sum, Min, Max}
use Rattle.tri_expr.specs.Outcome.{Outcome, Is, Fails, truth, compared_values, compared, opposite_value, turned, is_truth, first_fault, settled, strict, over}
use Rattle.tri_expr.specs.Aggregate.{aggregated}
use Rattle.tri_expr.specs.Meaning.{argument, liked, tree_meaning, tree_meanings, meaning}
use Rattle.tri_expr.specs.TreeParts.{adds_up, is_risky_tree, has_risky_tree, is_risky}
use Rattle.tri_expr.specs.Laws.{HasValue}
use Rattle.tri_expr.specs.Tree.{Tree, column, parameter, literal, compare, compute, negate, all_of, some_of, opposite, asks, between, within, matches, parenthesised, count_rows, aggregate, Trees, none, part, tree}

left_off : (p q : Bool) → (p || q) ≡ false → p ≡ false
left_off true q e = e
left_off false q e = refl

right_off : (p q : Bool) → (p || q) ≡ false → q ≡ false
right_off true q e = absurd cc
right_off false q e = e

of_strict : (f : Datum → Outcome) → ((v : Datum) → HasValue (f v)) → (o : Outcome) → HasValue o → HasValue (strict f o)
of_strict f h (Is v) w = h v
of_strict f h (Fails c) w = w

of_compared_values : (op : Comparison) (v w : Datum) → HasValue (compared_values op v w)
of_compared_values op NoValue w = tt
of_compared_values op (Whole m) NoValue = tt
of_compared_values op (Chars s) NoValue = tt
of_compared_values op (Logic p) NoValue = tt
of_compared_values op (Whole m) (Whole n) = tt
of_compared_values op (Whole m) (Chars t) = tt
of_compared_values op (Whole m) (Logic q) = tt
of_compared_values op (Chars s) (Whole n) = tt
of_compared_values op (Chars s) (Chars t) = tt
of_compared_values op (Chars s) (Logic q) = tt
of_compared_values op (Logic p) (Whole n) = tt
of_compared_values op (Logic p) (Chars t) = tt
of_compared_values op (Logic p) (Logic q) = tt

of_compared : (op : Comparison) (a b : Outcome) → HasValue a → HasValue b → HasValue (compared op a b)
of_compared op (Is v) (Is w) h k = of_compared_values op v w
of_compared op (Is v) (Fails c) h k = k
of_compared op (Fails c) b h k = h

of_opposite : (v : Datum) → HasValue (opposite_value v)
of_opposite NoValue = tt
of_opposite (Whole n) = tt
of_opposite (Chars t) = tt
of_opposite (Logic b) = tt

of_turn : (negative : Bool) (v : Datum) → HasValue (cond negative (opposite_value v) (Is v))
of_turn true v = of_opposite v
of_turn false v = tt

of_turned : (negative : Bool) (o : Outcome) → HasValue o → HasValue (turned negative o)
of_turned negative = of_strict _ (of_turn negative)

-- all outcomes of a list
abbrev AllValues : List Outcome → Type 0
AllValues [] = Unit {0}
AllValues (o ∷ os) = HasValue o × AllValues os

no_first : (os : List Outcome) → AllValues os → first_fault os ≡ None
no_first [] h = refl
no_first (Is v ∷ os) h = no_first os h.1
no_first (Fails c ∷ os) h = absurd h.0

of_choice : (b c : Bool) (t : Bool) (s : Outcome) → HasValue s → HasValue (cond b (truth t) (cond c s (Is NoValue)))
of_choice true c t s h = tt
of_choice false true t s h = h
of_choice false false t s h = tt

of_settled : (by : Bool) (os : List Outcome) → AllValues os → HasValue (settled by os)
of_settled by os h = rw (no_first os h) (of_choice (list_any (is_truth by) os) (list_all (is_truth (not by)) os) by (truth (not by)) tt)

of_each : (v : Datum) (os : List Outcome) → AllValues os → AllValues (map (compared Same (Is v)) os)
of_each v [] h = tt
of_each v (o ∷ os) h = (of_compared Same (Is v) o tt h.0, of_each v os h.1)

of_liked : (pattern : List ℕ) (v : Datum) → HasValue (liked pattern v)
of_liked pattern NoValue = tt
of_liked pattern (Whole n) = tt
of_liked pattern (Chars t) = tt
of_liked pattern (Logic b) = tt

of_aggregate : (function : SetFunction) (vs : List Datum) → adds_up function ≡ false → HasValue (aggregated function vs)
of_aggregate Count vs e = tt
of_aggregate Sum vs e = absurd cc
of_aggregate Min vs e = tt
of_aggregate Max vs e = tt

mutual
  tree_safe : (ps : Tuple) (t : Tree) (c : List Tuple) → is_risky_tree t ≡ false → HasValue (tree_meaning ps t c)
  tree_safe ps (column at) c e = tt
  tree_safe ps (parameter at) c e = tt
  tree_safe ps (literal v) c e = tt
  tree_safe ps (compare op a b) c e = of_compared op (tree_meaning ps a c) (tree_meaning ps b c) (tree_safe ps a c (left_off (is_risky_tree a) (is_risky_tree b) e)) (tree_safe ps b c (right_off (is_risky_tree a) (is_risky_tree b) e))
  tree_safe ps (compute op a b) c e = absurd cc
  tree_safe ps (negate a) c e = absurd cc
  tree_safe ps (all_of ts) c e = of_settled false (over (tree_meanings ps ts) c) (trees_safe ps ts c e)
  tree_safe ps (some_of ts) c e = of_settled true (over (tree_meanings ps ts) c) (trees_safe ps ts c e)
  tree_safe ps (opposite a) c e = of_strict opposite_value of_opposite (tree_meaning ps a c) (tree_safe ps a c e)
  tree_safe ps (asks t negative a) c e = of_strict _ (λ v. tt) (tree_meaning ps a c) (tree_safe ps a c e)
  tree_safe ps (between negative x a b) c e =
      let hx = tree_safe ps x c (left_off (is_risky_tree x) (is_risky_tree a || is_risky_tree b) e) in
      let r = right_off (is_risky_tree x) (is_risky_tree a || is_risky_tree b) e in
      let both : AllValues (compared AtLeast (tree_meaning ps x c) (tree_meaning ps a c) ∷ compared AtMost (tree_meaning ps x c) (tree_meaning ps b c) ∷ []) = (of_compared AtLeast (tree_meaning ps x c) (tree_meaning ps a c) hx (tree_safe ps a c (left_off (is_risky_tree a) (is_risky_tree b) r)), (of_compared AtMost (tree_meaning ps x c) (tree_meaning ps b c) hx (tree_safe ps b c (right_off (is_risky_tree a) (is_risky_tree b) r)), tt)) in
      of_turned negative _ (of_settled false (compared AtLeast (tree_meaning ps x c) (tree_meaning ps a c) ∷ compared AtMost (tree_meaning ps x c) (tree_meaning ps b c) ∷ []) both)
  tree_safe ps (within negative x ts) c e =
      of_turned negative _ (of_strict _ (λ v. of_settled true _ (of_each v (over (tree_meanings ps ts) c) (trees_safe ps ts c (right_off (is_risky_tree x) (has_risky_tree ts) e)))) (tree_meaning ps x c) (tree_safe ps x c (left_off (is_risky_tree x) (has_risky_tree ts) e)))
  tree_safe ps (matches negative x pattern) c e = of_turned negative _ (of_strict _ (of_liked pattern) (tree_meaning ps x c) (tree_safe ps x c e))
  tree_safe ps (parenthesised a) c e = tree_safe ps a c e
  tree_safe ps count_rows c e = tt
  tree_safe ps (aggregate function a) c e = of_aggregate function (argument (tree_meaning ps a) c) (left_off (adds_up function) (is_risky_tree a) e)

  trees_safe : (ps : Tuple) (ts : Trees) (c : List Tuple) → has_risky_tree ts ≡ false → AllValues (over (tree_meanings ps ts) c)
  trees_safe ps none c e = tt
  trees_safe ps (part t ts) c e = (tree_safe ps t c (left_off (is_risky_tree t) (has_risky_tree ts) e), trees_safe ps ts c (right_off (is_risky_tree t) (has_risky_tree ts) e))

pub safe : (ps : Tuple) (e : Expr) (c : List Tuple) → is_risky e ≡ false → HasValue (meaning ps e c)
safe ps e c h = tree_safe ps (tree e) c h
