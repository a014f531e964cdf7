-- What an expression means over a class does not depend on the order of the class's rows.
use Rattle.std.proofs.Common.{◌≡◌, ℕ, pos, Bool, true, false, ◌&&◌, List, [], ◌∷◌, map, refl, sym, ap, ◌∙◌}
use Rattle.std.specs.List.{list_all}
use Rattle.std.specs.declared.cmp.Ordering.{Ordering}
use Rattle.std.specs.declared.cmp.Ordering.TheVariants.{Less, Equal, Greater}
use Rattle.std.specs.Ordering.{is_eq}
use Rattle.std.proofs.lemmas.Bool.{and_parts}
use Rattle.med_value.specs.Prelude.{Datum, Whole, Tuple, cell, datum_cmp}
use Rattle.med_value.proofs.OrderLemmas.{datum_cmp_equal}
use Rattle.tri_expr.proofs.Choice.{datum_cmp_self}
use Rattle.tri_expr.proofs.Shuffled.{Shuffled, back, mapped, as_long, all_kept, none_left}
use Rattle.tri_expr.specs.declared.expr.Expr.{Expr}
use Rattle.med_value.specs.declared.order.Comparison.TheVariants.{Equal as Same, AtMost, AtLeast}
use Rattle.tri_expr.specs.Outcome.{Outcome, Is, compared, computed, negated, opposite as not_of, turned, settled, tested, strict, over, value_of}
use Rattle.tri_expr.specs.Meaning.{OnClass, has_cell, shared, argument, liked, tree_meaning, tree_meanings, meaning}
use Rattle.tri_expr.specs.Tree.{Tree, column, parameter, literal, compare, compute, negate, all_of, some_of, opposite, asks, between, within, matches, parenthesised, count_rows, aggregate, Trees, none, part, tree}
use Rattle.tri_expr.proofs.Tallies.{aggregated_shuffled}
use Rattle.tri_expr.proofs.Counted.{argument-map}
use Rattle.tri_expr.proofs.Forms.{two, three}

abbrev pub Steady : OnClass → Type 0
Steady f = (c d : List Tuple) → Shuffled c d → f c ≡ f d

eq_only : (o : Ordering) → is_eq o ≡ true → o ≡ Equal
eq_only Less e = absurd cc
eq_only Equal e = refl
eq_only Greater e = absurd cc

has_own : (at : ℕ) (r : Tuple) → has_cell at (cell r at) r ≡ true
has_own at r = ap is_eq (datum_cmp_self (cell r at))

-- all rows of the class have v
pub all_have : (at : ℕ) (v : Datum) (s : Tuple) (ss : List Tuple) → list_all (has_cell at v) (s ∷ ss) ≡ true → shared at (s ∷ ss) ≡ v
all_have at v s ss e =
    let h = and_parts (has_cell at v s) (list_all (has_cell at v) ss) e in
    let is : cell s at ≡ v = datum_cmp_equal (cell s at) v (eq_only (datum_cmp (cell s at) v) h.0) in
    rw is (rw h.1 refl)

where_true : (at : ℕ) (r s : Tuple) (rs ss : List Tuple) → list_all (has_cell at (cell r at)) rs ≡ true → Shuffled (r ∷ rs) (s ∷ ss) → shared at (s ∷ ss) ≡ cell r at
where_true at r s rs ss e t = all_have at (cell r at) s ss (sym (all_kept (has_cell at (cell r at)) t) ∙ rw (has_own at r, e) refl)

shared_by : (at : ℕ) (r s : Tuple) (rs ss : List Tuple) (a b : Bool) → list_all (has_cell at (cell r at)) rs ≡ a → list_all (has_cell at (cell s at)) ss ≡ b → Shuffled (r ∷ rs) (s ∷ ss) → shared at (r ∷ rs) ≡ shared at (s ∷ ss)
shared_by at r s rs ss true b e f t = rw e (sym (where_true at r s rs ss e t))
shared_by at r s rs ss false true e f t = let w : shared at (r ∷ rs) ≡ cell s at = where_true at s r ss rs f (back t) in w ∙ sym (rw f refl)
shared_by at r s rs ss false false e f t = rw (e, f) refl

shared_steady : (at : ℕ) (c d : List Tuple) → Shuffled c d → shared at c ≡ shared at d
shared_steady at [] [] t = refl
shared_steady at [] (s ∷ ss) t = let e = none_left [] (s ∷ ss) t refl in absurd cc
shared_steady at (r ∷ rs) [] t = let e = none_left [] (r ∷ rs) (back t) refl in absurd cc
shared_steady at (r ∷ rs) (s ∷ ss) t = shared_by at r s rs ss _ _ refl refl t

argument_steady : (f : OnClass) (c d : List Tuple) → Shuffled c d → Shuffled (argument f c) (argument f d)
argument_steady f c d t = rw (argument-map f c, argument-map f d) (mapped (λ r. value_of (f (r ∷ []))) t)

mutual
  tree_steady : (ps : Tuple) (t : Tree) → Steady (tree_meaning ps t)
  tree_steady ps (column at) c d s = ap Is (shared_steady at c d s)
  tree_steady ps (parameter at) c d s = refl
  tree_steady ps (literal v) c d s = refl
  tree_steady ps (compare op a b) c d s = two (compared op) (tree_steady ps a c d s) (tree_steady ps b c d s)
  tree_steady ps (compute op a b) c d s = two (computed op) (tree_steady ps a c d s) (tree_steady ps b c d s)
  tree_steady ps (negate a) c d s = ap negated (tree_steady ps a c d s)
  tree_steady ps (all_of ts) c d s = ap (settled false) (trees_steady ps ts c d s)
  tree_steady ps (some_of ts) c d s = ap (settled true) (trees_steady ps ts c d s)
  tree_steady ps (opposite a) c d s = ap not_of (tree_steady ps a c d s)
  tree_steady ps (asks test negative a) c d s = ap (tested test negative) (tree_steady ps a c d s)
  tree_steady ps (between negative x a b) c d s =
      three (λ o p q. turned negative (settled false (compared AtLeast o p ∷ compared AtMost o q ∷ []))) (tree_steady ps x c d s) (tree_steady ps a c d s) (tree_steady ps b c d s)
  tree_steady ps (within negative x ts) c d s =
      two (λ o os. turned negative (strict (λ v. settled true (map (compared Same (Is v)) os)) o)) (tree_steady ps x c d s) (trees_steady ps ts c d s)
  tree_steady ps (matches negative x pattern) c d s = ap (λ o. turned negative (strict (liked pattern) o)) (tree_steady ps x c d s)
  tree_steady ps (parenthesised a) c d s = tree_steady ps a c d s
  tree_steady ps count_rows c d s = ap (λ n. Is (Whole (pos n))) (as_long s)
  tree_steady ps (aggregate function a) c d s = aggregated_shuffled function (argument_steady (tree_meaning ps a) c d s)

  trees_steady : (ps : Tuple) (ts : Trees) (c d : List Tuple) → Shuffled c d → over (tree_meanings ps ts) c ≡ over (tree_meanings ps ts) d
  trees_steady ps none c d s = refl
  trees_steady ps (part t ts) c d s = two {B = List Outcome} (λ (o : Outcome) os. o ∷ os) (tree_steady ps t c d s) (trees_steady ps ts c d s)

pub meaning_steady : (ps : Tuple) (e : Expr) → Steady (meaning ps e)
meaning_steady ps e = tree_steady ps (tree e)
