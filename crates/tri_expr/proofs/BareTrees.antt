-- A tree without its parentheses means the same.
use Rattle.std.proofs.Common.{◌≡◌, true, false, List, [], ◌∷◌, map, refl, ap, ◌∙◌}
use Rattle.med_value.specs.Datum.{Tuple}
use Rattle.med_value.specs.declared.order.Comparison.TheVariants.{Equal as Same, AtMost, AtLeast}
use Rattle.tri_expr.specs.Outcome.{Is, compared, computed, negated, opposite as not_of, turned, settled, tested, strict, over}
use Rattle.tri_expr.specs.Aggregate.{aggregated}
use Rattle.tri_expr.specs.Meaning.{OnClass, argument, liked, tree_meaning, tree_meanings}
use Rattle.tri_expr.specs.Tree.{Tree, column, parameter, literal, compare, compute, negate, all_of, some_of, opposite, asks, between, within, matches, parenthesised, count_rows, aggregate, Trees, none, part}
use Rattle.tri_expr.specs.TreeParts.{bare, bare_all}

mutual
  pub bare_means : (ps : Tuple) (t : Tree) → tree_meaning ps (bare t) ≡ tree_meaning ps t
  bare_means ps (column at) = refl
  bare_means ps (parameter at) = refl
  bare_means ps (literal v) = refl
  bare_means ps (compare op a b) = ap {B = OnClass} (λ (m : OnClass) (c : List Tuple). compared op (m c) (tree_meaning ps (bare b) c)) (bare_means ps a) ∙ ap {B = OnClass} (λ (m : OnClass) (c : List Tuple). compared op (tree_meaning ps a c) (m c)) (bare_means ps b)
  bare_means ps (compute op a b) = ap {B = OnClass} (λ (m : OnClass) (c : List Tuple). computed op (m c) (tree_meaning ps (bare b) c)) (bare_means ps a) ∙ ap {B = OnClass} (λ (m : OnClass) (c : List Tuple). computed op (tree_meaning ps a c) (m c)) (bare_means ps b)
  bare_means ps (negate a) = ap {B = OnClass} (λ (m : OnClass) (c : List Tuple). negated (m c)) (bare_means ps a)
  bare_means ps (all_of ts) = ap {B = OnClass} (λ (l : List OnClass) (c : List Tuple). settled false (over l c)) (bare_list_means ps ts)
  bare_means ps (some_of ts) = ap {B = OnClass} (λ (l : List OnClass) (c : List Tuple). settled true (over l c)) (bare_list_means ps ts)
  bare_means ps (opposite a) = ap {B = OnClass} (λ (m : OnClass) (c : List Tuple). not_of (m c)) (bare_means ps a)
  bare_means ps (asks test negative a) = ap {B = OnClass} (λ (m : OnClass) (c : List Tuple). tested test negative (m c)) (bare_means ps a)
  bare_means ps (between negative x a b) =
      ap {B = OnClass} (λ (m : OnClass) (c : List Tuple). turned negative (settled false (compared AtLeast (m c) (tree_meaning ps (bare a) c) ∷ compared AtMost (m c) (tree_meaning ps (bare b) c) ∷ []))) (bare_means ps x)
      ∙ ap {B = OnClass} (λ (m : OnClass) (c : List Tuple). turned negative (settled false (compared AtLeast (tree_meaning ps x c) (m c) ∷ compared AtMost (tree_meaning ps x c) (tree_meaning ps (bare b) c) ∷ []))) (bare_means ps a)
      ∙ ap {B = OnClass} (λ (m : OnClass) (c : List Tuple). turned negative (settled false (compared AtLeast (tree_meaning ps x c) (tree_meaning ps a c) ∷ compared AtMost (tree_meaning ps x c) (m c) ∷ []))) (bare_means ps b)
  bare_means ps (within negative x ts) =
      ap {B = OnClass} (λ (m : OnClass) (c : List Tuple). turned negative (strict (λ v. settled true (map (compared Same (Is v)) (over (tree_meanings ps (bare_all ts)) c))) (m c))) (bare_means ps x)
      ∙ ap {B = OnClass} (λ (l : List OnClass) (c : List Tuple). turned negative (strict (λ v. settled true (map (compared Same (Is v)) (over l c))) (tree_meaning ps x c))) (bare_list_means ps ts)
  bare_means ps (matches negative x pattern) = ap {B = OnClass} (λ (m : OnClass) (c : List Tuple). turned negative (strict (liked pattern) (m c))) (bare_means ps x)
  bare_means ps (parenthesised a) = bare_means ps a
  bare_means ps count_rows = refl
  bare_means ps (aggregate function a) = ap {B = OnClass} (λ (m : OnClass) (c : List Tuple). aggregated function (argument m c)) (bare_means ps a)

  bare_list_means : (ps : Tuple) (ts : Trees) → tree_meanings ps (bare_all ts) ≡ tree_meanings ps ts
  bare_list_means ps none = refl
  bare_list_means ps (part t ts) = ap (λ (m : OnClass). m ∷ tree_meanings ps (bare_all ts)) (bare_means ps t) ∙ ap (λ (l : List OnClass). tree_meaning ps t ∷ l) (bare_list_means ps ts)
