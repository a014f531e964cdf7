-- The value of an expression over a class of rows, by its tree; one row is the class of that row.
-- Each form has its value by cases, from the values of all its operands: nothing is skipped.
use Rattle.std.specs.Prelude.{ℕ, Bool, true, false, if◌then◌else◌, List, [], ◌∷◌, map, length, pos}
use Rattle.std.specs.List.{list_all}
use Rattle.std.specs.Ordering.{is_eq}
use Rattle.med_value.specs.Prelude.{Datum, NoValue, Whole, Chars, Tuple, cell, datum_cmp}
use Rattle.med_value.specs.declared.order.Comparison.TheVariants.{Equal, AtMost, AtLeast}
use Rattle.tri_expr.specs.declared.expr.Expr.{Expr}
use Rattle.tri_expr.specs.Outcome.{Outcome, Is, compared, computed, negated, opposite as turned_over, turned, settled, tested, strict, truth, over, value_of}
use Rattle.tri_expr.specs.Aggregate.{aggregated}
use Rattle.tri_expr.specs.Like.{is_like}
use Rattle.tri_expr.specs.Tree.{Tree, column, parameter, literal, compare, compute, negate, all_of, some_of, opposite, asks, between, within, matches, parenthesised, count_rows, aggregate, Trees, none, part, tree, trees}

-- what an expression means over a class of rows
abbrev pub OnClass : Type 0
OnClass = List Tuple → Outcome

-- LIKE of a value: NULL is unknown
abbrev pub liked : List ℕ → Datum → Outcome
liked pattern (Chars t) = truth (is_like pattern t)
liked pattern v = Is NoValue

-- a row has this value at a place, NULL being equal to NULL
abbrev pub has_cell : ℕ → Datum → Tuple → Bool
has_cell at v r = is_eq (datum_cmp (cell r at) v)

-- the value that all rows of the class have there; NULL where they differ
abbrev pub shared : ℕ → List Tuple → Datum
shared at [] = NoValue
shared at (r ∷ rs) = if list_all (has_cell at (cell r at)) rs then cell r at else NoValue

-- an aggregate's argument over each row by itself; a fault of it is told by itself
abbrev pub argument : OnClass → List Tuple → List Datum
argument f [] = []
argument f (r ∷ rs) = value_of (f (r ∷ [])) ∷ argument f rs

-- what a tree means with these parameters: x BETWEEN a AND b is x >= a AND x <= b, and x IN (a, ..) is x = a OR ..
abbrev mutual
  pub tree_meaning : Tuple → Tree → OnClass
  tree_meaning ps (column at) c = Is (shared at c)
  tree_meaning ps (parameter at) c = Is (cell ps at)
  tree_meaning ps (literal v) c = Is v
  tree_meaning ps (compare op a b) c = compared op (tree_meaning ps a c) (tree_meaning ps b c)
  tree_meaning ps (compute op a b) c = computed op (tree_meaning ps a c) (tree_meaning ps b c)
  tree_meaning ps (negate a) c = negated (tree_meaning ps a c)
  tree_meaning ps (all_of ts) c = settled false (over (tree_meanings ps ts) c)
  tree_meaning ps (some_of ts) c = settled true (over (tree_meanings ps ts) c)
  tree_meaning ps (opposite a) c = turned_over (tree_meaning ps a c)
  tree_meaning ps (asks t negative a) c = tested t negative (tree_meaning ps a c)
  tree_meaning ps (between negative x a b) c =
      turned negative (settled false (compared AtLeast (tree_meaning ps x c) (tree_meaning ps a c)
      ∷ compared AtMost (tree_meaning ps x c) (tree_meaning ps b c) ∷ []))
  tree_meaning ps (within negative x ts) c =
      turned negative (strict (λ v. settled true (map (compared Equal (Is v)) (over (tree_meanings ps ts) c))) (tree_meaning ps x c))
  tree_meaning ps (matches negative x pattern) c = turned negative (strict (liked pattern) (tree_meaning ps x c))
  tree_meaning ps (parenthesised a) c = tree_meaning ps a c
  tree_meaning ps count_rows c = Is (Whole (pos (length c)))
  tree_meaning ps (aggregate function a) c = aggregated function (argument (tree_meaning ps a) c)

  pub tree_meanings : Tuple → Trees → List OnClass
  tree_meanings ps none = []
  tree_meanings ps (part t ts) = tree_meaning ps t ∷ tree_meanings ps ts

-- an expression means what its tree means
abbrev pub meaning : Tuple → Expr → OnClass
meaning params e = tree_meaning params (tree e)

-- the meanings of trees, one by one
abbrev pub means : Tuple → List Tree → List OnClass
means params ts = map (tree_meaning params) ts

-- the meanings of the parts of a form, whose trees it holds
abbrev pub parts_mean : Tuple → List Expr → List OnClass
parts_mean params es = tree_meanings params (trees (map tree es))
