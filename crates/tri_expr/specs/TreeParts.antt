-- What is read off the tree of an expression: whether it is risky, the arguments of its aggregates, and whether two are the same.
use Rattle.std.specs.Prelude.{Bool, true, false, not, ◌&&◌, ◌||◌, ◌==◌, bytes_eq, List, [], ◌∷◌, ◌++◌}
use Rattle.tri_expr.specs.declared.expr.Expr.{Expr}
use Rattle.tri_expr.specs.declared.expr.SetFunction.{SetFunction}
use Rattle.tri_expr.specs.declared.expr.SetFunction.TheVariants.{Count, Sum, Min, Max}
use Rattle.med_value.specs.declared.operators.Operation.{Operation}
use Rattle.med_value.specs.declared.operators.Operation.TheVariants.{Add, Subtract, Multiply, Divide, Remainder}
use Rattle.med_value.specs.declared.order.Comparison.{Comparison}
use Rattle.med_value.specs.declared.order.Comparison.TheVariants.{Equal, Apart, Below, AtMost, Above, AtLeast}
use Rattle.med_value.specs.declared.operators.Status.{Status}
use Rattle.med_value.specs.declared.operators.Status.TheVariants as statuses
use Rattle.tri_expr.specs.Lists.{datum_eq}
use Rattle.tri_expr.specs.Tree.{Tree, Trees, column, parameter, literal, compare, compute, negate, all_of, some_of, opposite, asks, between, within, matches, parenthesised, count_rows, aggregate, none, part, tree}

-- a sum may be out of range; count, min and max may not
abbrev pub adds_up : SetFunction → Bool
adds_up Sum = true
adds_up Count = false
adds_up Min = false
adds_up Max = false

-- Only these can fault: + - * / %, a unary minus on anything but a number, and sum.
abbrev mutual
  pub is_risky_tree : Tree → Bool
  is_risky_tree (compare op a b) = is_risky_tree a || is_risky_tree b
  is_risky_tree (compute op a b) = true
  is_risky_tree (negate a) = true
  is_risky_tree (all_of ts) = has_risky_tree ts
  is_risky_tree (some_of ts) = has_risky_tree ts
  is_risky_tree (opposite a) = is_risky_tree a
  is_risky_tree (asks t negative a) = is_risky_tree a
  is_risky_tree (between negative x a b) = is_risky_tree x || (is_risky_tree a || is_risky_tree b)
  is_risky_tree (within negative x ts) = is_risky_tree x || has_risky_tree ts
  is_risky_tree (matches negative x pattern) = is_risky_tree x
  is_risky_tree (parenthesised a) = is_risky_tree a
  is_risky_tree (aggregate function a) = adds_up function || is_risky_tree a
  is_risky_tree _ = false

  pub has_risky_tree : Trees → Bool
  has_risky_tree none = false
  has_risky_tree (part t ts) = is_risky_tree t || has_risky_tree ts

-- whether an expression may fault
abbrev pub is_risky : Expr → Bool
is_risky e = is_risky_tree (tree e)

-- the argument of each aggregate, from the left on; an aggregate in an argument has its own
abbrev mutual
  pub arguments_in : Tree → List Tree
  arguments_in (compare op a b) = arguments_in a ++ arguments_in b
  arguments_in (compute op a b) = arguments_in a ++ arguments_in b
  arguments_in (negate a) = arguments_in a
  arguments_in (all_of ts) = arguments_in_all ts
  arguments_in (some_of ts) = arguments_in_all ts
  arguments_in (opposite a) = arguments_in a
  arguments_in (asks t negative a) = arguments_in a
  arguments_in (between negative x a b) = arguments_in x ++ (arguments_in a ++ arguments_in b)
  arguments_in (within negative x ts) = arguments_in x ++ arguments_in_all ts
  arguments_in (matches negative x pattern) = arguments_in x
  arguments_in (parenthesised a) = arguments_in a
  arguments_in (aggregate function a) = a ∷ arguments_in a
  arguments_in _ = []

  pub arguments_in_all : Trees → List Tree
  arguments_in_all none = []
  arguments_in_all (part t ts) = arguments_in t ++ arguments_in_all ts

-- the tree without its parentheses
abbrev mutual
  pub bare : Tree → Tree
  bare (compare op a b) = compare op (bare a) (bare b)
  bare (compute op a b) = compute op (bare a) (bare b)
  bare (negate a) = negate (bare a)
  bare (all_of ts) = all_of (bare_all ts)
  bare (some_of ts) = some_of (bare_all ts)
  bare (opposite a) = opposite (bare a)
  bare (asks t negative a) = asks t negative (bare a)
  bare (between negative x a b) = between negative (bare x) (bare a) (bare b)
  bare (within negative x ts) = within negative (bare x) (bare_all ts)
  bare (matches negative x pattern) = matches negative (bare x) pattern
  bare (parenthesised a) = bare a
  bare (aggregate function a) = aggregate function (bare a)
  bare t = t

  pub bare_all : Trees → Trees
  bare_all none = none
  bare_all (part t ts) = part (bare t) (bare_all ts)

-- it stands in parentheses
abbrev pub is_parenthesised : Tree → Bool
is_parenthesised (parenthesised a) = true
is_parenthesised _ = false

-- ---- equality

abbrev pub same_operation : Operation → Operation → Bool
same_operation Add Add = true
same_operation Subtract Subtract = true
same_operation Multiply Multiply = true
same_operation Divide Divide = true
same_operation Remainder Remainder = true
same_operation a b = false

abbrev pub same_comparison : Comparison → Comparison → Bool
same_comparison Equal Equal = true
same_comparison Apart Apart = true
same_comparison Below Below = true
same_comparison AtMost AtMost = true
same_comparison Above Above = true
same_comparison AtLeast AtLeast = true
same_comparison a b = false

abbrev pub same_status : Status → Status → Bool
same_status statuses.Null statuses.Null = true
same_status statuses.True statuses.True = true
same_status statuses.False statuses.False = true
same_status statuses.Unknown statuses.Unknown = true
same_status a b = false

abbrev pub same_function : SetFunction → SetFunction → Bool
same_function Count Count = true
same_function Sum Sum = true
same_function Min Min = true
same_function Max Max = true
same_function a b = false

abbrev pub same_bool : Bool → Bool → Bool
same_bool true b = b
same_bool false b = not b

abbrev mutual
  pub tree_eq : Tree → Tree → Bool
  tree_eq (column at) (column other) = at == other
  tree_eq (parameter at) (parameter other) = at == other
  tree_eq (literal v) (literal w) = datum_eq v w
  tree_eq (compare op a b) (compare other c d) = same_comparison op other && (tree_eq a c && tree_eq b d)
  tree_eq (compute op a b) (compute other c d) = same_operation op other && (tree_eq a c && tree_eq b d)
  tree_eq (negate a) (negate b) = tree_eq a b
  tree_eq (all_of ts) (all_of us) = trees_eq ts us
  tree_eq (some_of ts) (some_of us) = trees_eq ts us
  tree_eq (opposite a) (opposite b) = tree_eq a b
  tree_eq (asks t negative a) (asks u other b) = same_status t u && (same_bool negative other && tree_eq a b)
  tree_eq (between negative x a b) (between other y c d) = same_bool negative other && (tree_eq x y && (tree_eq a c && tree_eq b d))
  tree_eq (within negative x ts) (within other y us) = same_bool negative other && (tree_eq x y && trees_eq ts us)
  tree_eq (matches negative x p) (matches other y q) = same_bool negative other && (tree_eq x y && bytes_eq p q)
  tree_eq (parenthesised a) (parenthesised b) = tree_eq a b
  tree_eq count_rows count_rows = true
  tree_eq (aggregate f a) (aggregate g b) = same_function f g && tree_eq a b
  tree_eq t u = false

  pub trees_eq : Trees → Trees → Bool
  trees_eq none none = true
  trees_eq (part t ts) (part u us) = tree_eq t u && trees_eq ts us
  trees_eq ts us = false

-- two expressions are the same: parentheses are looked through
abbrev pub same_tree : Tree → Tree → Bool
same_tree a b = tree_eq (bare a) (bare b)
