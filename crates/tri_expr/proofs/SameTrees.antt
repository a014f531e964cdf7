-- Two trees that the test takes as the same are one tree, and a tree without its parentheses means the same.
use Rattle.std.proofs.Common.{◌≡◌, suc, Bool, true, false, ◌&&◌, refl, ap, subst, List, [], ◌∷◌, length, bytes_eq, eqb-true, eq-eqb, map}
use Rattle.std.specs.declared.cmp.Ordering.{Ordering}
use Rattle.std.specs.declared.cmp.Ordering.TheVariants.{Less, Equal as Even, Greater}
use Rattle.std.specs.Ordering.{is_eq}
use Rattle.std.proofs.lemmas.Bool.{false≢true}
use Rattle.std.proofs.lemmas.Slice.Eq.{bytes_eq-Decides}
use Rattle.med_value.specs.Prelude.{Datum, datum_cmp}
use Rattle.med_value.proofs.OrderLemmas.{datum_cmp_equal}
use Rattle.tri_expr.specs.declared.expr.SetFunction.{SetFunction}
use Rattle.tri_expr.specs.declared.expr.SetFunction.TheVariants.{Count, Sum, Min, Max}
use Rattle.med_value.specs.declared.operators.Operation.{Operation}
use Rattle.med_value.specs.declared.operators.Operation.TheVariants.{Add, Subtract, Multiply, Divide, Remainder}
use Rattle.med_value.specs.declared.order.Comparison.{Comparison}
use Rattle.med_value.specs.declared.order.Comparison.TheVariants.{Equal, Apart, Below, AtMost, Above, AtLeast}
use Rattle.med_value.specs.declared.operators.Status.{Status}
use Rattle.med_value.specs.declared.operators.Status.TheVariants as statuses
use Rattle.tri_expr.specs.declared.expr.Expr.{Expr}
use Rattle.tri_expr.specs.Lists.{datum_eq}
use Rattle.tri_expr.specs.Tree.{Tree, column, parameter, literal, compare, compute, negate, all_of, some_of, opposite, asks, between, within, matches, parenthesised, count_rows, aggregate, Trees, none, part, trees, tree}
use Rattle.tri_expr.specs.TreeParts.{bare, bare_all, same_operation, same_comparison, same_status, same_function, same_bool, tree_eq, trees_eq, same_tree}
use Rattle.tri_expr.proofs.Choice.{datum_cmp_self}

left_on : (p q : Bool) → (p && q) ≡ true → p ≡ true
left_on true q e = refl
left_on false q e = absurd (false≢true e)

right_on : (p q : Bool) → (p && q) ≡ true → q ≡ true
right_on true q e = e
right_on false q e = absurd (false≢true e)

both_on : {p q : Bool} → p ≡ true → q ≡ true → (p && q) ≡ true
both_on e f = rw (e, f) refl

one_comparison : (a b : Comparison) → same_comparison a b ≡ true → a ≡ b
one_comparison Equal Equal e = refl
one_comparison Apart Apart e = refl
one_comparison Below Below e = refl
one_comparison AtMost AtMost e = refl
one_comparison Above Above e = refl
one_comparison AtLeast AtLeast e = refl
one_comparison a b e = absurd (false≢true e)

one_operation : (a b : Operation) → same_operation a b ≡ true → a ≡ b
one_operation Add Add e = refl
one_operation Subtract Subtract e = refl
one_operation Multiply Multiply e = refl
one_operation Divide Divide e = refl
one_operation Remainder Remainder e = refl
one_operation a b e = absurd (false≢true e)

one_status : (a b : Status) → same_status a b ≡ true → a ≡ b
one_status statuses.Null statuses.Null e = refl
one_status statuses.True statuses.True e = refl
one_status statuses.False statuses.False e = refl
one_status statuses.Unknown statuses.Unknown e = refl
one_status a b e = absurd (false≢true e)

one_function : (a b : SetFunction) → same_function a b ≡ true → a ≡ b
one_function Count Count e = refl
one_function Sum Sum e = refl
one_function Min Min e = refl
one_function Max Max e = refl
one_function a b e = absurd (false≢true e)

one_bool : (a b : Bool) → same_bool a b ≡ true → a ≡ b
one_bool true true e = refl
one_bool true false e = absurd (false≢true e)
one_bool false true e = absurd (false≢true e)
one_bool false false e = refl

is_even : (o : Ordering) → is_eq o ≡ true → o ≡ Even
is_even Less e = absurd (false≢true e)
is_even Even e = refl
is_even Greater e = absurd (false≢true e)

one_datum : (v w : Datum) → datum_eq v w ≡ true → v ≡ w
one_datum v w e = datum_cmp_equal v w (is_even (datum_cmp v w) e)

mutual
  one_tree : (a b : Tree) → tree_eq a b ≡ true → a ≡ b
  one_tree (column at) (column other) e = ap column (eqb-true at other e)
  one_tree (parameter at) (parameter other) e = ap parameter (eqb-true at other e)
  one_tree (literal v) (literal w) e = ap literal (one_datum v w e)
  one_tree (compare op a b) (compare other c d) e =
      let f = right_on (same_comparison op other) (tree_eq a c && tree_eq b d) e in
      let p = one_comparison op other (left_on (same_comparison op other) (tree_eq a c && tree_eq b d) e) in
      let q = one_tree a c (left_on (tree_eq a c) (tree_eq b d) f) in
      let r = one_tree b d (right_on (tree_eq a c) (tree_eq b d) f) in
      cc
  one_tree (compute op a b) (compute other c d) e =
      let f = right_on (same_operation op other) (tree_eq a c && tree_eq b d) e in
      let p = one_operation op other (left_on (same_operation op other) (tree_eq a c && tree_eq b d) e) in
      let q = one_tree a c (left_on (tree_eq a c) (tree_eq b d) f) in
      let r = one_tree b d (right_on (tree_eq a c) (tree_eq b d) f) in
      cc
  one_tree (negate a) (negate b) e = ap negate (one_tree a b e)
  one_tree (all_of ts) (all_of us) e = ap all_of (one_list ts us e)
  one_tree (some_of ts) (some_of us) e = ap some_of (one_list ts us e)
  one_tree (opposite a) (opposite b) e = ap opposite (one_tree a b e)
  one_tree (asks t negative a) (asks u other b) e =
      let f = right_on (same_status t u) (same_bool negative other && tree_eq a b) e in
      let p = one_status t u (left_on (same_status t u) (same_bool negative other && tree_eq a b) e) in
      let q = one_bool negative other (left_on (same_bool negative other) (tree_eq a b) f) in
      let r = one_tree a b (right_on (same_bool negative other) (tree_eq a b) f) in
      cc
  one_tree (between negative x a b) (between other y c d) e =
      let f = right_on (same_bool negative other) (tree_eq x y && (tree_eq a c && tree_eq b d)) e in
      let g = right_on (tree_eq x y) (tree_eq a c && tree_eq b d) f in
      let p = one_bool negative other (left_on (same_bool negative other) (tree_eq x y && (tree_eq a c && tree_eq b d)) e) in
      let q = one_tree x y (left_on (tree_eq x y) (tree_eq a c && tree_eq b d) f) in
      let r = one_tree a c (left_on (tree_eq a c) (tree_eq b d) g) in
      let s = one_tree b d (right_on (tree_eq a c) (tree_eq b d) g) in
      cc
  one_tree (within negative x ts) (within other y us) e =
      let f = right_on (same_bool negative other) (tree_eq x y && trees_eq ts us) e in
      let p = one_bool negative other (left_on (same_bool negative other) (tree_eq x y && trees_eq ts us) e) in
      let q = one_tree x y (left_on (tree_eq x y) (trees_eq ts us) f) in
      let r = one_list ts us (right_on (tree_eq x y) (trees_eq ts us) f) in
      cc
  one_tree (matches negative x s) (matches other y t) e =
      let f = right_on (same_bool negative other) (tree_eq x y && bytes_eq s t) e in
      let p = one_bool negative other (left_on (same_bool negative other) (tree_eq x y && bytes_eq s t) e) in
      let q = one_tree x y (left_on (tree_eq x y) (bytes_eq s t) f) in
      let r = (bytes_eq-Decides s t).0 (right_on (tree_eq x y) (bytes_eq s t) f) in
      cc
  one_tree (parenthesised a) (parenthesised b) e = ap parenthesised (one_tree a b e)
  one_tree count_rows count_rows e = refl
  one_tree (aggregate function a) (aggregate other b) e =
      let p = one_function function other (left_on (same_function function other) (tree_eq a b) e) in
      let q = one_tree a b (right_on (same_function function other) (tree_eq a b) e) in
      cc
  one_tree a b e = absurd (false≢true e)

  one_list : (ts us : Trees) → trees_eq ts us ≡ true → ts ≡ us
  one_list none none e = refl
  one_list (part t ts) (part u us) e =
      let p = one_tree t u (left_on (tree_eq t u) (trees_eq ts us) e) in
      let q = one_list ts us (right_on (tree_eq t u) (trees_eq ts us) e) in
      cc
  one_list none (part u us) e = absurd (false≢true e)
  one_list (part t ts) none e = absurd (false≢true e)

pub one_bare_tree : (a b : Tree) → same_tree a b ≡ true → bare a ≡ bare b
one_bare_tree a b e = one_tree (bare a) (bare b) e

-- each is the same as itself
own_comparison : (a : Comparison) → same_comparison a a ≡ true
own_comparison Equal = refl
own_comparison Apart = refl
own_comparison Below = refl
own_comparison AtMost = refl
own_comparison Above = refl
own_comparison AtLeast = refl

own_operation : (a : Operation) → same_operation a a ≡ true
own_operation Add = refl
own_operation Subtract = refl
own_operation Multiply = refl
own_operation Divide = refl
own_operation Remainder = refl

own_status : (a : Status) → same_status a a ≡ true
own_status statuses.Null = refl
own_status statuses.True = refl
own_status statuses.False = refl
own_status statuses.Unknown = refl

own_function : (a : SetFunction) → same_function a a ≡ true
own_function Count = refl
own_function Sum = refl
own_function Min = refl
own_function Max = refl

own_bool : (b : Bool) → same_bool b b ≡ true
own_bool true = refl
own_bool false = refl

mutual
  own_tree : (t : Tree) → tree_eq t t ≡ true
  own_tree (column at) = eq-eqb at at refl
  own_tree (parameter at) = eq-eqb at at refl
  own_tree (literal v) = ap is_eq (datum_cmp_self v)
  own_tree (compare op a b) = both_on (own_comparison op) (both_on (own_tree a) (own_tree b))
  own_tree (compute op a b) = both_on (own_operation op) (both_on (own_tree a) (own_tree b))
  own_tree (negate a) = own_tree a
  own_tree (all_of ts) = own_list ts
  own_tree (some_of ts) = own_list ts
  own_tree (opposite a) = own_tree a
  own_tree (asks t negative a) = both_on (own_status t) (both_on (own_bool negative) (own_tree a))
  own_tree (between negative x a b) = both_on (own_bool negative) (both_on (own_tree x) (both_on (own_tree a) (own_tree b)))
  own_tree (within negative x ts) = both_on (own_bool negative) (both_on (own_tree x) (own_list ts))
  own_tree (matches negative x pattern) = both_on (own_bool negative) (both_on (own_tree x) ((bytes_eq-Decides pattern pattern).1 refl))
  own_tree (parenthesised a) = own_tree a
  own_tree count_rows = refl
  own_tree (aggregate function a) = both_on (own_function function) (own_tree a)

  own_list : (ts : Trees) → trees_eq ts ts ≡ true
  own_list none = refl
  own_list (part t ts) = both_on (own_tree t) (own_list ts)

pub by_bare_tree : (a b : Tree) → bare a ≡ bare b → same_tree a b ≡ true
by_bare_tree a b e = subst (λ t. tree_eq (bare a) t ≡ true) e (own_tree (bare a))

-- lists of two lengths are not the same
off : (p q : Bool) → false ≡ q → false ≡ (p && q)
off true q e = e
off false q e = refl

pub of_two_lengths : (es fs : List Expr) → (length es ≡ length fs → ⊥) → false ≡ trees_eq (bare_all (trees (map tree es))) (bare_all (trees (map tree fs)))
of_two_lengths [] [] h = absurd (h refl)
of_two_lengths [] (f ∷ fs) h = refl
of_two_lengths (e ∷ es) [] h = refl
of_two_lengths (e ∷ es) (f ∷ fs) h = off (tree_eq (bare (tree e)) (bare (tree f))) _ (of_two_lengths es fs (λ s. h (ap suc s)))
