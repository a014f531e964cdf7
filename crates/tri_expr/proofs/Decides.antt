-- A condition is true exactly where each of its conjuncts is.
use Rattle.std.proofs.Common.{◌≡◌, Bool, true, false, ◌&&◌, cond, List, [], ◌∷◌, ◌++◌, map, refl, sym, ap, ◌∙◌, Option, Some, None}
use Rattle.std.specs.List.{list_any, list_all}
use Rattle.med_value.specs.Datum.{NoValue, Whole, Chars, Logic, Tuple}
use Rattle.tri_expr.specs.declared.expr.Fault.{Fault}
use Rattle.tri_expr.specs.Outcome.{Outcome, Is, Fails, truth, is_truth, first_fault, settled, over}
use Rattle.tri_expr.specs.Meaning.{OnClass, tree_meaning, tree_meanings, means}
use Rattle.tri_expr.specs.Verdict.{is_met, is_in}
use Rattle.tri_expr.specs.Tree.{Tree, column, parameter, literal, compare, compute, negate, all_of, some_of, opposite, asks, between, within, matches, parenthesised, count_rows, aggregate, Trees, none, part, conjunct_trees, conjuncts_of_all}

and_assoc : (p q r : Bool) → ((p && q) && r) ≡ (p && (q && r))
and_assoc true q r = refl
and_assoc false q r = refl

and_true : (p : Bool) → (p && true) ≡ p
and_true true = refl
and_true false = refl

in_append : (os us : List Outcome) → is_in (os ++ us) ≡ (is_in os && is_in us)
in_append [] us = refl
in_append (o ∷ os) us = ap (λ b. is_met o && b) (in_append os us) ∙ sym (and_assoc (is_met o) (is_in os) (is_in us))

over_append : (fs gs : List OnClass) (c : List Tuple) → over (fs ++ gs) c ≡ over fs c ++ over gs c
over_append [] gs c = refl
over_append (f ∷ fs) gs c = ap (λ (l : List Outcome). f c ∷ l) (over_append fs gs c)

map_append : {X Y : Type 0} (f : X → Y) (xs ys : List X) → map f (xs ++ ys) ≡ map f xs ++ map f ys
map_append f [] ys = refl
map_append f (x ∷ xs) ys = ap (λ l. f x ∷ l) (map_append f xs ys)

-- AND of outcomes is true exactly where each is
met_is : (o : Outcome) → is_truth true o ≡ is_met o
met_is (Is NoValue) = refl
met_is (Is (Whole n)) = refl
met_is (Is (Chars t)) = refl
met_is (Is (Logic b)) = refl
met_is (Fails c) = refl

one_out : (o : Outcome) (os : List Outcome) → is_truth false o ≡ true → is_in (o ∷ os) ≡ false
one_out (Is NoValue) os e = absurd cc
one_out (Is (Whole n)) os e = absurd cc
one_out (Is (Chars t)) os e = absurd cc
one_out (Is (Logic true)) os e = absurd cc
one_out (Is (Logic false)) os e = refl
one_out (Fails c) os e = absurd cc

and_off : (p q : Bool) → q ≡ false → (p && q) ≡ false
and_off true q e = e
and_off false q e = refl

any_out_by : (o : Outcome) (os : List Outcome) (b : Bool) → is_truth false o ≡ b → list_any (is_truth false) (o ∷ os) ≡ true → (list_any (is_truth false) os ≡ true → is_in os ≡ false) → is_in (o ∷ os) ≡ false
any_out_by o os true e h f = one_out o os e
any_out_by o os false e h f = and_off (is_met o) (is_in os) (f (rw e at h))

any_out : (os : List Outcome) → list_any (is_truth false) os ≡ true → is_in os ≡ false
any_out [] h = absurd cc
any_out (o ∷ os) h = any_out_by o os (is_truth false o) refl h (any_out os)

fault_out : (os : List Outcome) (c : Fault) → first_fault os ≡ Some c → is_in os ≡ false
fault_out [] c e = absurd cc
fault_out (Is v ∷ os) c e = and_off (is_met (Is v)) (is_in os) (fault_out os c e)
fault_out (Fails d ∷ os) c e = refl

all_in : (os : List Outcome) → list_all (is_truth true) os ≡ is_in os
all_in [] = refl
all_in (o ∷ os) = ap (λ b. b && list_all (is_truth true) os) (met_is o) ∙ ap (λ b. is_met o && b) (all_in os)

met_cond : (b : Bool) → is_met (cond b (truth true) (Is NoValue)) ≡ b
met_cond true = refl
met_cond false = refl

settled_by : (os : List Outcome) (b : Bool) (f : Option Fault) → list_any (is_truth false) os ≡ b → first_fault os ≡ f → is_met (settled false os) ≡ is_in os
settled_by os true f e g = rw e (sym (any_out os e))
settled_by os false None e g = rw (e, g) (met_cond (list_all (is_truth true) os) ∙ all_in os)
settled_by os false (Some c) e g = rw (e, g) (sym (fault_out os c g))

pub settled_in : (os : List Outcome) → is_met (settled false os) ≡ is_in os
settled_in os = settled_by os (list_any (is_truth false) os) (first_fault os) refl refl

abbrev parts_in : Tuple → List Tuple → List Tree → Bool
parts_in ps c ts = is_in (over (means ps ts) c)

parts_append : (ps : Tuple) (c : List Tuple) (ts us : List Tree) → parts_in ps c (ts ++ us) ≡ (parts_in ps c ts && parts_in ps c us)
parts_append ps c ts us =
    ap (λ (l : List OnClass). is_in (over l c)) (map_append (tree_meaning ps) ts us) ∙ ap is_in (over_append (map (tree_meaning ps) ts) (map (tree_meaning ps) us) c) ∙ in_append (over (map (tree_meaning ps) ts) c) (over (map (tree_meaning ps) us) c)

mutual
  pub tree_decides : (ps : Tuple) (c : List Tuple) (t : Tree) → parts_in ps c (conjunct_trees t) ≡ is_met (tree_meaning ps t c)
  tree_decides ps c (column at) = and_true _
  tree_decides ps c (parameter at) = and_true _
  tree_decides ps c (literal v) = and_true _
  tree_decides ps c (compare op a b) = and_true _
  tree_decides ps c (compute op a b) = and_true _
  tree_decides ps c (negate a) = and_true _
  tree_decides ps c (all_of ts) = trees_decide ps c ts ∙ sym (settled_in (over (tree_meanings ps ts) c))
  tree_decides ps c (some_of ts) = and_true _
  tree_decides ps c (opposite a) = and_true _
  tree_decides ps c (asks t negative a) = and_true _
  tree_decides ps c (between negative x a b) = and_true _
  tree_decides ps c (within negative x ts) = and_true _
  tree_decides ps c (matches negative x pattern) = and_true _
  tree_decides ps c (parenthesised a) = tree_decides ps c a
  tree_decides ps c count_rows = and_true _
  tree_decides ps c (aggregate function a) = and_true _

  trees_decide : (ps : Tuple) (c : List Tuple) (ts : Trees) → parts_in ps c (conjuncts_of_all ts) ≡ is_in (over (tree_meanings ps ts) c)
  trees_decide ps c none = refl
  trees_decide ps c (part t ts) =
      parts_append ps c (conjunct_trees t) (conjuncts_of_all ts) ∙ ap (λ b. b && parts_in ps c (conjuncts_of_all ts)) (tree_decides ps c t) ∙ ap (λ b. is_met (tree_meaning ps t c) && b) (trees_decide ps c ts)
