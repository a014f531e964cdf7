-- Parts, one list after the other.
use Rattle.std.proofs.Common.{◌≡◌, List, [], ◌∷◌, ◌++◌, length, map, Some, refl, ap, sym, ◌∙◌}
use Rattle.med_value.specs.Datum.{NoValue}
use Rattle.tri_expr.specs.declared.expr.Expr.{Expr}
use Rattle.tri_expr.specs.declared.expr.SetFunction.{SetFunction}
use Rattle.bind_names.specs.Meaning.{aggregate_of}
use Rattle.tri_expr.specs.Tree.{Tree, Trees, none, part, tree, trees, literal}

abbrev pub trees_then : List Tree → Trees → Trees
trees_then [] us = us
trees_then (t ∷ ts) us = part t (trees_then ts us)

pub then_none : (ts : List Tree) → trees_then ts none ≡ trees ts
then_none [] = refl
then_none (t ∷ ts) = ap (part t) (then_none ts)

pub then_more : (ts : List Tree) (t : Tree) (us : Trees) → trees_then (ts ++ t ∷ []) us ≡ trees_then ts (part t us)
then_more [] t us = refl
then_more (u ∷ ts) t us = ap (part u) (then_more ts t us)

-- ---- in a loop

pub next_part : (ts : List Tree) (t u : Tree) (us all : Trees) → trees_then ts (part u us) ≡ all → t ≡ u → trees_then (ts ++ t ∷ []) us ≡ all
next_part ts t u us all e h = then_more ts t us ∙ ap (λ x. trees_then ts (part x us)) h ∙ e

pub all_parts : (ts : List Tree) (all : Trees) → trees_then ts none ≡ all → trees ts ≡ all
all_parts ts all e = sym (then_none ts) ∙ e

-- ---- calls

pub not_one : (f : SetFunction) (xs : List Expr) → (length xs ≡ 1 → ⊥) → literal NoValue ≡ aggregate_of (Some f) (trees (map tree xs))
not_one f [] h = refl
not_one f (x ∷ []) h = absurd (h refl)
not_one f (x ∷ y ∷ xs) h = refl
