-- The parts of a list of expressions, one after the other.
use Rattle.std.proofs.Common.{◌≡◌, ℕ, suc, ◌+◌, ◌<◌, ◌≤◌, List, ◌∷◌, length, drop, get_or, sym, ap, add-one, drop-cons, arith}
use Rattle.med_syntax.specs.declared.expr.Expr.{Expr}
use Rattle.med_syntax.specs.Prelude.{more, highest, expr_tree, expr_trees}

-- the element at a place is the first of the rest
pub drop_read : {X : Type 0} (xs : List X) (i : ℕ) (x : X) → i < length xs → x ≡ get_or xs i x → drop i xs ≡ x ∷ drop (i + 1) xs
drop_read xs i x lt read = rw (add-one, drop-cons xs i x) (ap (λ y. y ∷ drop (suc i) xs) (sym read))

pub trees_at : (xs : List Expr) (i : ℕ) (x : Expr) → i < length xs → x ≡ get_or xs i x → expr_trees (drop i xs) ≡ more (expr_tree x) (expr_trees (drop (i + 1) xs))
trees_at xs i x lt read = ap expr_trees (drop_read xs i x lt read)

pub no_higher : (xs : List Expr) (i : ℕ) (x : Expr) → i < length xs → x ≡ get_or xs i x → highest (expr_trees (drop i xs)) ≤ highest (expr_trees xs) → highest (expr_trees (drop (i + 1) xs)) ≤ highest (expr_trees xs)
no_higher xs i x lt read h = let e = ap highest (trees_at xs i x lt read) in omega (arith, e, h)
