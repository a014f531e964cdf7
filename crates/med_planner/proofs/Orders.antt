-- An order of keys, of which the first are known.
use Rattle.std.proofs.Common.{◌≡◌, ◌≤◌, ℕ, ◌==◌, false, List, [], ◌∷◌, ◌++◌, map, length, drop, Option, Some, None, ap, sym, drop_of_length-le}
use Rattle.tri_expr.specs.declared.expr.Expr.{Expr}
use Rattle.tri_expr.specs.Tree.{tree}
use Rattle.med_query.specs.Form.{direction_of}
use Rattle.med_query.specs.declared.select.SortDirection.{SortDirection}
use Rattle.fdw_api.specs.Scan.{KeyForm}
use Rattle.scan_loops.specs.Ordered.{order_of}

-- these keys before others
abbrev pub led : List KeyForm → Option (List KeyForm) → Option (List KeyForm)
led ks None = None
led ks (Some more) = Some (ks ++ more)

-- a direction without a key asks for no order
pub too_many : (ks : List KeyForm) (left : List SortDirection) (keys : List Expr) (k : ℕ) → length keys ≤ k → (length left == 0) ≡ false → None ≡ led ks (order_of (map direction_of left) (map tree (drop k keys)))
too_many ks [] keys k le h = absurd cc
too_many ks (d ∷ left) keys k le h = ap (λ (es : List Expr). led ks (order_of (map direction_of (d ∷ left)) (map tree es))) none
  where
    none : [] ≡ drop k keys
    none = sym (drop_of_length-le keys le)
