-- An expression as it is written: two expressions with one tree are the same, whatever memory they lie in.
use Rattle.std.specs.Prelude.{ℕ, Bool, List, [], ◌∷◌, ◌++◌}
use Rattle.std.specs.String.{string_bytes}
use Rattle.med_value.specs.Datum.{Datum, datum}
use Rattle.tri_expr.specs.declared.expr.Expr.{Expr}
use Rattle.tri_expr.specs.declared.expr.Expr.TheOpen as layer
use Rattle.tri_expr.specs.declared.expr.Expr.TheFolds.{fold-Expr}
use Rattle.med_value.specs.declared.order.Comparison.{Comparison}
use Rattle.med_value.specs.declared.operators.Operation.{Operation}
use Rattle.med_value.specs.declared.operators.Status.{Status}
use Rattle.tri_expr.specs.declared.expr.SetFunction.{SetFunction}

-- one case for each form; AND, OR and IN have their parts as a list
mutual
  pub data Tree : Type 0 where
    column : ℕ → Tree
    parameter : ℕ → Tree
    literal : Datum → Tree
    compare : Comparison → Tree → Tree → Tree
    compute : Operation → Tree → Tree → Tree
    negate : Tree → Tree
    all_of : Trees → Tree
    some_of : Trees → Tree
    opposite : Tree → Tree
    asks : Status → Bool → Tree → Tree
    between : Bool → Tree → Tree → Tree → Tree
    within : Bool → Tree → Trees → Tree
    matches : Bool → Tree → List ℕ → Tree
    parenthesised : Tree → Tree
    count_rows : Tree
    aggregate : SetFunction → Tree → Tree

  pub data Trees : Type 0 where
    none : Trees
    part : Tree → Trees → Trees

-- a list of parts
abbrev pub trees : List Tree → Trees
trees [] = none
trees (t ∷ ts) = part t (trees ts)

-- one form, with the tree of each operand in its place
abbrev pub tree_step : layer.Expr-F Tree → Tree
tree_step (layer.Column at) = column at
tree_step (layer.Parameter at) = parameter at
tree_step (layer.Literal v) = literal (datum v)
tree_step (layer.Compare op a b) = compare op a.value b.value
tree_step (layer.Compute op a b) = compute op a.value b.value
tree_step (layer.Negate a) = negate a.value
tree_step (layer.And parts) = all_of (trees parts.items)
tree_step (layer.Or parts) = some_of (trees parts.items)
tree_step (layer.Not a) = opposite a.value
tree_step (layer.Is t negative a) = asks t negative a.value
tree_step (layer.Between negative x a b) = between negative x.value a.value b.value
tree_step (layer.In negative x parts) = within negative x.value (trees parts.items)
tree_step (layer.Like negative x pattern) = matches negative x.value (string_bytes pattern)
tree_step (layer.Parenthesised a) = parenthesised a.value
tree_step layer.CountRows = count_rows
tree_step (layer.Aggregate function a) = aggregate function a.value

-- the tree of a whole expression
abbrev pub tree : Expr → Tree
tree = fold-Expr Tree tree_step

-- the parts of a condition at its top-level ANDs, through parentheses, in the order in which they are written;
-- any other condition, a BETWEEN too, is one part
abbrev mutual
  pub conjunct_trees : Tree → List Tree
  conjunct_trees (all_of ts) = conjuncts_of_all ts
  conjunct_trees (parenthesised t) = conjunct_trees t
  conjunct_trees t = t ∷ []

  pub conjuncts_of_all : Trees → List Tree
  conjuncts_of_all none = []
  conjuncts_of_all (part t ts) = conjunct_trees t ++ conjuncts_of_all ts
