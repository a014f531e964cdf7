-- Expressions without where they lie in memory.
use Rattle.std.specs.Prelude.{List, [], ◌∷◌, map, option_map}
use Rattle.std.specs.String.{string_bytes}
use Rattle.med_syntax.specs.declared.expr.Expr.{Expr}
use Rattle.med_syntax.specs.declared.expr.Expr.TheOpen.{Expr-F}
use Rattle.med_syntax.specs.declared.expr.Expr.TheFolds.{fold-Expr}
use Rattle.med_syntax.specs.ExprTree.{ExprTree, ExprTrees, num, negative, text, truth, null, column, call_all, call, paren, minus, binary, between, among, like, compare, tested, negation, chain, none, more}

abbrev pub trees_of : List ExprTree → ExprTrees
trees_of [] = none
trees_of (e ∷ es) = more e (trees_of es)

-- one layer, with the trees of its parts
abbrev pub step : Expr-F ExprTree → ExprTree
step (Expr-F.Number n) = num n
step (Expr-F.Negative n) = negative n
step (Expr-F.Text x) = text (string_bytes x)
step (Expr-F.Truth b) = truth b
step Expr-F.Null = null
step (Expr-F.Column q n) = column (option_map string_bytes q) (string_bytes n)
step (Expr-F.CallAll f) = call_all (string_bytes f)
step (Expr-F.Call f parts) = call (string_bytes f) (trees_of parts.items)
step (Expr-F.Paren e) = paren e.value
step (Expr-F.Minus e) = minus e.value
step (Expr-F.Binary op a b) = binary op a.value b.value
step (Expr-F.Between neg e low high) = between neg e.value low.value high.value
step (Expr-F.In neg e first others) = among neg e.value first.value (trees_of others.items)
step (Expr-F.Like neg e x) = like neg e.value (string_bytes x)
step (Expr-F.Compare op a b) = compare op a.value b.value
step (Expr-F.Is neg e s) = tested neg e.value s
step (Expr-F.Not e) = negation e.value
step (Expr-F.Chain joint first others) = chain joint first.value (trees_of others.items)

abbrev pub expr_tree : Expr → ExprTree
expr_tree = fold-Expr ExprTree step

abbrev pub expr_trees : List Expr → ExprTrees
expr_trees es = trees_of (map expr_tree es)
