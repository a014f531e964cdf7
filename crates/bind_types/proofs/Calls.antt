-- Calls of functions: there is none that takes no argument, or several.
use Rattle.std.proofs.Common.{◌≡◌, ◌≤◌, List, [], ◌∷◌, ◌++◌, Option, Some, None, length, refl, arith}
use Rattle.med_value.specs.declared.value.ColType.{ColType}
use Rattle.med_value.specs.declared.cause.Cause.TheVariants.{UndefinedFunction}
use Rattle.med_syntax.specs.declared.expr.Expr.{Expr}
use Rattle.med_syntax.specs.ExprView.{expr_tree, expr_trees}
use Rattle.tri_expr.specs.declared.expr.SetFunction.{SetFunction}
use Rattle.tri_expr.specs.declared.expr.SetFunction.TheVariants.{Count, Sum, Min, Max}
use Rattle.bind_names.specs.Prelude.{Scope, TellsCause}
use Rattle.bind_types.specs.Typing.{type_of, types_of, call_type, as_call, type_causes_of_all}
use Rattle.bind_names.proofs.Causes.{tells_right, tells_one}

two_untyped : (f : Option SetFunction) (t u : Option ColType) (ts : List (Option ColType)) → call_type f (t ∷ u ∷ ts) ≡ None
two_untyped None t u ts = refl
two_untyped (Some Count) t u ts = refl
two_untyped (Some Sum) t u ts = refl
two_untyped (Some Min) t u ts = refl
two_untyped (Some Max) t u ts = refl

pub several_untyped : (s : Scope) (f : Option SetFunction) (es : List Expr) → 2 ≤ length es → call_type f (types_of s (expr_trees es)) ≡ None
several_untyped s f [] h = absurd (omega arith)
several_untyped s f (e ∷ []) h = absurd (omega arith)
several_untyped s f (e ∷ d ∷ es) h = two_untyped f (type_of s (expr_tree e)) (type_of s (expr_tree d)) (types_of s (expr_trees es))

two_unknown : (f : Option SetFunction) (t u : Option ColType) (ts : List (Option ColType)) → as_call f (t ∷ u ∷ ts) ≡ UndefinedFunction ∷ []
two_unknown None t u ts = refl
two_unknown (Some Count) t u ts = refl
two_unknown (Some Sum) t u ts = refl
two_unknown (Some Min) t u ts = refl
two_unknown (Some Max) t u ts = refl

several_unknown : (s : Scope) (f : Option SetFunction) (es : List Expr) → 2 ≤ length es → as_call f (types_of s (expr_trees es)) ≡ UndefinedFunction ∷ []
several_unknown s f [] h = absurd (omega arith)
several_unknown s f (e ∷ []) h = absurd (omega arith)
several_unknown s f (e ∷ d ∷ es) h = two_unknown f (type_of s (expr_tree e)) (type_of s (expr_tree d)) (types_of s (expr_trees es))

-- a call of several arguments is refused
pub tells_several : (s : Scope) (f : Option SetFunction) (es : List Expr) → 2 ≤ length es → TellsCause (type_causes_of_all s (expr_trees es) ++ as_call f (types_of s (expr_trees es))) UndefinedFunction
tells_several s f es h = tells_right (type_causes_of_all s (expr_trees es)) _ _ (tells_one _ _ (several_unknown s f es h))
