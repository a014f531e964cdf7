-- Expressions over what is in view, and a WHERE beside them.
use Rattle.std.proofs.Common.{◌≡◌, List, [], map, flat_map, Option, refl, sym, subst, ◌∙◌}
use Rattle.med_value.specs.declared.cause.Cause.{Cause}
use Rattle.med_syntax.specs.ExprTree.{ExprTree}
use Rattle.tri_expr.specs.Tree.{Tree, tree}
use Rattle.bind_names.specs.Prelude.{resolved, conditions_of, name_causes, condition_name_causes, Scope, TellsCause}
use Rattle.bind_names.proofs.Causes.{none_of_two}
use Rattle.med_binder.specs.Turns.{TellsInTurn}
use Rattle.bind_write.specs.Asking.{AreBound, types_over, value_names}
use Rattle.bind_write.specs.Typing.{asked_types}
use Rattle.bind_write.specs.declared.write_values.BoundValues.{BoundValues}
use Rattle.bind_write.proofs.Lists.{types_in_turn}

-- the causes of their types are those over what they mean
same_types : (s : Scope) (es : List ExprTree) (condition : Option ExprTree) (ts conjuncts : List Tree) → ts ≡ map (resolved s) es → conjuncts ≡ conditions_of s condition
    → types_over s es condition ts conjuncts ≡ asked_types s es condition
same_types s es condition ts conjuncts v w = rw (v, w) refl

no_names : (s : Scope) (es : List ExprTree) (condition : Option ExprTree) → flat_map (name_causes s) es ≡ [] → condition_name_causes s condition ≡ [] → value_names s es condition ≡ []
no_names s es condition a b = none_of_two (flat_map (name_causes s) es) (condition_name_causes s condition) a b

pub types_told : (s : Scope) (es : List ExprTree) (condition : Option ExprTree) (ts conjuncts : List Tree) (c : Cause) → flat_map (name_causes s) es ≡ [] → condition_name_causes s condition ≡ []
    → ts ≡ map (resolved s) es → conjuncts ≡ conditions_of s condition → TellsCause (types_over s es condition ts conjuncts) c → TellsInTurn (value_names s es condition) (asked_types s es condition) c
types_told s es condition ts conjuncts c a b v w t =
    types_in_turn (value_names s es condition) (asked_types s es condition) (asked_types s es condition) c (no_names s es condition a b) (λ d h. h)
    (subst (λ xs. TellsCause xs c) (same_types s es condition ts conjuncts v w) t)

pub values_bound : (s : Scope) (es : List ExprTree) (condition : Option ExprTree) (ts conjuncts : List Tree) (b : BoundValues) → map tree b.values.items ≡ map (resolved s) es → map tree b.conditions.items ≡ conditions_of s condition
    → flat_map (name_causes s) es ≡ [] → condition_name_causes s condition ≡ [] → ts ≡ map (resolved s) es → conjuncts ≡ conditions_of s condition → types_over s es condition ts conjuncts ≡ [] → AreBound s es condition b
values_bound s es condition ts conjuncts b is cs a n v w none = record {
  values = is;
  conditions = cs;
  names = no_names s es condition a n;
  types = sym (same_types s es condition ts conjuncts v w) ∙ none;
}
