-- What an expression of a known form means, and its tree.
use Rattle.std.proofs.Common.{◌≡◌, ℕ, Bool, List, [], ◌∷◌, ◌++◌, map, sym, ap, ◌∙◌}
use Rattle.std.specs.declared.alloc.Global.{Global}
use Rattle.std.specs.declared.boxed.Box.{Box}
use Rattle.std.specs.declared.vec.Vec.{Vec}
use Rattle.std.specs.declared.string.String.{String}
use Rattle.std.specs.String.{string_bytes}
use Rattle.med_value.specs.declared.value.Value.{Value}
use Rattle.med_value.specs.Datum.{Tuple, datum}
use Rattle.med_value.specs.declared.order.Comparison.{Comparison}
use Rattle.med_value.specs.declared.operators.Operation.{Operation}
use Rattle.med_value.specs.declared.operators.Status.{Status}
use Rattle.tri_expr.specs.declared.expr.SetFunction.{SetFunction}
use Rattle.tri_expr.specs.declared.expr.Expr.{Expr}
use Rattle.tri_expr.specs.declared.expr.Expr.TheOpen as layer
use Rattle.tri_expr.specs.declared.expr.Expr.TheVariants as form
use Rattle.tri_expr.specs.declared.expr.Expr.TheViews.{roll-Expr}
use Rattle.tri_expr.specs.declared.expr.Expr.TheFolds.{fold-roll-Expr, map-Expr}
use Rattle.tri_expr.specs.Meaning.{tree_meaning, meaning}
use Rattle.tri_expr.specs.Tree.{Tree, column, parameter, literal, compare, compute, negate, all_of, some_of, opposite, asks, between, within, matches, parenthesised, count_rows, aggregate, trees, tree_step, tree}

abbrev pub Part : Type 0
Part = Box Expr Global

abbrev pub Parts : Type 0
Parts = Vec Expr Global

pub two : {A B C : Type 0} (f : A → B → C) {x y : A} {v w : B} → x ≡ y → v ≡ w → f x v ≡ f y w
two f {y} {v} e h = ap (λ a. f a v) e ∙ ap (f y) h

pub three : {A B C D : Type 0} (f : A → B → C → D) {x y : A} {v w : B} {p q : C} → x ≡ y → v ≡ w → p ≡ q → f x v p ≡ f y w q
three f {y} {v} {w} {p} e h i = ap (λ a. f a v p) e ∙ ap (λ b. f y b p) h ∙ ap (f y w) i

pub treed : (e : Expr) (y : layer.Expr-F Expr) → e ≡ roll-Expr y → tree e ≡ tree_step (map-Expr Expr Tree tree y)
treed e y is = ap tree is ∙ fold-roll-Expr Tree tree_step y

pub means : (ps : Tuple) (e : Expr) (y : layer.Expr-F Expr) (k : List Tuple) → e ≡ roll-Expr y → meaning ps e k ≡ tree_meaning ps (tree_step (map-Expr Expr Tree tree y)) k
means ps e y k is = ap (λ t. tree_meaning ps t k) (treed e y is)

pub tree_column : (e : Expr) (at : ℕ) → e ≡ form.Column at → tree e ≡ column at
tree_column e at is = treed e (layer.Column at) (is ∙ sym (form.rolls-Column at))

pub tree_parameter : (e : Expr) (at : ℕ) → e ≡ form.Parameter at → tree e ≡ parameter at
tree_parameter e at is = treed e (layer.Parameter at) (is ∙ sym (form.rolls-Parameter at))

pub tree_literal : (e : Expr) (v : Value) → e ≡ form.Literal v → tree e ≡ literal (datum v)
tree_literal e v is = treed e (layer.Literal v) (is ∙ sym (form.rolls-Literal v))

pub tree_compare : (e : Expr) (op : Comparison) (a b : Part) → e ≡ form.Compare op a b → tree e ≡ compare op (tree a.value) (tree b.value)
tree_compare e op a b is = treed e (layer.Compare op a b) (is ∙ sym (form.rolls-Compare op a b))

pub tree_compute : (e : Expr) (op : Operation) (a b : Part) → e ≡ form.Compute op a b → tree e ≡ compute op (tree a.value) (tree b.value)
tree_compute e op a b is = treed e (layer.Compute op a b) (is ∙ sym (form.rolls-Compute op a b))

pub tree_negate : (e : Expr) (a : Part) → e ≡ form.Negate a → tree e ≡ negate (tree a.value)
tree_negate e a is = treed e (layer.Negate a) (is ∙ sym (form.rolls-Negate a))

pub tree_and : (e : Expr) (parts : Parts) → e ≡ form.And parts → tree e ≡ all_of (trees (map tree parts.items))
tree_and e parts is = treed e (layer.And parts) (is ∙ sym (form.rolls-And parts))

pub tree_or : (e : Expr) (parts : Parts) → e ≡ form.Or parts → tree e ≡ some_of (trees (map tree parts.items))
tree_or e parts is = treed e (layer.Or parts) (is ∙ sym (form.rolls-Or parts))

pub tree_not : (e : Expr) (a : Part) → e ≡ form.Not a → tree e ≡ opposite (tree a.value)
tree_not e a is = treed e (layer.Not a) (is ∙ sym (form.rolls-Not a))

pub tree_is : (e : Expr) (test : Status) (negative : Bool) (a : Part) → e ≡ form.Is test negative a → tree e ≡ asks test negative (tree a.value)
tree_is e test negative a is = treed e (layer.Is test negative a) (is ∙ sym (form.rolls-Is test negative a))

pub tree_between : (e : Expr) (negative : Bool) (x a b : Part) → e ≡ form.Between negative x a b → tree e ≡ between negative (tree x.value) (tree a.value) (tree b.value)
tree_between e negative x a b is = treed e (layer.Between negative x a b) (is ∙ sym (form.rolls-Between negative x a b))

pub tree_in : (e : Expr) (negative : Bool) (x : Part) (parts : Parts) → e ≡ form.In negative x parts → tree e ≡ within negative (tree x.value) (trees (map tree parts.items))
tree_in e negative x parts is = treed e (layer.In negative x parts) (is ∙ sym (form.rolls-In negative x parts))

pub tree_like : (e : Expr) (negative : Bool) (x : Part) (pattern : String Global) → e ≡ form.Like negative x pattern → tree e ≡ matches negative (tree x.value) (string_bytes pattern)
tree_like e negative x pattern is = treed e (layer.Like negative x pattern) (is ∙ sym (form.rolls-Like negative x pattern))

pub tree_parenthesised : (e : Expr) (a : Part) → e ≡ form.Parenthesised a → tree e ≡ parenthesised (tree a.value)
tree_parenthesised e a is = treed e (layer.Parenthesised a) (is ∙ sym (form.rolls-Parenthesised a))

pub tree_count_rows : (e : Expr) → e ≡ form.CountRows → tree e ≡ count_rows
tree_count_rows e is = treed e layer.CountRows (is ∙ sym form.rolls-CountRows)

pub tree_aggregate : (e : Expr) (function : SetFunction) (a : Part) → e ≡ form.Aggregate function a → tree e ≡ aggregate function (tree a.value)
tree_aggregate e function a is = treed e (layer.Aggregate function a) (is ∙ sym (form.rolls-Aggregate function a))

pub pushed : (es : List Expr) (d e : Expr) → tree d ≡ tree e → map tree (es ++ (d ∷ [])) ≡ map tree es ++ (tree e ∷ [])
pushed [] d e h = ap (λ t. t ∷ []) h
pushed (x ∷ es) d e h = ap (λ ts. tree x ∷ ts) (pushed es d e h)
