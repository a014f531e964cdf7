-- Expressions over the values of leaves mean the same over more leaves, and each form is lifted where its parts are.
use Rattle.std.proofs.Common.{◌≡◌, ◌<◌, ◌≤◌, ◌+◌, ◌*◌, ℕ, Bool, true, false, List, [], ◌∷◌, ◌++◌, map, take, length, get_or, sym, refl, ap, ◌∙◌, append_assoc, arith}
use Rattle.std.proofs.lemmas.List.{map_more, map-append, take_all, get_or-append-add}
use Rattle.std.specs.declared.alloc.Global.{Global}
use Rattle.std.specs.declared.string.String.{String}
use Rattle.std.specs.String.{string_bytes}
use Rattle.med_value.specs.Datum.{NoValue, Tuple, cell}
use Rattle.med_value.specs.declared.order.Comparison.{Comparison}
use Rattle.med_value.specs.declared.operators.Operation.{Operation}
use Rattle.med_value.specs.declared.order.Comparison.TheVariants.{Equal, AtMost, AtLeast}
use Rattle.tri_expr.specs.declared.expr.Expr.{Expr}
use Rattle.tri_expr.specs.declared.expr.Expr.TheOpen as layer
use Rattle.tri_expr.specs.declared.expr.Expr.TheVariants as form
use Rattle.tri_expr.specs.declared.expr.SetFunction.{SetFunction}
use Rattle.tri_expr.specs.Prelude.{aggregated, Outcome, Is, compared, computed, turned, settled, strict, over, Tree, tree}
use Rattle.tri_expr.specs.Meaning.{OnClass, liked, meaning, means as tree_means, parts_mean, tree_meaning}
use Rattle.tri_expr.proofs.Forms.{Part, Parts, means, two, three}
use Rattle.med_query.specs.Query.{senses}
use Rattle.query_answer.specs.declared.leaves.Leaf.{Leaf}
use Rattle.query_answer.specs.Leaves.{argument_values, leaf_beyond, leaf_value, leaf_values, AllLift, AreMore, Lifts}
use Rattle.query_answer.proofs.Runnings.{values_append}

-- further leaves
pub more_again : (a b d : List Leaf) → AreMore a b → AreMore b d → AreMore a d
more_again a b d g h = (g.0 ++ h.0, h.1 ∙ ap (λ (ls : List Leaf). ls ++ h.0) g.1 ∙ append_assoc a g.0 h.0)

still : (old new more : List Leaf) (g : AreMore old new) → new ++ more ≡ old ++ (g.0 ++ more)
still old new more g = ap (λ (ls : List Leaf). ls ++ more) g.1 ∙ append_assoc old g.0 more

pub lifts_still : (old new : List Leaf) (e lifted : Expr) → AreMore old new → Lifts old e lifted → Lifts new e lifted
lifts_still old new e lifted g h more c = ap (λ (ls : List Leaf). meaning (leaf_values ls c) lifted []) (still old new more g) ∙ h (g.0 ++ more) c

pub all_lift_still : (old new : List Leaf) (es lifted : List Expr) → AreMore old new → AllLift old es lifted → AllLift new es lifted
all_lift_still old new es lifted g h more c = ap (λ (ls : List Leaf). over (senses (leaf_values ls c) lifted) []) (still old new more g) ∙ h (g.0 ++ more) c

-- where what one more leaf gives stands
values_long : (ls : List Leaf) (c : List Tuple) → length (leaf_values ls c) ≡ 2 * length ls
values_long [] c = refl
values_long (l ∷ ls) c = let e = values_long ls c in omega (arith, e)

pub given_at : (old new more : List Leaf) (l : Leaf) (c : List Tuple) (i : ℕ) → new ≡ old ++ l ∷ []
    → cell (leaf_values (new ++ more) c) (2 * length old + i) ≡ cell (leaf_value l c ∷ leaf_beyond l c ∷ leaf_values more c) i
given_at old new more l c i is =
    let behind = leaf_value l c ∷ leaf_beyond l c ∷ leaf_values more c in
    ap (λ (ls : List Leaf). cell (leaf_values (ls ++ more) c) (2 * length old + i)) is
    ∙ ap (λ (ls : List Leaf). cell (leaf_values ls c) (2 * length old + i)) (append_assoc old (l ∷ []) more)
    ∙ ap (λ (vs : Tuple). cell vs (2 * length old + i)) (values_append old (l ∷ more) c)
    ∙ ap (λ (n : ℕ). cell (leaf_values old c ++ behind) (n + i)) (sym (values_long old c))
    ∙ get_or-append-add (leaf_values old c) behind i NoValue

-- one expression more
outcomes_append : (ps : Tuple) (es : List Expr) (e : Expr) (k : List Tuple) → over (senses ps (es ++ e ∷ [])) k ≡ over (senses ps es) k ++ meaning ps e k ∷ []
outcomes_append ps [] e k = refl
outcomes_append ps (x ∷ es) e k = ap (λ (os : List Outcome). meaning ps x k ∷ os) (outcomes_append ps es e k)

outcomes_more : (parts : List Expr) (k : List Tuple) (i : ℕ) (d : Expr) → i < length parts → d ≡ get_or parts i d → over (senses [] (take (i + 1) parts)) k ≡ over (senses [] (take i parts)) k ++ meaning [] d k ∷ []
outcomes_more parts k i d lt e = ap (λ (ts : List Tree). over (tree_means [] ts) k) (map_more tree parts i d lt) ∙ ap (λ (fs : List OnClass). over fs k) (map-append (tree_meaning []) (map tree (take i parts)) (tree (get_or parts i d) ∷ [])) ∙ map-append (λ (f : OnClass). f k) (senses [] (take i parts)) (meaning [] (get_or parts i d) ∷ []) ∙ ap (λ (x : Expr). over (senses [] (take i parts)) k ++ meaning [] x k ∷ []) (sym e)

pub one_more_lifts : (old new : List Leaf) (parts all grown : List Expr) (i : ℕ) (d lifted : Expr) → i < length parts → d ≡ get_or parts i d → AreMore old new → grown ≡ all ++ lifted ∷ [] → Lifts new d lifted → AllLift old (take i parts) all → AllLift new (take (i + 1) parts) grown
one_more_lifts old new parts all grown i d lifted lt e g is one h more c =
    ap (λ (es : List Expr). over (senses (leaf_values (new ++ more) c) es) []) is ∙ outcomes_append (leaf_values (new ++ more) c) all lifted [] ∙ two (λ (os : List Outcome) (o : Outcome). os ++ o ∷ []) (all_lift_still old new (take i parts) all g h more c) (one more c) ∙ sym (outcomes_more parts c i d lt e)

pub all_of_them_lift : (ls : List Leaf) (parts all : List Expr) (i : ℕ) → length parts ≤ i → AllLift ls (take i parts) all → AllLift ls parts all
all_of_them_lift ls parts all i le h more c = h more c ∙ ap (λ (es : List Expr). over (senses [] es) c) (take_all i parts le)

-- the parts of a form, one by one
parts_are_senses : (ps : Tuple) (es : List Expr) → parts_mean ps es ≡ senses ps es
parts_are_senses ps [] = refl
parts_are_senses ps (e ∷ es) = ap (λ (fs : List OnClass). meaning ps e ∷ fs) (parts_are_senses ps es)

all_parts : (ls : List Leaf) (es lifted : List Expr) → AllLift ls es lifted → (more : List Leaf) (c : List Tuple) → over (parts_mean (leaf_values (ls ++ more) c) lifted) [] ≡ over (parts_mean [] es) c
all_parts ls es lifted h more c = ap (λ (fs : List OnClass). over fs []) (parts_are_senses (leaf_values (ls ++ more) c) lifted) ∙ h more c ∙ sym (ap (λ (fs : List OnClass). over fs c) (parts_are_senses [] es))

-- each form
pub lifts_and : (ls : List Leaf) (lifted parts : Parts) (e : Expr) → e ≡ form.And parts → AllLift ls parts.items lifted.items → Lifts ls e (form.And lifted)
lifts_and ls lifted parts e is h more c =
    means (leaf_values (ls ++ more) c) (form.And lifted) (layer.And lifted) [] (sym (form.rolls-And lifted)) ∙ ap (settled false) (all_parts ls parts.items lifted.items h more c) ∙ sym (means [] e (layer.And parts) c (is ∙ sym (form.rolls-And parts)))

pub lifts_or : (ls : List Leaf) (lifted parts : Parts) (e : Expr) → e ≡ form.Or parts → AllLift ls parts.items lifted.items → Lifts ls e (form.Or lifted)
lifts_or ls lifted parts e is h more c =
    means (leaf_values (ls ++ more) c) (form.Or lifted) (layer.Or lifted) [] (sym (form.rolls-Or lifted)) ∙ ap (settled true) (all_parts ls parts.items lifted.items h more c) ∙ sym (means [] e (layer.Or parts) c (is ∙ sym (form.rolls-Or parts)))

pub lifts_compare : (ls : List Leaf) (op : Comparison) (a b v w : Part) (e : Expr) → e ≡ form.Compare op v w → Lifts ls v.value a.value → Lifts ls w.value b.value → Lifts ls e (form.Compare op a b)
lifts_compare ls op a b v w e is ha hb more c =
    means (leaf_values (ls ++ more) c) (form.Compare op a b) (layer.Compare op a b) [] (sym (form.rolls-Compare op a b)) ∙ two (compared op) (ha more c) (hb more c) ∙ sym (means [] e (layer.Compare op v w) c (is ∙ sym (form.rolls-Compare op v w)))

pub lifts_compute : (ls : List Leaf) (op : Operation) (a b v w : Part) (e : Expr) → e ≡ form.Compute op v w → Lifts ls v.value a.value → Lifts ls w.value b.value → Lifts ls e (form.Compute op a b)
lifts_compute ls op a b v w e is ha hb more c =
    means (leaf_values (ls ++ more) c) (form.Compute op a b) (layer.Compute op a b) [] (sym (form.rolls-Compute op a b)) ∙ two (computed op) (ha more c) (hb more c) ∙ sym (means [] e (layer.Compute op v w) c (is ∙ sym (form.rolls-Compute op v w)))

pub lifts_between : (ls : List Leaf) (negative : Bool) (x a b y v w : Part) (e : Expr) → e ≡ form.Between negative y v w → Lifts ls y.value x.value → Lifts ls v.value a.value → Lifts ls w.value b.value → Lifts ls e (form.Between negative x a b)
lifts_between ls negative x a b y v w e is hx ha hb more c =
    means (leaf_values (ls ++ more) c) (form.Between negative x a b) (layer.Between negative x a b) [] (sym (form.rolls-Between negative x a b)) ∙ three (λ (o p q : Outcome). turned negative (settled false (compared AtLeast o p ∷ compared AtMost o q ∷ []))) (hx more c) (ha more c) (hb more c) ∙ sym (means [] e (layer.Between negative y v w) c (is ∙ sym (form.rolls-Between negative y v w)))

pub lifts_in : (ls : List Leaf) (negative : Bool) (x y : Part) (lifted parts : Parts) (e : Expr) → e ≡ form.In negative y parts → Lifts ls y.value x.value → AllLift ls parts.items lifted.items → Lifts ls e (form.In negative x lifted)
lifts_in ls negative x y lifted parts e is hx h more c =
    means (leaf_values (ls ++ more) c) (form.In negative x lifted) (layer.In negative x lifted) [] (sym (form.rolls-In negative x lifted)) ∙ two (λ (o : Outcome) (os : List Outcome). turned negative (strict (λ v. settled true (map (compared Equal (Is v)) os)) o)) (hx more c) (all_parts ls parts.items lifted.items h more c) ∙ sym (means [] e (layer.In negative y parts) c (is ∙ sym (form.rolls-In negative y parts)))

pub lifts_like : (ls : List Leaf) (negative : Bool) (x y : Part) (lifted pattern : String Global) (e : Expr) → e ≡ form.Like negative y pattern → Lifts ls y.value x.value → string_bytes lifted ≡ string_bytes pattern → Lifts ls e (form.Like negative x lifted)
lifts_like ls negative x y lifted pattern e is hx h more c =
    means (leaf_values (ls ++ more) c) (form.Like negative x lifted) (layer.Like negative x lifted) [] (sym (form.rolls-Like negative x lifted)) ∙ two (λ (o : Outcome) (bytes : List ℕ). turned negative (strict (liked bytes) o)) (hx more c) h ∙ sym (means [] e (layer.Like negative y pattern) c (is ∙ sym (form.rolls-Like negative y pattern)))

pub lifts_aggregate : (ls : List Leaf) (function : SetFunction) (a : Part) (d e lifted : Expr) → e ≡ form.Aggregate function a → d ≡ a.value → ((more : List Leaf) (c : List Tuple) → meaning (leaf_values (ls ++ more) c) lifted [] ≡ aggregated function (argument_values d c)) → Lifts ls e lifted
lifts_aggregate ls function a d e lifted is seen h more c =
    h more c ∙ ap (λ (x : Expr). aggregated function (argument_values x c)) seen ∙ sym (means [] e (layer.Aggregate function a) c (is ∙ sym (form.rolls-Aggregate function a)))
