-- Keys of ORDER BY and GROUP BY.
use Rattle.std.proofs.Common.{◌≡◌, ℕ, ◌-◌, ◌<◌, ◌≤◌, nat_le, Bool, true, false, ◌&&◌, if◌then◌else◌, List, [], ◌∷◌, length, map, filter, drop, get_or, refl, ap, sym, ◌∙◌, subst, arith, zero, suc, Some, None, slice_get, flat_map, Result}
use Rattle.std.specs.List.{list_all}
use Rattle.std.proofs.lemmas.Bool.{le-leb, leb-true}
use Rattle.std.proofs.lemmas.List.{drop-map, length-map}
use Rattle.med_value.specs.declared.cause.Cause.TheVariants.{InvalidColumnReference, AmbiguousColumn}
use Rattle.med_syntax.specs.Prelude.{Name, ExprTree, null, step, expr_tree, core_tree, select_tree}
use Rattle.med_syntax.specs.declared.expr.Expr.{Expr}
use Rattle.med_syntax.specs.declared.expr.Expr.TheVariants.{Null, rolls-Null}
use Rattle.med_syntax.specs.declared.expr.Expr.TheFolds.{fold-roll-Expr}
use Rattle.med_syntax.specs.declared.expr.Expr.TheOpen as layer
use Rattle.tri_expr.specs.Prelude.{Tree, tree, literal, bare, same_tree}
use Rattle.tri_expr.specs.declared.expr.Expr.{Expr as Resolved}
use Rattle.bind_names.specs.Prelude.{position_causes, output_name_causes, are_same, twice_causes, output_key_causes, key_name_causes, place_name_causes, Output, first_value, is_named, one_place, sort_key, output_name, expression, places_named, output_place, item_at, is_empty, key_meant, key_place, by_keys, by_places, Scope, Means, with_places}
use Rattle.med_value.specs.declared.cause.Cause.{Cause}
use Rattle.med_syntax.specs.declared.statement.Select.{Select}
use Rattle.bind_query.specs.Resolving.{sorting_form, SortsRows}
use Rattle.bind_query.specs.declared.sorting.Sorting.{Sorting}
use Rattle.bind_names.specs.declared.scope.FoundPlaces.TheVariants.{Nothing, One, Several}
use Rattle.bind_names.proofs.Places.{found_nothing, found_one}
use Rattle.med_value.specs.Datum.{NoValue}
use Rattle.bind_query.specs.Shown.{output_of}
use Rattle.bind_query.specs.declared.outputs.Shown.{Shown}
use Rattle.bind_names.proofs.Parts.{drop_read}

-- ---- positions

pub position_zero : (outs : List Output) (n : ℕ) → n ≡ 0 → position_causes outs n ≡ InvalidColumnReference ∷ []
position_zero outs n h = rw h refl

is_false : (b : Bool) → (b ≡ true → ⊥) → b ≡ false
is_false true f = absurd (f refl)
is_false false f = refl

pub position_past : (outs : List Shown) (n : ℕ) → 0 < n → length outs ≤ n - 1 → position_causes (map output_of outs) n ≡ InvalidColumnReference ∷ []
position_past outs n lt h =
    let a : nat_le 1 n ≡ true = le-leb 1 n (omega (arith, lt)) in
    let b : nat_le n (length outs) ≡ false = is_false (nat_le n (length outs)) (λ e. let k = leb-true n (length outs) e in omega (arith, lt, h, k)) in
    rw (a, length-map outs output_of, b) refl

pub position_there : (outs : List Shown) (n : ℕ) → 0 < n → n - 1 < length outs → position_causes (map output_of outs) n ≡ []
position_there outs n lt h =
    let a : nat_le 1 n ≡ true = le-leb 1 n (omega (arith, lt)) in
    let b : nat_le n (length outs) ≡ true = le-leb n (length outs) (omega (arith, lt, h)) in
    rw (a, length-map outs output_of, b) refl

pub position_value : (outs : List Shown) (k : ℕ) (x : Shown) → k < length outs → x ≡ get_or outs k x → tree x.value ≡ first_value (drop k (map output_of outs))
position_value outs k x lt read = sym (ap first_value (drop-map output_of k outs ∙ ap (λ ys. map output_of ys) (drop_read outs k x lt read)))

-- ---- names of outputs

pub no_output : (outs : List Output) (n : Name) → filter (is_named n) outs ≡ [] → output_name_causes outs n ≡ []
no_output outs n h = ap (λ xs. if are_same xs then [] else AmbiguousColumn ∷ []) h

agree : (xs : List Output) → same_tree (first_value xs) (first_value xs) ≡ true → list_all (λ (o : Output). same_tree (first_value xs) o.value) xs ≡ are_same xs
agree [] r = refl
agree (o ∷ os) r = ap (λ b. b && list_all (λ (p : Output). same_tree o.value p.value) os) r

agreed : (xs : List Output) (t : Tree) → first_value xs ≡ t → same_tree t t ≡ true → list_all (λ (o : Output). same_tree t o.value) xs ≡ are_same xs
agreed xs t h = subst (λ u. same_tree u u ≡ true → list_all (λ (o : Output). same_tree u o.value) xs ≡ are_same xs) h (agree xs)

pub outputs_judged : (outs : List Output) (n : Name) (t : Tree) (b : Bool) → first_value (filter (is_named n) outs) ≡ t → same_tree t t ≡ true → b ≡ list_all (λ (o : Output). same_tree t o.value) (filter (is_named n) outs)
    → output_name_causes outs n ≡ (if b then [] else AmbiguousColumn ∷ [])
outputs_judged outs n t b h r k = ap (λ (b : Bool). if b then [] else AmbiguousColumn ∷ []) (sym (k ∙ agreed (filter (is_named n) outs) t h r))

-- ---- keys of GROUP BY

pub place_found : (ps : List ℕ) (p : ℕ) → ps ≡ p ∷ [] → p ≡ one_place ps
place_found ps p h = sym (ap one_place h)

pub outputs_agree : (outs : List Output) (n : Name) (t : Tree) (b : Bool) → ((x y : Tree) → bare x ≡ bare y → same_tree x y ≡ true) → first_value (filter (is_named n) outs) ≡ t
    → b ≡ list_all (λ (o : Output). same_tree t o.value) (filter (is_named n) outs) → b ≡ true → output_name_causes outs n ≡ []
outputs_agree outs n t b law h k e = outputs_judged outs n t b h (law t t refl) k ∙ ap (λ (b : Bool). if b then [] else AmbiguousColumn ∷ []) e

pub outputs_differ : (outs : List Output) (n : Name) (t : Tree) (b : Bool) → ((x y : Tree) → bare x ≡ bare y → same_tree x y ≡ true) → first_value (filter (is_named n) outs) ≡ t
    → b ≡ list_all (λ (o : Output). same_tree t o.value) (filter (is_named n) outs) → b ≡ false → output_name_causes outs n ≡ AmbiguousColumn ∷ []
outputs_differ outs n t b law h k e = outputs_judged outs n t b h (law t t refl) k ∙ ap (λ (b : Bool). if b then [] else AmbiguousColumn ∷ []) e

-- ---- outputs by their places

pub place_none : (outs : List Output) (n : Name) → Nothing ≡ with_places Nothing (places_named 0 n outs) → (0 ≡ output_place outs (output_name n)) × (output_key_causes outs (output_name n) ≡ [])
place_none outs n h = let e = found_nothing (places_named 0 n outs) h in (sym (ap one_place e), ap twice_causes e)

pub place_one : (outs : List Output) (n : Name) (p : ℕ) → One p ≡ with_places Nothing (places_named 0 n outs) → (p ≡ output_place outs (output_name n)) × (output_key_causes outs (output_name n) ≡ [])
place_one outs n p h = let e = found_one (places_named 0 n outs) p h in (sym (ap one_place e), ap twice_causes e)

several : (ps : List ℕ) → Several ≡ with_places Nothing ps → twice_causes ps ≡ AmbiguousColumn ∷ []
several [] h = absurd cc
several (p ∷ []) h = absurd cc
several (p ∷ r ∷ ps) h = refl

pub place_several : (outs : List Output) (n : Name) → Several ≡ with_places Nothing (places_named 0 n outs) → output_key_causes outs (output_name n) ≡ AmbiguousColumn ∷ []
place_several outs n h = several (places_named 0 n outs) h

-- ---- items by their places

pub item_missing : (xs : List Resolved) (k : ℕ) → slice_get xs k ≡ None → literal NoValue ≡ item_at (map tree xs) k
item_missing [] k h = refl
item_missing (x ∷ xs) zero h = absurd cc
item_missing (x ∷ xs) (suc k) h = item_missing xs k h

some_is : (x y : Resolved) → Some y ≡ Some x → x ≡ y
some_is x y h = cc

pub item_there : (xs : List Resolved) (k : ℕ) (x : Resolved) → slice_get xs k ≡ Some x → tree x ≡ item_at (map tree xs) k
item_there [] k x h = absurd cc
item_there (y ∷ ys) zero x h = ap tree (some_is x y h)
item_there (y ∷ ys) (suc k) x h = item_there ys k x h

-- ---- one core, or several

none_empty : {X Y : Type 0} (f : X → Y) (xs : List X) → length xs ≡ 0 → is_empty (map f xs) ≡ true
none_empty f [] h = refl
none_empty f (x ∷ xs) h = absurd cc

some_empty : {X Y : Type 0} (f : X → Y) (xs : List X) → (length xs ≡ 0 → ⊥) → is_empty (map f xs) ≡ false
some_empty f [] h = absurd (h refl)
some_empty f (x ∷ xs) h = refl

pub sorts_alone : (s : Scope) (outs : List Output) (select : Select) (r : Result Sorting Cause) → length select.others.items ≡ 0
    → Means sorting_form (flat_map (key_name_causes s (select_tree select).core.distinct outs) (select_tree select).keys) (by_keys (map (key_meant s outs) (select_tree select).keys)) r → SortsRows s outs (select_tree select) r
sorts_alone s outs select r e h =
    let q = select_tree select in
    subst (λ (b : Bool). Means sorting_form (if b then flat_map (key_name_causes s q.core.distinct outs) q.keys else flat_map (place_name_causes outs) q.keys)
    (if b then by_keys (map (key_meant s outs) q.keys) else by_places (map (key_place outs) q.keys)) r) (sym (none_empty core_tree select.others.items e)) h

pub sorts_several : (s : Scope) (outs : List Output) (select : Select) (r : Result Sorting Cause) → (length select.others.items ≡ 0 → ⊥)
    → Means sorting_form (flat_map (place_name_causes outs) (select_tree select).keys) (by_places (map (key_place outs) (select_tree select).keys)) r → SortsRows s outs (select_tree select) r
sorts_several s outs select r e h =
    let q = select_tree select in
    subst (λ (b : Bool). Means sorting_form (if b then flat_map (key_name_causes s q.core.distinct outs) q.keys else flat_map (place_name_causes outs) q.keys)
    (if b then by_keys (map (key_meant s outs) q.keys) else by_places (map (key_place outs) q.keys)) r) (sym (some_empty core_tree select.others.items e)) h

-- ---- a key that is NULL

null_tree : (e : Expr) → e ≡ Null → expr_tree e ≡ null
null_tree e h = ap expr_tree (h ∙ sym rolls-Null) ∙ fold-roll-Expr ExprTree step layer.Null

null_key : (outs : List Output) (t : ExprTree) → t ≡ null → sort_key outs t ≡ expression t
null_key outs t h = rw h refl

pub null_keyed : (outs : List Output) (e : Expr) → e ≡ Null → sort_key outs (expr_tree e) ≡ expression (expr_tree e)
null_keyed outs e h = null_key outs (expr_tree e) (null_tree e h)
