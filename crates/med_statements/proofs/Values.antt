-- The value of an expression over typed rows is of its type, or NULL.
use Rattle.std.proofs.Common.{◌≡◌, ℕ, zero, suc, ◌^◌, nat_lt, ◌==◌, not, Bool, true, false, ◌&&◌, if◌then◌else◌, List, [], ◌∷◌, map, Option, Some, None, unwrap_or, slice_get, refl}
use Rattle.std.specs.List.{list_all, list_any}
use Rattle.std.specs.Prelude.{neg_ℤ, int_div, int_rem, ℤ, ◌+ℤ◌, ◌-ℤ◌, ◌*ℤ◌}
use Rattle.std.specs.Ordering.{is_lt}
use Rattle.std.proofs.lemmas.Bool.{and_parts}
use Rattle.med_value.specs.Prelude.{Datum, NoValue, Whole, Chars, Logic, Tuple, cell, datum_cmp, is_missing}
use Rattle.med_value.specs.declared.value.ColType.{ColType}
use Rattle.med_value.specs.declared.value.ColType.TheVariants.{Int, Text, Bool as Truth}
use Rattle.med_value.specs.declared.order.Comparison.{Comparison}
use Rattle.med_value.specs.declared.order.Comparison.TheVariants.{Equal, AtMost, AtLeast}
use Rattle.med_value.specs.declared.operators.Operation.{Operation}
use Rattle.med_value.specs.declared.operators.Operation.TheVariants.{Add, Subtract, Multiply, Divide, Remainder}
use Rattle.tri_expr.specs.declared.expr.Fault.{Fault}
use Rattle.tri_expr.specs.declared.expr.Fault.TheVariants.{Range, Zero}
use Rattle.tri_expr.specs.declared.expr.SetFunction.{SetFunction}
use Rattle.tri_expr.specs.declared.expr.SetFunction.TheVariants.{Count, Sum, Min, Max}
use Rattle.tri_expr.specs.Prelude.{number, total, aggregated, lesser, greater, gather, Outcome, Is, Fails, value_of, truth, strict, strict_two, compared, compared_values, computed_numbers, computed_values, ranged, size_of, is_zero, negated_value, opposite_value, turned, is_truth, first_fault, or_else, settled, over, passes, OnClass, has_cell, shared, argument, liked, tree_meaning, tree_meanings, Tree, column, parameter, literal, compare, compute, negate, all_of, some_of, opposite, asks, between, within, matches, parenthesised, count_rows, aggregate}
use Rattle.fdw_api.specs.Scan.{has_kind, is_clean, row_fits, cell_fits}
use Rattle.bind_types.specs.TreeTypes.{datum_type, set_type, tree_type}

-- a value of this type, without U+0000, or NULL
abbrev pub Fits : Option ColType → Datum → Type 0
Fits t v = cell_fits t v ≡ true

pub null_fits : (t : Option ColType) → Fits t NoValue
null_fits None = refl
null_fits (Some Int) = refl
null_fits (Some Text) = refl
null_fits (Some Truth) = refl

pub three : (a b c : Bool) → (a && b && c) ≡ true → ((a && b) ≡ true) × (c ≡ true)
three true true true h = (refl, refl)
three true true false h = absurd cc
three true false c h = absurd cc
three false b c h = absurd cc

pub joined : (a b c : Bool) → (a && b) ≡ true → c ≡ true → (a && b && c) ≡ true
joined true true true h k = refl
joined true true false h k = absurd cc
joined true false c h k = absurd cc
joined false b c h k = absurd cc

-- ---- the cells of a row

pub cell_typed : (kinds : List ColType) (r : Tuple) (at : ℕ) → row_fits kinds r ≡ true → Fits (slice_get kinds at) (cell r at)
cell_typed [] [] at h = refl
cell_typed [] (v ∷ vs) at h = absurd cc
cell_typed (k ∷ ks) [] at h = absurd cc
cell_typed (k ∷ ks) (v ∷ vs) zero h = (three (has_kind k v) (is_clean v) (row_fits ks vs) h).0
cell_typed (k ∷ ks) (v ∷ vs) (suc at) h = cell_typed ks vs at (three (has_kind k v) (is_clean v) (row_fits ks vs) h).1

value_by : (t : Option ColType) (b : Bool) (v w : Datum) → Fits t v → Fits t w → Fits t (if b then v else w)
value_by t true v w h k = h
value_by t false v w h k = k

shared_typed : (kinds : List ColType) (rows : List Tuple) (at : ℕ) → list_all (row_fits kinds) rows ≡ true → Fits (slice_get kinds at) (shared at rows)
shared_typed kinds [] at h = null_fits (slice_get kinds at)
shared_typed kinds (r ∷ rs) at h =
    value_by (slice_get kinds at) (list_all (has_cell at (cell r at)) rs) (cell r at) NoValue
    (cell_typed kinds r at (and_parts (row_fits kinds r) (list_all (row_fits kinds) rs) h).0) (null_fits (slice_get kinds at))

-- ---- the rules

outcome_by : (t : Option ColType) (b : Bool) (o p : Outcome) → Fits t (value_of o) → Fits t (value_of p) → Fits t (value_of (if b then o else p))
outcome_by t true o p h k = h
outcome_by t false o p h k = k

strict_fits : (t : Option ColType) (f : Datum → Outcome) → ((v : Datum) → Fits t (value_of (f v))) → (o : Outcome) → Fits t (value_of (strict f o))
strict_fits t f h (Is v) = h v
strict_fits t f h (Fails c) = null_fits t

two_fit : (t : Option ColType) (f : Datum → Datum → Outcome) → ((v w : Datum) → Fits t (value_of (f v w))) → (o p : Outcome) → Fits t (value_of (strict_two f o p))
two_fit t f h (Is v) (Is w) = h v w
two_fit t f h (Is v) (Fails c) = null_fits t
two_fit t f h (Fails c) p = null_fits t

compared_fits : (op : Comparison) (v w : Datum) → Fits (Some Truth) (value_of (compared_values op v w))
compared_fits op NoValue w = refl
compared_fits op (Whole m) NoValue = refl
compared_fits op (Whole m) (Whole n) = refl
compared_fits op (Whole m) (Chars t) = refl
compared_fits op (Whole m) (Logic q) = refl
compared_fits op (Chars s) NoValue = refl
compared_fits op (Chars s) (Whole n) = refl
compared_fits op (Chars s) (Chars t) = refl
compared_fits op (Chars s) (Logic q) = refl
compared_fits op (Logic p) NoValue = refl
compared_fits op (Logic p) (Whole n) = refl
compared_fits op (Logic p) (Chars t) = refl
compared_fits op (Logic p) (Logic q) = refl

ranged_fits : (z : ℤ) → Fits (Some Int) (value_of (ranged z))
ranged_fits z = outcome_by (Some Int) (nat_lt (size_of z) (2 ^ 63)) (Is (Whole z)) (Fails Range) refl refl

numbers_fit : (op : Operation) (m n : ℤ) → Fits (Some Int) (value_of (computed_numbers op m n))
numbers_fit Add m n = ranged_fits (m +ℤ n)
numbers_fit Subtract m n = ranged_fits (m -ℤ n)
numbers_fit Multiply m n = ranged_fits (m *ℤ n)
numbers_fit Divide m n = outcome_by (Some Int) (is_zero n) (Fails Zero) (ranged (int_div m n)) refl (ranged_fits (int_div m n))
numbers_fit Remainder m n = outcome_by (Some Int) (is_zero n) (Fails Zero) (Is (Whole (int_rem m n))) refl refl

computed_fits : (op : Operation) (v w : Datum) → Fits (Some Int) (value_of (computed_values op v w))
computed_fits op NoValue w = refl
computed_fits op (Whole m) NoValue = refl
computed_fits op (Whole m) (Whole n) = numbers_fit op m n
computed_fits op (Whole m) (Chars t) = refl
computed_fits op (Whole m) (Logic q) = refl
computed_fits op (Chars s) w = refl
computed_fits op (Logic p) w = refl

negated_fits : (v : Datum) → Fits (Some Int) (value_of (negated_value v))
negated_fits NoValue = refl
negated_fits (Whole n) = ranged_fits (neg_ℤ n)
negated_fits (Chars s) = refl
negated_fits (Logic p) = refl

opposite_fits : (v : Datum) → Fits (Some Truth) (value_of (opposite_value v))
opposite_fits NoValue = refl
opposite_fits (Whole n) = refl
opposite_fits (Chars s) = refl
opposite_fits (Logic p) = refl

or_else_fits : (t : Option ColType) (f : Option Fault) (o : Outcome) → Fits t (value_of o) → Fits t (value_of (or_else f o))
or_else_fits t None o h = h
or_else_fits t (Some c) o h = null_fits t

settled_fits : (by : Bool) (os : List Outcome) → Fits (Some Truth) (value_of (settled by os))
settled_fits by os =
    let rest = if list_all (is_truth (not by)) os then truth (not by) else Is NoValue in
    outcome_by (Some Truth) (list_any (is_truth by) os) (truth by) (or_else (first_fault os) rest) refl
    (or_else_fits (Some Truth) (first_fault os) rest (outcome_by (Some Truth) (list_all (is_truth (not by)) os) (truth (not by)) (Is NoValue) refl refl))

turned_fits : (negative : Bool) (o : Outcome) → Fits (Some Truth) (value_of o) → Fits (Some Truth) (value_of (turned negative o))
turned_fits negative (Is v) h = outcome_by (Some Truth) negative (opposite_value v) (Is v) (opposite_fits v) h
turned_fits negative (Fails c) h = refl

liked_fits : (pattern : List ℕ) (v : Datum) → Fits (Some Truth) (value_of (liked pattern v))
liked_fits pattern NoValue = refl
liked_fits pattern (Whole n) = refl
liked_fits pattern (Chars s) = refl
liked_fits pattern (Logic p) = refl

-- ---- aggregates

abbrev EachFits : Option ColType → List Datum → Type 0
EachFits t [] = Unit {0}
EachFits t (v ∷ vs) = Fits t v × EachFits t vs

gathered_fits : (t : Option ColType) (better : Datum → Datum → Datum) → ((v w : Datum) → Fits t v → Fits t w → Fits t (better v w))
    → (vs : List Datum) → EachFits t vs → Fits t (gather better NoValue vs)
gathered_fits t better h [] k = null_fits t
gathered_fits t better h (v ∷ vs) k = h v (gather better NoValue vs) k.0 (gathered_fits t better h vs k.1)

lesser_fits : (t : Option ColType) (v w : Datum) → Fits t v → Fits t w → Fits t (lesser v w)
lesser_fits t v w h k = value_by t (is_missing v) w _ k (value_by t (is_missing w) v _ h (value_by t (is_lt (datum_cmp w v)) w v k h))

greater_fits : (t : Option ColType) (v w : Datum) → Fits t v → Fits t w → Fits t (greater v w)
greater_fits t v w h k = value_by t (is_missing v) w _ k (value_by t (is_missing w) v _ h (value_by t (is_lt (datum_cmp v w)) w v k h))

-- what has no type is NULL, which a text may be
text_or : (t : Option ColType) (v : Datum) → Fits t v → Fits (Some (unwrap_or t Text)) v
text_or None NoValue h = refl
text_or None (Whole n) h = absurd cc
text_or None (Chars s) h = absurd cc
text_or None (Logic p) h = absurd cc
text_or (Some k) v h = h

aggregated_fits : (f : SetFunction) (t : Option ColType) (vs : List Datum) → EachFits t vs → Fits (set_type f t) (value_of (aggregated f vs))
aggregated_fits Count t vs h = refl
aggregated_fits Sum t vs h = outcome_by (Some Int) (number vs == 0) (Is NoValue) (ranged (total vs)) refl (ranged_fits (total vs))
aggregated_fits Min t vs h = text_or t (gather lesser NoValue vs) (gathered_fits t lesser (lesser_fits t) vs h)
aggregated_fits Max t vs h = text_or t (gather greater NoValue vs) (gathered_fits t greater (greater_fits t) vs h)

argument_fits : (t : Option ColType) (kinds : List ColType) (f : OnClass) → ((rows : List Tuple) → list_all (row_fits kinds) rows ≡ true → Fits t (value_of (f rows)))
    → (rows : List Tuple) → list_all (row_fits kinds) rows ≡ true → EachFits t (argument f rows)
argument_fits t kinds f h [] k = tt
argument_fits t kinds f h (r ∷ rs) k =
    let parts = and_parts (row_fits kinds r) (list_all (row_fits kinds) rs) k in
    (h (r ∷ []) (rw parts.0 refl), argument_fits t kinds f h rs parts.1)

-- ---- an expression

-- a text that is the value of an expression, or of the argument of an aggregate, has no U+0000
abbrev pub IsCleanTree : Tree → Type 0
IsCleanTree (literal v) = is_clean v ≡ true
IsCleanTree (parenthesised a) = IsCleanTree a
IsCleanTree (aggregate f a) = IsCleanTree a
IsCleanTree _ = Unit {0}

literal_fits : (v : Datum) → is_clean v ≡ true → Fits (datum_type v) v
literal_fits NoValue h = refl
literal_fits (Whole n) h = refl
literal_fits (Chars s) h = h
literal_fits (Logic p) h = refl

-- over rows of these types
pub tree_fits : (kinds : List ColType) (t : Tree) → IsCleanTree t → (rows : List Tuple) → list_all (row_fits kinds) rows ≡ true → Fits (tree_type kinds t) (value_of (tree_meaning [] t rows))
tree_fits kinds (column at) clean rows h = shared_typed kinds rows at h
tree_fits kinds (parameter n) clean rows h = refl
tree_fits kinds (literal v) clean rows h = literal_fits v clean
tree_fits kinds (compare op a b) clean rows h = two_fit (Some Truth) (compared_values op) (compared_fits op) (tree_meaning [] a rows) (tree_meaning [] b rows)
tree_fits kinds (compute op a b) clean rows h = two_fit (Some Int) (computed_values op) (computed_fits op) (tree_meaning [] a rows) (tree_meaning [] b rows)
tree_fits kinds (negate a) clean rows h = strict_fits (Some Int) negated_value negated_fits (tree_meaning [] a rows)
tree_fits kinds (all_of ts) clean rows h = settled_fits false (over (tree_meanings [] ts) rows)
tree_fits kinds (some_of ts) clean rows h = settled_fits true (over (tree_meanings [] ts) rows)
tree_fits kinds (opposite a) clean rows h = strict_fits (Some Truth) opposite_value opposite_fits (tree_meaning [] a rows)
tree_fits kinds (asks t negative a) clean rows h = strict_fits (Some Truth) (λ v. truth (if negative then not (passes t v) else passes t v)) (λ v. refl) (tree_meaning [] a rows)
tree_fits kinds (between negative x a b) clean rows h =
    let os = compared AtLeast (tree_meaning [] x rows) (tree_meaning [] a rows) ∷ compared AtMost (tree_meaning [] x rows) (tree_meaning [] b rows) ∷ [] in
    turned_fits negative (settled false os) (settled_fits false os)
tree_fits kinds (within negative x ts) clean rows h =
    let f = λ (v : Datum). settled true (map (compared Equal (Is v)) (over (tree_meanings [] ts) rows)) in
    turned_fits negative (strict f (tree_meaning [] x rows))
    (strict_fits (Some Truth) f (λ v. settled_fits true (map (compared Equal (Is v)) (over (tree_meanings [] ts) rows))) (tree_meaning [] x rows))
tree_fits kinds (matches negative x pattern) clean rows h = turned_fits negative (strict (liked pattern) (tree_meaning [] x rows)) (strict_fits (Some Truth) (liked pattern) (liked_fits pattern) (tree_meaning [] x rows))
tree_fits kinds (parenthesised a) clean rows h = tree_fits kinds a clean rows h
tree_fits kinds count_rows clean rows h = refl
tree_fits kinds (aggregate f a) clean rows h =
    aggregated_fits f (tree_type kinds a) (argument (tree_meaning [] a) rows) (argument_fits (tree_type kinds a) kinds (tree_meaning [] a) (tree_fits kinds a clean) rows h)
