-- What is written to columns is of the columns' types.
use Rattle.std.proofs.Common.{◌≡◌, ℕ, zero, suc, true, false, ◌&&◌, Bool, if◌then◌else◌, bytes_eq, codes, arith, length, List, [], ◌∷◌, ◌++◌, map, flat_map, drop, All, Option, Some, None, option_map, slice_get, slice_index_or, refl, ap, subst}
use Rattle.std.proofs.lemmas.List.Elements.{All-cons, All-nil, All-head, All-tail}
use Rattle.med_value.specs.Prelude.{Column, Datum, NoValue, Whole, Chars, Logic, Tuple, cell}
use Rattle.med_value.specs.declared.value.ColType.{ColType}
use Rattle.med_value.specs.declared.value.ColType.TheVariants.{Int, Text, Bool as Truth}
use Rattle.med_value.specs.declared.cause.Cause.{Cause}
use Rattle.med_value.specs.declared.cause.Cause.TheVariants.{DatatypeMismatch}
use Rattle.med_syntax.specs.Prelude.{Name, ExprTree, ExprTrees}
use Rattle.med_syntax.specs.ExprTree as w
use Rattle.med_syntax.specs.declared.expr.Joint.{Joint}
use Rattle.med_syntax.specs.declared.expr.Joint.TheVariants.{Or, And}
use Rattle.tri_expr.specs.declared.expr.SetFunction.{SetFunction}
use Rattle.tri_expr.specs.Prelude.{Outcome, Is, value_of, Tree, Trees, literal, count_rows, none, part}
use Rattle.fdw_api.specs.Scan.{has_kind, is_clean, row_fits}
use Rattle.med_write.specs.Writing.{outcome_on, outcomes_on, value_for, new_cells, cell_after, cells_after}
use Rattle.bind_names.specs.Scope.{Scope}
use Rattle.bind_names.specs.Meaning.{resolved, resolved_all, aggregate_of, joined as joint_of, function_named}
use Rattle.bind_types.specs.Typing.{takes, unless}
use Rattle.bind_write.proofs.Lists.{left_empty, right_empty}
use Rattle.bind_types.specs.TreeTypes.{tree_type, column_kinds}
use Rattle.bind_write.specs.Meaning.{places_in_turn, places_meant, name_place, row_meant}
use Rattle.bind_write.specs.Typing.{column_causes, cells_causes, type_at, row_types, row_fit_causes, count_causes}
use Rattle.med_statements.specs.Typed.{texts_in, texts_in_all}
use Rattle.med_statements.proofs.Values.{Fits, null_fits, joined, cell_typed, IsCleanTree, tree_fits}

-- ---- parts of lists

pub all_left : {X : Type 0} (P : X → Type 0) (xs ys : List X) → All P (xs ++ ys) → All P xs
all_left P [] ys h = All-nil P
all_left P (x ∷ xs) ys h = All-cons P x xs (All-head P x (xs ++ ys) h) (all_left P xs ys (All-tail P x (xs ++ ys) h))

pub all_right : {X : Type 0} (P : X → Type 0) (xs ys : List X) → All P (xs ++ ys) → All P ys
all_right P [] ys h = h
all_right P (x ∷ xs) ys h = all_right P xs ys (All-tail P x (xs ++ ys) h)

-- ---- texts

abbrev pub IsCleanText : List ℕ → Type 0
IsCleanText x = is_clean (Chars x) ≡ true

abbrev AreCleanTrees : Trees → Type 0
AreCleanTrees none = Unit {0}
AreCleanTrees (part t ts) = IsCleanTree t × AreCleanTrees ts

clean_count : (b : Bool) → IsCleanTree (if b then count_rows else literal NoValue)
clean_count true = tt
clean_count false = refl

clean_call : (f : Option SetFunction) (ts : Trees) → AreCleanTrees ts → IsCleanTree (aggregate_of f ts)
clean_call None none h = refl
clean_call None (part t ts) h = refl
clean_call (Some f) none h = refl
clean_call (Some f) (part t none) h = h.0
clean_call (Some f) (part t (part u us)) h = refl

clean_chain : (j : Joint) (ts : Trees) → IsCleanTree (joint_of j ts)
clean_chain And ts = tt
clean_chain Or ts = tt

mutual
  pub clean_tree : (s : Scope) (e : ExprTree) → All IsCleanText (texts_in e) → IsCleanTree (resolved s e)
  clean_tree s (w.num n) h = refl
  clean_tree s (w.negative n) h = refl
  clean_tree s (w.text x) h = All-head IsCleanText x [] h
  clean_tree s (w.truth b) h = refl
  clean_tree s w.null h = refl
  clean_tree s (w.column q n) h = tt
  clean_tree s (w.call_all f) h = clean_count (bytes_eq f (codes "count"))
  clean_tree s (w.call f es) h = clean_call (function_named f) (resolved_all s es) (clean_trees s es h)
  clean_tree s (w.paren e) h = clean_tree s e h
  clean_tree s (w.minus e) h = tt
  clean_tree s (w.binary op a b) h = tt
  clean_tree s (w.between neg e low high) h = tt
  clean_tree s (w.among neg e first others) h = tt
  clean_tree s (w.like neg e x) h = tt
  clean_tree s (w.compare op a b) h = tt
  clean_tree s (w.tested neg e t) h = tt
  clean_tree s (w.negation e) h = tt
  clean_tree s (w.chain joint first others) h = clean_chain joint (part (resolved s first) (resolved_all s others))

  clean_trees : (s : Scope) (es : ExprTrees) → All IsCleanText (texts_in_all es) → AreCleanTrees (resolved_all s es)
  clean_trees s w.none h = tt
  clean_trees s (w.more e es) h =
      (clean_tree s e (all_left IsCleanText (texts_in e) (texts_in_all es) h), clean_trees s es (all_right IsCleanText (texts_in e) (texts_in_all es) h))

-- ---- one column

takes_fits : (k : ColType) (t : Option ColType) (v : Datum) → takes k t ≡ true → Fits t v → Fits (Some k) v
takes_fits k None NoValue h f = null_fits (Some k)
takes_fits k None (Whole n) h f = absurd cc
takes_fits k None (Chars x) h f = absurd cc
takes_fits k None (Logic b) h f = absurd cc
takes_fits Int (Some Int) v h f = f
takes_fits Int (Some Text) v h f = absurd cc
takes_fits Int (Some Truth) v h f = absurd cc
takes_fits Text (Some Int) v h f = absurd cc
takes_fits Text (Some Text) v h f = f
takes_fits Text (Some Truth) v h f = absurd cc
takes_fits Truth (Some Int) v h f = absurd cc
takes_fits Truth (Some Text) v h f = absurd cc
takes_fits Truth (Some Truth) v h f = f

pub passed : (b : Bool) (c : Cause) → unless b c ≡ [] → b ≡ true
passed true c h = refl
passed false c h = absurd cc

-- ---- INSERT

-- values of these types, one for each
abbrev pub AreOfTypes : List (Option ColType) → List Outcome → Type 0
AreOfTypes [] [] = Unit {0}
AreOfTypes [] (o ∷ os) = ⊥
AreOfTypes (t ∷ ts) [] = ⊥
AreOfTypes (t ∷ ts) (o ∷ os) = Fits t (value_of o) × AreOfTypes ts os

place_fits : (c : Column) (ts : List (Option ColType)) (os : List Outcome) (at : ℕ) → AreOfTypes ts os → column_causes c (slice_get ts at) ≡ [] → Fits (Some c.kind) (value_of (slice_index_or os at (Is NoValue)))
place_fits c [] [] at h k = null_fits (Some c.kind)
place_fits c [] (o ∷ os) at h k = absurd h
place_fits c (t ∷ ts) [] at h k = absurd h
place_fits c (t ∷ ts) (o ∷ os) zero h k = takes_fits c.kind t (value_of o) (passed (takes c.kind t) DatatypeMismatch k) h.0
place_fits c (t ∷ ts) (o ∷ os) (suc at) h k = place_fits c ts os at h.1 k

value_fits : (c : Column) (ts : List (Option ColType)) (os : List Outcome) (p : Option ℕ) → AreOfTypes ts os → column_causes c (type_at ts p) ≡ [] → Fits (Some c.kind) (value_of (value_for os p))
value_fits c ts os None h k = null_fits (Some c.kind)
value_fits c ts os (Some at) h k = place_fits c ts os at h k

new_fits : (columns : List Column) (ps : List (Option ℕ)) (ts : List (Option ColType)) (os : List Outcome) → length ps ≡ length columns → AreOfTypes ts os
    → cells_causes columns (map (type_at ts) ps) ≡ [] → row_fits (column_kinds columns) (map value_of (new_cells ps os)) ≡ true
new_fits [] [] ts os l h k = refl
new_fits [] (p ∷ ps) ts os l h k = absurd (omega (arith, l))
new_fits (c ∷ cs) [] ts os l h k = absurd (omega (arith, l))
new_fits (c ∷ cs) (p ∷ ps) ts os l h k =
    joined (has_kind c.kind (value_of (value_for os p))) (is_clean (value_of (value_for os p))) (row_fits (column_kinds cs) (map value_of (new_cells ps os)))
    (value_fits c ts os p h (left_empty (column_causes c (type_at ts p)) (cells_causes cs (map (type_at ts) ps)) k))
    (new_fits cs ps ts os (omega (arith, l)) h (right_empty (column_causes c (type_at ts p)) (cells_causes cs (map (type_at ts) ps)) k))

turn_length : (at : ℕ) (columns : List Column) → length (places_in_turn at columns) ≡ length columns
turn_length at [] = refl
turn_length at (c ∷ cs) = ap (λ n. suc n) (turn_length (suc at) cs)

named_length : (names : List Name) (columns : List Column) → length (map (λ (c : Column). name_place 0 names c.name) columns) ≡ length columns
named_length names [] = refl
named_length names (c ∷ cs) = ap (λ n. suc n) (named_length names cs)

places_length : (names : Option (List Name)) (columns : List Column) → length (places_meant names columns) ≡ length columns
places_length None columns = turn_length 0 columns
places_length (Some names) columns = named_length names columns

-- a given row that fits the columns
pub inserted_fits : (columns : List Column) (names : Option (List Name)) (ts : List (Option ColType)) (os : List Outcome) → AreOfTypes ts os → row_fit_causes columns names ts ≡ []
    → row_fits (column_kinds columns) (map value_of (new_cells (places_meant names columns) os)) ≡ true
inserted_fits columns names ts os h k =
    new_fits columns (places_meant names columns) ts os (places_length names columns) h (right_empty (count_causes columns names (length ts)) (cells_causes columns (map (type_at ts) (places_meant names columns))) k)

-- a row of VALUES
pub values_of_types : (es : List ExprTree) → All IsCleanText (flat_map texts_in es) → AreOfTypes (row_types (row_meant es)) (outcomes_on [] (row_meant es))
values_of_types [] h = tt
values_of_types (e ∷ es) h = (
  tree_fits [] (resolved [] e) (clean_tree [] e (all_left IsCleanText (texts_in e) (flat_map texts_in es) h)) ([] ∷ []) refl,
  values_of_types es (all_right IsCleanText (texts_in e) (flat_map texts_in es) h),
)

-- ---- UPDATE

abbrev pub IsCleanCell : Option Tree → Type 0
IsCleanCell None = Unit {0}
IsCleanCell (Some t) = IsCleanTree t

drop_here : (xs : List ColType) (n : ℕ) (k : ColType) (ks : List ColType) → drop n xs ≡ k ∷ ks → (slice_get xs n ≡ Some k) × (drop (suc n) xs ≡ ks)
drop_here [] zero k ks h = absurd cc
drop_here [] (suc n) k ks h = absurd cc
drop_here (x ∷ xs) zero k ks h = (let e : x ≡ k = cc in ap Some e, cc)
drop_here (x ∷ xs) (suc n) k ks h = drop_here xs n k ks h

one_row : (kinds : List ColType) (r : Tuple) → row_fits kinds r ≡ true → (row_fits kinds r && true) ≡ true
one_row kinds r h = rw h refl

cell_made_fits : (c : Column) (m : Option Tree) (all : List ColType) (r : Tuple) (place : ℕ) → IsCleanCell m → row_fits all r ≡ true → slice_get all place ≡ Some c.kind
    → column_causes c (option_map (tree_type all) m) ≡ [] → Fits (Some c.kind) (value_of (cell_after r place m))
cell_made_fits c None all r place clean h g k = subst (λ t. Fits t (cell r place)) g (cell_typed all r place h)
cell_made_fits c (Some t) all r place clean h g k =
    takes_fits c.kind (tree_type all t) (value_of (outcome_on r t)) (passed (takes c.kind (tree_type all t)) DatatypeMismatch k) (tree_fits all t clean (r ∷ []) (one_row all r h))

-- the cells from a place on, by what SET says of each column
pub made_fits : (f : Column → Option Tree) → ((c : Column) → IsCleanCell (f c)) → (columns : List Column) (all : List ColType) (r : Tuple) (place : ℕ) → row_fits all r ≡ true
    → drop place all ≡ column_kinds columns → cells_causes columns (map (option_map (tree_type all)) (map f columns)) ≡ []
    → row_fits (column_kinds columns) (map value_of (cells_after r place (map f columns))) ≡ true
made_fits f clean [] all r place h d k = refl
made_fits f clean (c ∷ cs) all r place h d k =
    let here = drop_here all place c.kind (column_kinds cs) d in
    let first = left_empty (column_causes c (option_map (tree_type all) (f c))) (cells_causes cs (map (option_map (tree_type all)) (map f cs))) k in
    let rest = right_empty (column_causes c (option_map (tree_type all) (f c))) (cells_causes cs (map (option_map (tree_type all)) (map f cs))) k in
    joined (has_kind c.kind (value_of (cell_after r place (f c)))) (is_clean (value_of (cell_after r place (f c)))) (row_fits (column_kinds cs) (map value_of (cells_after r (suc place) (map f cs))))
    (cell_made_fits c (f c) all r place (clean c) h here.0 first) (made_fits f clean cs all r (suc place) h here.1 rest)
