-- A tree reads the cells of its columns alone.
use Rattle.std.proofs.Common.{◌≡◌, ℕ, zero, suc, ◌<◌, true, false, List, [], ◌∷◌, ◌++◌, map, filter, length, slice_index_or, pos, refl, ap, subst, arith, Contains}
use Rattle.std.specs.List.{list_all}
use Rattle.med_value.specs.Datum.{Datum, Whole, Tuple, cell}
use Rattle.med_value.specs.declared.order.Comparison.TheVariants.{Equal as Same, AtMost, AtLeast}
use Rattle.tri_expr.specs.declared.expr.Expr.{Expr}
use Rattle.tri_expr.specs.Outcome.{Outcome, Is, compared, computed, negated, opposite as not_of, turned, settled, tested, strict, over, value_of}
use Rattle.tri_expr.specs.Prelude.{aggregated, OnClass, argument, liked, has_cell, shared, tree_meaning, tree_meanings, means, Tree, column, parameter, literal, compare, compute, negate, all_of, some_of, opposite, asks, between, within, matches, parenthesised, count_rows, aggregate, Trees, none, part, tree, is_in}
use Rattle.tri_expr.proofs.Forms.{two, three}
use Rattle.med_query.specs.Query.{senses, on_row, keeps}
use Rattle.pushdown.specs.Joins.{Each}
use Rattle.pushdown.specs.Columns.{columns_in, columns_in_all, tree_columns, columns_of, SameCells, AgreeOn}
use Rattle.pushdown.proofs.Pairs.{same_map, same_length, pair_filter, pair_and, pair_second}

pub each_parts : {X : Type 0} (P : X → Type 0) (xs ys : List X) → Each P (xs ++ ys) → Each P xs × Each P ys
each_parts P [] ys h = (tt, h)
each_parts P (x ∷ xs) ys h = let i = each_parts P xs ys h.1 in ((h.0, i.0), i.1)

-- rows with the same cells in the one columns have them in the others
abbrev pub Covers : (more columns : List ℕ) → Type 0
Covers more columns = (x y : Tuple) → SameCells more x y → SameCells columns x y

pub covers_left : (a b : List ℕ) → Covers (a ++ b) a
covers_left a b = λ x y h. (each_parts (λ at. cell x at ≡ cell y at) a b h).0

pub covers_right : (a b : List ℕ) → Covers (a ++ b) b
covers_right a b = λ x y h. (each_parts (λ at. cell x at ≡ cell y at) a b h).1

pub agree_fewer : (more columns : List ℕ) → Covers more columns → (xs ys : List Tuple) → AgreeOn more xs ys → AgreeOn columns xs ys
agree_fewer more columns c [] [] h = tt
agree_fewer more columns c [] (y ∷ ys) h = absurd h
agree_fewer more columns c (x ∷ xs) [] h = absurd h
agree_fewer more columns c (x ∷ xs) (y ∷ ys) h = (c x y h.0, agree_fewer more columns c xs ys h.1)

agree_parts : (a b : List ℕ) (xs ys : List Tuple) → AgreeOn (a ++ b) xs ys → AgreeOn a xs ys × AgreeOn b xs ys
agree_parts a b xs ys h = (agree_fewer (a ++ b) a (covers_left a b) xs ys h, agree_fewer (a ++ b) b (covers_right a b) xs ys h)

cells_same : (at : ℕ) (v : Datum) (xs ys : List Tuple) → AgreeOn (at ∷ []) xs ys → list_all (has_cell at v) xs ≡ list_all (has_cell at v) ys
cells_same at v [] [] h = refl
cells_same at v [] (y ∷ ys) h = absurd h
cells_same at v (x ∷ xs) [] h = absurd h
cells_same at v (x ∷ xs) (y ∷ ys) h = rw h.0.0 (rw (cells_same at v xs ys h.1) refl)

shared_same : (at : ℕ) (xs ys : List Tuple) → AgreeOn (at ∷ []) xs ys → shared at xs ≡ shared at ys
shared_same at [] [] h = refl
shared_same at [] (y ∷ ys) h = absurd h
shared_same at (x ∷ xs) [] h = absurd h
shared_same at (x ∷ xs) (y ∷ ys) h = rw h.0.0 (rw (cells_same at (cell y at) xs ys h.1) refl)

-- the same, row by row
arguments_same : (columns : List ℕ) (f : OnClass) → ((x y : Tuple) → AgreeOn columns (x ∷ []) (y ∷ []) → f (x ∷ []) ≡ f (y ∷ [])) → (xs ys : List Tuple) → AgreeOn columns xs ys → argument f xs ≡ argument f ys
arguments_same columns f e [] [] h = refl
arguments_same columns f e [] (y ∷ ys) h = absurd h
arguments_same columns f e (x ∷ xs) [] h = absurd h
arguments_same columns f e (x ∷ xs) (y ∷ ys) h = two (λ (v : Datum) (vs : List Datum). v ∷ vs) (ap value_of (e x y (h.0, tt))) (arguments_same columns f e xs ys h.1)

mutual
  pub reads : (ps : Tuple) (t : Tree) (xs ys : List Tuple) → AgreeOn (columns_in t) xs ys → tree_meaning ps t xs ≡ tree_meaning ps t ys
  reads ps (column at) xs ys h = ap Is (shared_same at xs ys h)
  reads ps (parameter at) xs ys h = refl
  reads ps (literal v) xs ys h = refl
  reads ps (compare op a b) xs ys h = let i = agree_parts (columns_in a) (columns_in b) xs ys h in two (compared op) (reads ps a xs ys i.0) (reads ps b xs ys i.1)
  reads ps (compute op a b) xs ys h = let i = agree_parts (columns_in a) (columns_in b) xs ys h in two (computed op) (reads ps a xs ys i.0) (reads ps b xs ys i.1)
  reads ps (negate a) xs ys h = ap negated (reads ps a xs ys h)
  reads ps (all_of ts) xs ys h = ap (settled false) (all_read ps ts xs ys h)
  reads ps (some_of ts) xs ys h = ap (settled true) (all_read ps ts xs ys h)
  reads ps (opposite a) xs ys h = ap not_of (reads ps a xs ys h)
  reads ps (asks test negative a) xs ys h = ap (tested test negative) (reads ps a xs ys h)
  reads ps (between negative x a b) xs ys h =
      let i = agree_parts (columns_in x) (columns_in a ++ columns_in b) xs ys h in
      let j = agree_parts (columns_in a) (columns_in b) xs ys i.1 in
      three (λ (o p q : Outcome). turned negative (settled false (compared AtLeast o p ∷ compared AtMost o q ∷ []))) (reads ps x xs ys i.0) (reads ps a xs ys j.0) (reads ps b xs ys j.1)
  reads ps (within negative x ts) xs ys h =
      let i = agree_parts (columns_in x) (columns_in_all ts) xs ys h in
      two (λ (o : Outcome) (os : List Outcome). turned negative (strict (λ v. settled true (map (compared Same (Is v)) os)) o)) (reads ps x xs ys i.0) (all_read ps ts xs ys i.1)
  reads ps (matches negative x pattern) xs ys h = ap (λ (o : Outcome). turned negative (strict (liked pattern) o)) (reads ps x xs ys h)
  reads ps (parenthesised a) xs ys h = reads ps a xs ys h
  reads ps count_rows xs ys h = ap (λ (n : ℕ). Is (Whole (pos n))) (same_length (SameCells []) xs ys h)
  reads ps (aggregate function a) xs ys h = ap (aggregated function) (arguments_same (columns_in a) (tree_meaning ps a) (λ x y i. reads ps a (x ∷ []) (y ∷ []) i) xs ys h)

  all_read : (ps : Tuple) (ts : Trees) (xs ys : List Tuple) → AgreeOn (columns_in_all ts) xs ys → over (tree_meanings ps ts) xs ≡ over (tree_meanings ps ts) ys
  all_read ps none xs ys h = refl
  all_read ps (part t ts) xs ys h = let i = agree_parts (columns_in t) (columns_in_all ts) xs ys h in two (λ (o : Outcome) (os : List Outcome). o ∷ os) (reads ps t xs ys i.0) (all_read ps ts xs ys i.1)

-- ---- several

-- it reads no more than these columns
abbrev pub Reads : List ℕ → OnClass → Type 0
Reads columns f = (xs ys : List Tuple) → AgreeOn columns xs ys → f xs ≡ f ys

pub all_reads : (ps : Tuple) (columns : List ℕ) (ts : List Tree) → Covers columns (tree_columns ts) → Each (Reads columns) (means ps ts)
all_reads ps columns [] c = tt
all_reads ps columns (t ∷ ts) c = (
  λ xs ys h. reads ps t xs ys (agree_fewer columns (columns_in t) (λ x y e. covers_left (columns_in t) (tree_columns ts) x y (c x y e)) xs ys h),
  all_reads ps columns ts (λ x y e. covers_right (columns_in t) (tree_columns ts) x y (c x y e)),
)

pub over_same : (columns : List ℕ) (fs : List OnClass) → Each (Reads columns) fs → (xs ys : List Tuple) → AgreeOn columns xs ys → over fs xs ≡ over fs ys
over_same columns [] r xs ys h = refl
over_same columns (f ∷ fs) r xs ys h = two (λ (o : Outcome) (os : List Outcome). o ∷ os) (r.0 xs ys h) (over_same columns fs r.1 xs ys h)

pub row_same : (columns : List ℕ) (fs : List OnClass) → Each (Reads columns) fs → (x y : Tuple) → SameCells columns x y → on_row fs x ≡ on_row fs y
row_same columns fs r x y e = over_same columns fs r (x ∷ []) (y ∷ []) (e, tt)

pub shows : (ps : Tuple) (es : List Expr) (x y : Tuple) → SameCells (columns_of es) x y
    → (map value_of (on_row (senses ps es) x) ≡ map value_of (on_row (senses ps es) y)) × (keeps (senses ps es) x ≡ keeps (senses ps es) y)
shows ps es x y h =
    let e = row_same (columns_of es) (senses ps es) (all_reads ps (columns_of es) (map tree es) (λ v w i. i)) x y h in
    (ap (map value_of) e, ap is_in e)

-- ---- lists of rows

row_shown : (ps : Tuple) (es : List Expr) → (x y : Tuple) → SameCells (columns_of es) x y → map value_of (on_row (senses ps es) x) ≡ map value_of (on_row (senses ps es) y)
row_shown ps es x y h = (shows ps es x y h).0

pub lists_show : (ps : Tuple) (es : List Expr) (xs ys : List Tuple) → AgreeOn (columns_of es) xs ys
    → map (λ r. map value_of (on_row (senses ps es) r)) xs ≡ map (λ r. map value_of (on_row (senses ps es) r)) ys
lists_show ps es xs ys h = same_map (SameCells (columns_of es)) (λ r. map value_of (on_row (senses ps es) r)) (row_shown ps es) xs ys h

pub lists_keep : (ps : Tuple) (es : List Expr) (columns : List ℕ) (xs ys : List Tuple) → AgreeOn (columns_of es) xs ys → AgreeOn columns xs ys
    → AgreeOn columns (filter (keeps (senses ps es)) xs) (filter (keeps (senses ps es)) ys)
lists_keep ps es columns xs ys h i =
    pair_second (SameCells (columns_of es)) (SameCells columns) (filter (keeps (senses ps es)) xs) (filter (keeps (senses ps es)) ys)
    (pair_filter (λ x y. SameCells (columns_of es) x y × SameCells columns x y) (keeps (senses ps es)) (λ x y e. (shows ps es x y e.0).1) xs ys (pair_and (SameCells (columns_of es)) (SameCells columns) xs ys h i))

-- ---- fewer columns

at_place : {X : Type 0} (P : X → Type 0) (xs : List X) (x : X) (k : ℕ) → Each P xs → k < length xs → slice_index_or xs k x ≡ x → P x
at_place P [] x k h l e = absurd (omega (arith, l))
at_place P (y ∷ ys) x zero h l e = subst P e h.0
at_place P (y ∷ ys) x (suc k) h l e = at_place P ys x k h.1 (omega (arith, l)) e

contained : (more fewer : List ℕ) → Each (Contains more) fewer → Covers more fewer
contained more [] c = λ x y h. tt
contained more (at ∷ fewer) c = λ x y h. (at_place (λ k. cell x k ≡ cell y k) more at c.0.0 h c.0.1 c.0.2, contained more fewer c.1 x y h)

pub fewer_agree : (more fewer : List ℕ) (xs ys : List Tuple) → Each (Contains more) fewer → AgreeOn more xs ys → AgreeOn fewer xs ys
fewer_agree more fewer xs ys c h = agree_fewer more fewer (contained more fewer c) xs ys h

pub as_many : (columns : List ℕ) (xs ys : List Tuple) → AgreeOn columns xs ys → length xs ≡ length ys
as_many columns xs ys h = same_length (SameCells columns) xs ys h
