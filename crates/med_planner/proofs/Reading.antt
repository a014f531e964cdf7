-- A tree reads the cells of its columns alone.
use Rattle.std.proofs.Common.{◌≡◌, ℕ, zero, suc, ◌+◌, ◌-◌, ◌^◌, ◌<◌, true, false, List, [], ◌∷◌, ◌++◌, map, drop, length, pos, refl, ap, ◌∙◌, arith, min}
use Rattle.std.specs.List.{list_all}
use Rattle.med_value.specs.Datum.{Datum, NoValue, Whole, Tuple, cell}
use Rattle.med_value.specs.declared.order.Comparison.TheVariants.{Equal as Same, AtMost, AtLeast}
use Rattle.tri_expr.specs.Outcome.{Outcome, Is, compared, computed, negated, opposite as not_of, turned, settled, tested, strict, over, value_of}
use Rattle.tri_expr.specs.Prelude.{aggregated, OnClass, argument, liked, has_cell, shared, tree_meaning, tree_meanings, Tree, column, parameter, literal, compare, compute, negate, all_of, some_of, opposite, asks, between, within, matches, parenthesised, count_rows, aggregate, Trees, none, part, trees}
use Rattle.tri_expr.proofs.Forms.{two, three}
use Rattle.pushdown.specs.Joins.{Each}
use Rattle.pushdown.specs.Columns.{columns_in, columns_in_all, AgreeOn}
use Rattle.pushdown.proofs.Reading.{each_parts, reads as reads_alike}
use Rattle.med_planner.specs.Places.{moved, all_moved, further, shifted, AgreeAt}

pub agree_parts : (f : ℕ → ℕ) (a b : List ℕ) (xs ys : List Tuple) → AgreeAt f (a ++ b) xs ys → AgreeAt f a xs ys × AgreeAt f b xs ys
agree_parts f a b [] [] h = (tt, tt)
agree_parts f a b [] (y ∷ ys) h = absurd h
agree_parts f a b (x ∷ xs) [] h = absurd h
agree_parts f a b (x ∷ xs) (y ∷ ys) h =
    let i = each_parts (λ at. cell y (f at) ≡ cell x at) a b h.0 in
    let j = agree_parts f a b xs ys h.1 in
    ((i.0, j.0), (i.1, j.1))

agree_length : (f : ℕ → ℕ) (a : List ℕ) (xs ys : List Tuple) → AgreeAt f a xs ys → length ys ≡ length xs
agree_length f a [] [] h = refl
agree_length f a [] (y ∷ ys) h = absurd h
agree_length f a (x ∷ xs) [] h = absurd h
agree_length f a (x ∷ xs) (y ∷ ys) h = ap suc (agree_length f a xs ys h.1)

cells_same : (f : ℕ → ℕ) (at : ℕ) (v : Datum) (xs ys : List Tuple) → AgreeAt f (at ∷ []) xs ys → list_all (has_cell (f at) v) ys ≡ list_all (has_cell at v) xs
cells_same f at v [] [] h = refl
cells_same f at v [] (y ∷ ys) h = absurd h
cells_same f at v (x ∷ xs) [] h = absurd h
cells_same f at v (x ∷ xs) (y ∷ ys) h = rw h.0.0 (rw (cells_same f at v xs ys h.1) refl)

shared_same : (f : ℕ → ℕ) (at : ℕ) (xs ys : List Tuple) → AgreeAt f (at ∷ []) xs ys → shared (f at) ys ≡ shared at xs
shared_same f at [] [] h = refl
shared_same f at [] (y ∷ ys) h = absurd h
shared_same f at (x ∷ xs) [] h = absurd h
shared_same f at (x ∷ xs) (y ∷ ys) h = rw h.0.0 (rw (cells_same f at (cell x at) xs ys h.1) refl)

-- the same, row by row
arguments_same : (f : ℕ → ℕ) (columns : List ℕ) (g k : OnClass) → ((x y : Tuple) → AgreeAt f columns (x ∷ []) (y ∷ []) → k (y ∷ []) ≡ g (x ∷ [])) → (xs ys : List Tuple) → AgreeAt f columns xs ys → argument k ys ≡ argument g xs
arguments_same f columns g k e [] [] h = refl
arguments_same f columns g k e [] (y ∷ ys) h = absurd h
arguments_same f columns g k e (x ∷ xs) [] h = absurd h
arguments_same f columns g k e (x ∷ xs) (y ∷ ys) h = two (λ (v : Datum) (vs : List Datum). v ∷ vs) (ap value_of (e x y (h.0, tt))) (arguments_same f columns g k e xs ys h.1)

mutual
  pub reads : (f : ℕ → ℕ) (ps : Tuple) (t : Tree) (xs ys : List Tuple) → AgreeAt f (columns_in t) xs ys → tree_meaning ps (moved f t) ys ≡ tree_meaning ps t xs
  reads f ps (column at) xs ys h = ap Is (shared_same f at xs ys h)
  reads f ps (parameter at) xs ys h = refl
  reads f ps (literal v) xs ys h = refl
  reads f ps (compare op a b) xs ys h = let i = agree_parts f (columns_in a) (columns_in b) xs ys h in two (compared op) (reads f ps a xs ys i.0) (reads f ps b xs ys i.1)
  reads f ps (compute op a b) xs ys h = let i = agree_parts f (columns_in a) (columns_in b) xs ys h in two (computed op) (reads f ps a xs ys i.0) (reads f ps b xs ys i.1)
  reads f ps (negate a) xs ys h = ap negated (reads f ps a xs ys h)
  reads f ps (all_of ts) xs ys h = ap (settled false) (all_read f ps ts xs ys h)
  reads f ps (some_of ts) xs ys h = ap (settled true) (all_read f ps ts xs ys h)
  reads f ps (opposite a) xs ys h = ap not_of (reads f ps a xs ys h)
  reads f ps (asks test negative a) xs ys h = ap (tested test negative) (reads f ps a xs ys h)
  reads f ps (between negative x a b) xs ys h =
      let i = agree_parts f (columns_in x) (columns_in a ++ columns_in b) xs ys h in
      let j = agree_parts f (columns_in a) (columns_in b) xs ys i.1 in
      three (λ (o p q : Outcome). turned negative (settled false (compared AtLeast o p ∷ compared AtMost o q ∷ []))) (reads f ps x xs ys i.0) (reads f ps a xs ys j.0) (reads f ps b xs ys j.1)
  reads f ps (within negative x ts) xs ys h =
      let i = agree_parts f (columns_in x) (columns_in_all ts) xs ys h in
      two (λ (o : Outcome) (os : List Outcome). turned negative (strict (λ v. settled true (map (compared Same (Is v)) os)) o)) (reads f ps x xs ys i.0) (all_read f ps ts xs ys i.1)
  reads f ps (matches negative x pattern) xs ys h = ap (λ (o : Outcome). turned negative (strict (liked pattern) o)) (reads f ps x xs ys h)
  reads f ps (parenthesised a) xs ys h = reads f ps a xs ys h
  reads f ps count_rows xs ys h = ap (λ (n : ℕ). Is (Whole (pos n))) (agree_length f [] xs ys h)
  reads f ps (aggregate function a) xs ys h = ap (aggregated function) (arguments_same f (columns_in a) (tree_meaning ps a) (tree_meaning ps (moved f a)) (λ x y i. reads f ps a (x ∷ []) (y ∷ []) i) xs ys h)

  all_read : (f : ℕ → ℕ) (ps : Tuple) (ts : Trees) (xs ys : List Tuple) → AgreeAt f (columns_in_all ts) xs ys → over (tree_meanings ps (all_moved f ts)) ys ≡ over (tree_meanings ps ts) xs
  all_read f ps none xs ys h = refl
  all_read f ps (part t ts) xs ys h = let i = agree_parts f (columns_in t) (columns_in_all ts) xs ys h in two (λ (o : Outcome) (os : List Outcome). o ∷ os) (reads f ps t xs ys i.0) (all_read f ps ts xs ys i.1)

-- ---- nothing moved

agree_unmoved : (a : List ℕ) (xs ys : List Tuple) → AgreeAt (λ at. at) a xs ys → AgreeOn a ys xs
agree_unmoved a [] [] h = tt
agree_unmoved a [] (y ∷ ys) h = absurd h
agree_unmoved a (x ∷ xs) [] h = absurd h
agree_unmoved a (x ∷ xs) (y ∷ ys) h = (h.0, agree_unmoved a xs ys h.1)

pub alone : (ps : Tuple) (t : Tree) (xs ys : List Tuple) → AgreeAt (λ at. at) (columns_in t) xs ys → tree_meaning ps t ys ≡ tree_meaning ps t xs
alone ps t xs ys h = reads_alike ps t ys xs (agree_unmoved (columns_in t) xs ys h)

-- ---- shifted

-- a cell past the end is NULL
pub cell_past : (r : Tuple) (at : ℕ) → length r < suc at → cell r at ≡ NoValue
cell_past [] at h = refl
cell_past (v ∷ r) zero h = absurd (omega (arith, h))
cell_past (v ∷ r) (suc at) h = cell_past r at (omega (arith, h))

pub cell_behind : (base : ℕ) (r : Tuple) (at : ℕ) → cell r (at + base) ≡ cell (drop base r) at
cell_behind zero r at = let e : at + 0 ≡ at = omega arith in ap (cell r) e
cell_behind (suc base) [] at = refl
cell_behind (suc base) (v ∷ r) at = let e : at + suc base ≡ suc (at + base) = omega arith in ap (cell (v ∷ r)) e ∙ cell_behind base r at

-- no place past the greatest is one of a cell
cell_least : (r : Tuple) (n m : ℕ) → length r < suc m → cell r (min n m) ≡ cell r n
cell_least [] n m h = refl
cell_least (v ∷ r) zero m h = let e : min 0 m ≡ 0 = omega arith in ap (cell (v ∷ r)) e
cell_least (v ∷ r) (suc n) zero h = absurd (omega (arith, h))
cell_least (v ∷ r) (suc n) (suc m) h = let e : min (suc n) (suc m) ≡ suc (min n m) = omega arith in ap (cell (v ∷ r)) e ∙ cell_least r n m (omega (arith, h))

pub cell_further : (base : ℕ) (r : Tuple) (at : ℕ) → length r < 2 ^ 64 → cell r (further base at) ≡ cell (drop base r) at
cell_further base r at h = cell_least r (at + base) (2 ^ 64 - 1) (omega (arith, h)) ∙ cell_behind base r at

all_behind : (base : ℕ) (columns : List ℕ) (r : Tuple) → length r < 2 ^ 64 → Each (λ at. cell r (further base at) ≡ cell (drop base r) at) columns
all_behind base [] r h = tt
all_behind base (at ∷ ats) r h = (cell_further base r at h, all_behind base ats r h)

agree_behind : (base : ℕ) (columns : List ℕ) (xs : List Tuple) → Each (λ r. length r < 2 ^ 64) xs → AgreeAt (further base) columns (map (drop base) xs) xs
agree_behind base columns [] h = tt
agree_behind base columns (x ∷ xs) h = (all_behind base columns x h.0, agree_behind base columns xs h.1)

pub behind : (base : ℕ) (ps : Tuple) (t : Tree) (xs : List Tuple) → Each (λ r. length r < 2 ^ 64) xs → tree_meaning ps (shifted base t) xs ≡ tree_meaning ps t (map (drop base) xs)
behind base ps t xs h = reads (further base) ps t (map (drop base) xs) xs (agree_behind base (columns_in t) xs h)

-- ---- parts

pub trees_moved : (f : ℕ → ℕ) (ts : List Tree) → all_moved f (trees ts) ≡ trees (map (moved f) ts)
trees_moved f [] = refl
trees_moved f (t ∷ ts) = ap (part (moved f t)) (trees_moved f ts)
