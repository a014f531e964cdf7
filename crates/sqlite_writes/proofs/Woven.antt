-- The rows after changes that name each row once: those of the changes, and the old ones that no change names.
use Rattle.std.proofs.Common.{◌≡◌, ℕ, suc, ◌+◌, Bool, true, false, not, ◌||◌, if◌then◌else◌, cond, nat_eq, List, [], ◌∷◌, ◌++◌, map}
use Rattle.std.proofs.Common.{filter, flat_map, length, refl, sym, ap, ap₂, ◌∙◌, subst, arith, append-nil, append_assoc, IsPermutation}
use Rattle.std.specs.List.{AllByRecursion, IsDistinct, list_any, list_all}
use Rattle.std.specs.Cmp.{both_ways}
use Rattle.std.proofs.lemmas.Bool.{or_parts, and_parts, eqb-true, eq-eqb}
use Rattle.std.proofs.lemmas.List.{length-append}
use Rattle.std.proofs.lemmas.List.Concat.{flat_map_single}
use Rattle.std.proofs.lemmas.List.Sorted.{IsPermutation-cons, IsPermutation-middle, IsPermutation-trans, IsPermutation-map}
use Rattle.std.proofs.lemmas.List.Sorted.{IsPermutation-append_left, IsPermutation-append_right, length_permutation}
use Rattle.std.proofs.lemmas.List.Sorted.{list_any-IsPermutation}
use Rattle.std.proofs.lemmas.Map.Keys.{IsDistinct-head, IsDistinct-tail, IsDistinct-IsPermutation}
use Rattle.sqlite_trees.proofs.ListLemmas.{IsPermutation-same, IsPermutation-flat_map}
use Rattle.med_value.specs.Datum.{Tuple}
use Rattle.fdw_api.specs.Prelude.{TableRow, Held, held, Change, Inserts, Updates, Deletes, names_id, has_id, id_is_there, row_after}
use Rattle.fdw_api.specs.Prelude.{inserted, rows_after}
use Rattle.sqlite_writes.specs.Kinds.{no_line}
use Rattle.sqlite_writes.specs.Splitting.{ids_named, rows_come, IsNamedOnce}
use Rattle.sqlite_writes.proofs.Edits.{filter_true, filter_twice}

-- a new row as it is held
abbrev pub given : Tuple → Held
given x = record { cells = x; origin = no_line x }

-- a change names the row of this id
abbrev pub named : List Change → ℕ → Bool
named changes id = list_any (names_id id) changes

abbrev pub unnamed : List Change → List TableRow → List TableRow
unnamed changes rows = filter (λ r. not (named changes r.id)) rows

pub turned : (m n : ℕ) → nat_eq m n ≡ nat_eq n m
turned m n = both_ways _ _ (λ e. eq-eqb n m (sym (eqb-true m n e))) (λ e. eq-eqb m n (sym (eqb-true n m e)))

-- ---- one row by its id

others : (j : ℕ) (i : ℕ) (rows : List TableRow) → nat_eq i j ≡ true → AllByRecursion (λ k. nat_eq i k ≡ false) (map (λ r. r.id) rows)
    → filter (λ r. not (nat_eq r.id j)) rows ≡ rows
others j i [] at apart = refl
others j i (r ∷ rows) at apart =
    let e : nat_eq r.id j ≡ false = turned r.id j ∙ ap (λ k. nat_eq k r.id) (sym (eqb-true i j at)) ∙ apart.0 in
    rw (e, others j i rows at apart.1)

-- the row of an id comes before the others
pub one_row : (j : ℕ) (rows : List TableRow) → IsDistinct nat_eq (map (λ r. r.id) rows) → has_id rows j ≡ true
    → (r : TableRow) × (nat_eq r.id j ≡ true) × IsPermutation rows (r ∷ filter (λ r. not (nat_eq r.id j)) rows)
one_row j [] once there = absurd cc
one_row j (x ∷ rows) once there = go (nat_eq x.id j) refl (one_row j rows (IsDistinct-tail nat_eq x.id (map (λ r. r.id) rows) once))
  where
    go : (b : Bool) → nat_eq x.id j ≡ b → (has_id rows j ≡ true
        → (r : TableRow) × (nat_eq r.id j ≡ true) × IsPermutation rows (r ∷ filter (λ r. not (nat_eq r.id j)) rows))
        → (r : TableRow) × (nat_eq r.id j ≡ true) × IsPermutation (x ∷ rows) (r ∷ cond (not b) (x ∷ filter (λ r. not
        (nat_eq r.id j)) rows) (filter (λ r. not (nat_eq r.id j)) rows))
    go true e more = (
      x,
      e,
      IsPermutation-same _ _ (ap (λ l. x ∷ l) (sym (others j x.id rows e (IsDistinct-head nat_eq x.id (map
          (λ r. r.id) rows) once)))),
    )
    go false e more =
        let later : has_id rows j ≡ true = ap (λ b. b || has_id rows j) (sym (turned j x.id ∙ e)) ∙ there in
        let found = more later in (
          found.0,
          found.1,
          IsPermutation-trans _ _ _ (IsPermutation-cons x _ _ found.2) (IsPermutation-middle (x ∷ []) found.0 (filter
              (λ r. not (nat_eq r.id j)) rows)),
        )

-- a row that no change names stays as it is
stays : (changes : List Change) (id : ℕ) (now : List Held) → named changes id ≡ false → row_after no_line id changes now ≡ now
stays [] id now none = refl
stays (Inserts x ∷ cs) id now none = stays cs id now none
stays (Updates j x ∷ cs) id now none = rw (turned j id ∙ (or_parts _ _ none).0) (stays cs id now (or_parts _ _ none).1)
stays (Deletes j ∷ cs) id now none = rw (turned j id ∙ (or_parts _ _ none).0) (stays cs id now (or_parts _ _ none).1)

not_again : (changes : List Change) (j : ℕ) → AllByRecursion (λ k. nat_eq j k ≡ false) (ids_named changes) → named changes j ≡ false
not_again [] j apart = refl
not_again (Inserts x ∷ cs) j apart = not_again cs j apart
not_again (Updates k x ∷ cs) j apart = rw (apart.0, not_again cs j apart.1)
not_again (Deletes k ∷ cs) j apart = rw (apart.0, not_again cs j apart.1)

-- ---- all rows

-- what changes leave of a row
abbrev after : List Change → TableRow → List Held
after cs r = row_after no_line r.id cs (held r ∷ [])

-- what is left where an earlier change has left this of the row of an id
abbrev after_one : ℕ → List Held → List Change → TableRow → List Held
after_one j left cs r = row_after no_line r.id cs (if nat_eq j r.id then left else held r ∷ [])

elsewhere : (j : ℕ) (left : List Held) (cs : List Change) (rows : List TableRow)
    → flat_map (after_one j left cs) (filter (λ r. not (nat_eq r.id j)) rows) ≡ flat_map (after cs) (filter (λ r. not (nat_eq r.id j)) rows)
elsewhere j left cs [] = refl
elsewhere j left cs (r ∷ rows) = go (nat_eq r.id j) refl (elsewhere j left cs rows)
  where
    go : (b : Bool) → nat_eq r.id j ≡ b → flat_map (after_one j left cs) (filter (λ r. not (nat_eq r.id j)) rows) ≡ flat_map (after cs)
        (filter (λ r. not (nat_eq r.id j)) rows)
        → flat_map (after_one j left cs) (cond (not b) (r ∷ filter (λ r. not (nat_eq r.id j)) rows) (filter (λ r. not
        (nat_eq r.id j)) rows))
        ≡ flat_map (after cs) (cond (not b) (r ∷ filter (λ r. not (nat_eq r.id j)) rows) (filter (λ r. not (nat_eq r.id j)) rows))
    go true e more = more
    go false e more = ap₂ ◌++◌ (ap (λ b. row_after no_line r.id cs (if b then left else held r ∷ [])) (turned j r.id ∙ e)) more

-- the row of an id comes first, as a change has left it
step : (j : ℕ) (left : List Held) (cs : List Change) (rows : List TableRow) → IsDistinct nat_eq (map (λ r. r.id) rows)
    → has_id rows j ≡ true → named cs j ≡ false
    → IsPermutation (flat_map (after_one j left cs) rows) (left ++ flat_map (after cs) (filter (λ r. not (nat_eq r.id j)) rows))
step j left cs rows once there last =
    let found = one_row j rows once there in
    let is : found.0.id ≡ j = eqb-true found.0.id j found.1 in
    let here : after_one j left cs found.0 ≡ left =
    ap (λ b. row_after no_line found.0.id cs (if b then left else held found.0 ∷ [])) (turned j found.0.id ∙ found.1)
    ∙ stays cs found.0.id left (ap (named cs) is ∙ last) in
    IsPermutation-trans _ _ _ (IsPermutation-flat_map (after_one j left cs) rows _ found.2) (IsPermutation-same _ _ (ap₂ ◌++◌ here
    (elsewhere j left cs rows)))

-- ---- the theorem

pub record Splits (rows : List TableRow) (changes : List Change) : Type 0 where
  pub parts : IsPermutation (rows_after no_line rows changes) (map given (rows_come changes) ++ map held (unnamed changes rows))
  pub count : length rows ≡ length (ids_named changes) + length (unnamed changes rows)

-- the ids that are named are there
abbrev pub AreThere : List TableRow → List ℕ → Type 0
AreThere rows = AllByRecursion (λ j. has_id rows j ≡ true)

-- the rows but one
abbrev but : ℕ → List TableRow → List TableRow
but j rows = filter (λ r. not (nat_eq r.id j)) rows

but_once : (j : ℕ) (rows : List TableRow) → IsDistinct nat_eq (map (λ r. r.id) rows) → has_id rows j ≡ true
    → IsDistinct nat_eq (map (λ r. r.id) (but j rows))
but_once j rows once there =
    let found = one_row j rows once there in
    IsDistinct-tail nat_eq found.0.id _ (IsDistinct-IsPermutation nat_eq turned (map (λ r. r.id) rows) (map (λ r. r.id)
    (found.0 ∷ but j rows)) (IsPermutation-map (λ r. r.id) _ _ found.2) once)

but_there : (j : ℕ) (rows : List TableRow) → IsDistinct nat_eq (map (λ r. r.id) rows) → has_id rows j ≡ true → (ids : List ℕ)
    → AllByRecursion (λ k. nat_eq j k ≡ false) ids → AreThere rows ids → AreThere (but j rows) ids
but_there j rows once there [] apart known = tt
but_there j rows once there (k ∷ ids) apart known = (one, but_there j rows once there ids apart.1 known.1)
  where
    found : (r : TableRow) × (nat_eq r.id j ≡ true) × IsPermutation rows (r ∷ but j rows)
    found = one_row j rows once there

    other : nat_eq k found.0.id ≡ false
    other = turned k found.0.id ∙ ap (λ n. nat_eq n k) (eqb-true found.0.id j found.1) ∙ apart.0

    one : has_id (but j rows) k ≡ true
    one = ap (λ b. b || has_id (but j rows) k) (sym other)
        ∙ sym (list_any-IsPermutation (λ r. nat_eq k r.id) rows (found.0 ∷ but j rows) found.2) ∙ known.0

but_count : (j : ℕ) (rows : List TableRow) → IsDistinct nat_eq (map (λ r. r.id) rows) → has_id rows j ≡ true
    → length rows ≡ suc (length (but j rows))
but_count j rows once there = let found = one_row j rows once there in sym (length_permutation rows (found.0 ∷ but j rows) found.2)

splits_next : (j : ℕ) (come : List Tuple) (cs : List Change) (rows : List TableRow) → IsDistinct nat_eq (map (λ r. r.id) rows)
    → has_id rows j ≡ true → named cs j ≡ false → Splits (but j rows) cs
    → IsPermutation (flat_map (after_one j (map given come) cs) rows ++ flat_map (inserted no_line) cs) (map given come ++ (map given
    (rows_come cs) ++ map held (unnamed cs (but j rows))))
splits_next j come cs rows once there last more =
    let first = IsPermutation-append_left (flat_map (inserted no_line) cs) _ _ (step j (map given come) cs rows once there last) in
    let shape : IsPermutation ((map given come ++ flat_map (after cs) (but j rows)) ++ flat_map (inserted no_line) cs) (map given come ++
    (flat_map (after cs) (but j rows) ++ flat_map (inserted no_line) cs)) =
    IsPermutation-same _ _ (append_assoc (map given come) (flat_map (after cs) (but j rows)) (flat_map (inserted no_line) cs)) in
    IsPermutation-trans _ _ _ first (IsPermutation-trans _ _ _ shape (IsPermutation-append_right (map given come) _ _ more.parts))

unnamed_but : (j : ℕ) (cs : List Change) (rows : List TableRow)
    → unnamed cs (but j rows) ≡ filter (λ r. not (nat_eq r.id j || named cs r.id)) rows
unnamed_but j cs rows = filter_twice (λ r. nat_eq r.id j) (λ r. named cs r.id) rows

pub splits : (changes : List Change) (rows : List TableRow) → IsDistinct nat_eq (map (λ r. r.id) rows) → IsNamedOnce changes
    → AreThere rows (ids_named changes) → Splits rows changes
splits [] rows once each known = record {
  parts = IsPermutation-same _ _ (append-nil (flat_map (after []) rows) ∙ flat_map_single held rows ∙ ap (map held) (filter_true rows));
  count = let e = ap length (filter_true rows) in omega arith;
}
splits (Inserts x ∷ cs) rows once each known =
    let more = splits cs rows once each known in
    record {
      parts = IsPermutation-trans _ _ _ (IsPermutation-middle (flat_map (after cs) rows) (given x) (flat_map (inserted no_line) cs))
          (IsPermutation-cons (given x) _ _ more.parts);
      count = more.count;
    }
splits (Updates j x ∷ cs) rows once each known =
    let apart = IsDistinct-head nat_eq j (ids_named cs) each in
    let more = splits cs (but j rows) (but_once j rows once known.0) (IsDistinct-tail nat_eq j (ids_named cs) each)
    (but_there j rows once known.0 (ids_named cs) apart known.1) in
    let n = but_count j rows once known.0 in
    let m = more.count in
    let same = unnamed_but j cs rows in
    let size = ap length same in
    record {
      parts = subst (λ l. IsPermutation (rows_after no_line rows (Updates j x ∷ cs)) (given x ∷ (map given
          (rows_come cs) ++ map held l))) same
          (splits_next j (x ∷ []) cs rows once known.0 (not_again cs j apart) more);
      count = omega arith;
    }
splits (Deletes j ∷ cs) rows once each known =
    let apart = IsDistinct-head nat_eq j (ids_named cs) each in
    let more = splits cs (but j rows) (but_once j rows once known.0) (IsDistinct-tail nat_eq j (ids_named cs) each)
    (but_there j rows once known.0 (ids_named cs) apart known.1) in
    let n = but_count j rows once known.0 in
    let m = more.count in
    let same = unnamed_but j cs rows in
    let size = ap length same in
    record {
      parts = subst (λ l. IsPermutation (rows_after no_line rows (Deletes j ∷ cs)) (map given (rows_come cs) ++ map held l)) same
          (splits_next j [] cs rows once known.0 (not_again cs j apart) more);
      count = omega arith;
    }

-- the premise as the changes have it
pub are_there : (changes : List Change) (rows : List TableRow) → list_all (id_is_there rows) changes ≡ true
    → AreThere rows (ids_named changes)
are_there [] rows h = tt
are_there (Inserts x ∷ cs) rows h = are_there cs rows h
are_there (Updates j x ∷ cs) rows h = ((and_parts _ _ h).0, are_there cs rows (and_parts _ _ h).1)
are_there (Deletes j ∷ cs) rows h = ((and_parts _ _ h).0, are_there cs rows (and_parts _ _ h).1)

-- the rows that are left, those that go, and those that come
pub counted : (changes : List Change) (rows : List TableRow) → Splits rows changes
    → length (rows_after no_line rows changes) + length (ids_named changes) ≡ length rows + length (rows_come changes)
counted changes rows s =
    let n = length_permutation _ _ s.parts in
    let m = length-append (map given (rows_come changes)) (map held (unnamed changes rows)) in
    let a = same_length given (rows_come changes) in
    let b = same_length held (unnamed changes rows) in
    let c = s.count in
    omega arith
  where
    same_length : {A B : Type 0} (f : A → B) (xs : List A) → length (map f xs) ≡ length xs
    same_length f [] = refl
    same_length f (x ∷ xs) = ap suc (same_length f xs)
