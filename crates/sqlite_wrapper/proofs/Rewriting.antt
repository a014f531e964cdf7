-- A write as a rewrite of a table's entries.
use Rattle.std.proofs.Common.{
  ◌≡◌,
  ◌≢◌,
  ◌∙◌,
  ℕ,
  ◌+◌,
  ◌-◌,
  ◌<◌,
  ◌≤◌,
  ℤ,
  Bool,
  true,
  false,
  List,
  [],
  None,
  map,
  length,
  nat_eq,
  nat_lt,
  Contains,
  refl,
  sym,
  ap,
  subst,
  arith,
}
use Rattle.std.specs.List.{IsDistinct, list_any}
use Rattle.std.proofs.lemmas.List.{length-map}
use Rattle.std.proofs.lemmas.List.Sorted.{length_permutation}
use Rattle.sqlite.specs.Effect.{Database}
use Rattle.med_value.specs.Datum.{Tuple}
use Rattle.med_value.specs.declared.cause.Cause.{Cause}
use Rattle.med_value.specs.declared.cause.Cause.TheVariants.{NotNull, NotUnique, TooLarge}
use Rattle.fdw_api.specs.Prelude.{Change, Held, held, TableRow, rows_after}
use Rattle.sqlite.specs.Order.{Row as SqlRow}
use Rattle.sqlite_tables.specs.Prelude.{Layout, rows_in, rows_of, entries_of, tree_found, OnlyBy}
use Rattle.sqlite_writes.specs.Kinds.{in_key_order, order_permutes, key_cell, lacks_key, no_line, repeats, with_cause, write_causes}
use Rattle.fdw_api.specs.declared.interface.Fault.{Fault}
use Rattle.fdw_api.specs.declared.interface.Fault.TheVariants.{NoMemory, Source, Refused}
use Rattle.sqlite_writes.specs.Splitting.{keys_gone, rows_come, IsKeyless}
use Rattle.sqlite_writes.specs.Rewriting.{rewritten, repeats_key}
use Rattle.sqlite_writes.specs.Writable.{KeepsTables}
use Rattle.sqlite_wrapper.specs.Rewrites.{Rewrites}

-- ---- causes

pub first_cause : (b c : Bool) → Contains (with_cause true NotNull (with_cause b NotUnique (with_cause c TooLarge []))) NotNull
first_cause b c = (0, omega arith, refl)

second_cause : (a c : Bool) → Contains (with_cause a NotNull (with_cause true NotUnique (with_cause c TooLarge []))) NotUnique
second_cause true c = (1, omega arith, refl)
second_cause false c = (0, omega arith, refl)

third_cause : (a b : Bool) → Contains (with_cause a NotNull (with_cause b NotUnique (with_cause true TooLarge []))) TooLarge
third_cause true true = (2, omega arith, refl)
third_cause true false = (1, omega arith, refl)
third_cause false true = (1, omega arith, refl)
third_cause false false = (0, omega arith, refl)

-- a row without a key
pub keyless : (rows : List TableRow) (changes : List Change) → list_any lacks_key changes ≡ true
    → Contains (write_causes rows changes) NotNull
keyless rows changes e = rw e (first_cause (repeats (map key_cell (rows_after no_line rows changes)))
    (nat_lt 1000000 (length (rows_after no_line rows changes))))

module _ (old : Database) (l : Layout) (changes : List Change) where
  abbrev rows : List TableRow
  rows = rows_of old l

  abbrev after : List Held
  after = rows_after no_line rows changes

  abbrev entries : List SqlRow
  entries = entries_of old l

  -- more rows than a table may have
  pub too_many : (count fresh gone : ℕ) → count ≡ length rows → fresh ≡ length (rows_come changes) → gone ≡ length (keys_gone changes)
      → length after + length (keys_gone changes) ≡ length rows + length (rows_come changes) → 1000000 + gone < count + fresh
      → Contains (write_causes rows changes) TooLarge
  too_many count fresh gone count_is fresh_is gone_is law lt = rw big
      (third_cause (list_any lacks_key changes) (repeats (map key_cell after)))
    where
      big : nat_lt 1000000 (length after) ≡ true
      big = grind (arith, count_is, fresh_is, gone_is, law, lt)

  -- a key that would be there twice
  pub repeated : repeats_key l (keys_gone changes) (rows_come changes) entries ≡ repeats (map key_cell after)
      → repeats_key l (keys_gone changes) (rows_come changes) entries ≡ true → Contains (write_causes rows changes) NotUnique
  repeated law e = rw (sym law ∙ e) (second_cause (list_any lacks_key changes) (nat_lt 1000000 (length after)))

  -- exactly the changes are made
  pub rewrites : (new : Database) (count fresh gone : ℕ) → new.schema ≡ old.schema → tree_found old.schema l ≢ None
      → entries_of new l ≡ rewritten l (keys_gone changes) (rows_come changes) entries → KeepsTables old new l
      → list_any lacks_key changes ≡ false → repeats_key l (keys_gone changes) (rows_come changes) entries ≡ false
      → count ≡ length rows → fresh ≡ length (rows_come changes) → gone ≡ length (keys_gone changes) → count + fresh ≤ 1000000 + gone
      → length after + length (keys_gone changes) ≡ length rows + length (rows_come changes)
      → repeats_key l (keys_gone changes) (rows_come changes) entries ≡ repeats (map key_cell after)
      → map held (rows_in l (rewritten l (keys_gone changes) (rows_come changes) entries)) ≡ in_key_order after
      → IsDistinct nat_eq (map (λ (r : TableRow). r.id) (rows_in l (rewritten l (keys_gone changes) (rows_come changes) entries)))
      → Rewrites old new l changes
  rewrites new count fresh gone schema there is others keyed free count_is fresh_is gone_is le count_law repeats_law rows_law once_law =
      record {
        schema = schema;
        there = there;
        no_cause = rw (keyed, sym repeats_law ∙ free, few) refl;
        rows = ap (λ (es : List SqlRow). map held (rows_in l es)) is ∙ rows_law;
        once = subst (λ (es : List SqlRow). IsDistinct nat_eq (map (λ (r : TableRow). r.id) (rows_in l es))) (sym is) once_law;
        others = others;
      }
    where
      few : nat_lt 1000000 (length after) ≡ false
      few = grind (arith, count_is, fresh_is, gone_is, count_law, le)

  -- how many rows a table has after its changes are made
  pub rows_left : (new : Database) (count fresh gone left : ℕ) → Rewrites old new l changes
      → count ≡ length rows → fresh ≡ length (rows_come changes) → gone ≡ length (keys_gone changes) → left ≡ count + fresh - gone
      → length after + length (keys_gone changes) ≡ length rows + length (rows_come changes) → left ≡ length (rows_of new l)
  rows_left new count fresh gone left made count_is fresh_is gone_is left_is law =
      let all : length (rows_of new l) ≡ length after =
      sym (length-map (rows_of new l) held) ∙ ap length made.rows ∙ length_permutation after (in_key_order after) (order_permutes after) in
      grind (arith, all, count_is, fresh_is, gone_is, left_is, law)

-- ---- by what a call came to

pub by_keyless : (rows : List TableRow) (changes : List Change) (fault : Fault) (more : Cause → Type 0)
    → (list_any lacks_key changes ≡ true → more NotNull)
    → IsKeyless changes fault → OnlyBy more fault
by_keyless rows changes NoMemory more f h = tt
by_keyless rows changes Source more f h = absurd h
by_keyless rows changes (Refused c) more f h = subst more (sym h.0) (f h.1)

-- equal arguments give equal results
pub three : {X : Type 0} (F : List ℤ → List Tuple → List SqlRow → X) (a b : List ℤ) (c d : List Tuple) (x y : List SqlRow) → a ≡ b → c ≡ d
    → x ≡ y → F a c x ≡ F b d y
three F a b c d x y p q r = rw (p, q, r) refl
