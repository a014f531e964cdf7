-- What the reading of a remote table shows, from what was found of it.
use Rattle.std.proofs.Common.{◌≡◌, ◌≢◌, ℕ, Bool, true, false, if◌then◌else◌, nat_eq, nat_lt, List, [], ◌∷◌, map, length, zero, suc}
use Rattle.std.proofs.Common.{Option, Some, None, option_map, Contains, refl, ap, sym, ◌∙◌, subst, arith}
use Rattle.std.specs.List.{list_all}
use Rattle.std.proofs.lemmas.Bool.{and_parts}
use Rattle.sqlite.specs.Effect.{Database}
use Rattle.med_value.specs.Prelude.{Tuple, phase_of}
use Rattle.med_value.specs.declared.value.ColType.{ColType}
use Rattle.med_value.specs.declared.value.ColType.TheVariants as types
use Rattle.med_value.specs.declared.cause.Cause.{Cause}
use Rattle.med_value.specs.declared.cause.Cause.TheVariants.{TableNotFound, InvalidDataType}
use Rattle.fdw_api.specs.Prelude.{IsLeast, row_fits, Entry, Bytes, Stored, is_late, is_of_run}
use Rattle.sqlite_tables.specs.Layouts.{Layout, kinds_in, same_type, types_match}
use Rattle.sqlite_tables.specs.Cells.{rows_in}
use Rattle.sqlite_tables.specs.Readings.{content_causes, read_rows, sqlite_reading}
use Rattle.sqlite_tables.specs.Tables.{tree_found, entry_of, entries_of, entries_at}
use Rattle.sqlite_tables.proofs.Found.{found_is_read}
use Rattle.sqlite_tables.specs.Surveys.{causes_in}

pub run_is_late : (phase : Option ℕ) → is_of_run phase ≡ true → is_late phase ≡ true
run_is_late None e = absurd cc
run_is_late (Some n) e = grind (arith, e)

one_type : (a b : ColType) → same_type a b ≡ true → b ≡ a
one_type types.Int types.Int e = refl
one_type types.Int types.Text e = absurd cc
one_type types.Int types.Bool e = absurd cc
one_type types.Text types.Int e = absurd cc
one_type types.Text types.Text e = refl
one_type types.Text types.Bool e = absurd cc
one_type types.Bool types.Int e = absurd cc
one_type types.Bool types.Text e = absurd cc
one_type types.Bool types.Bool e = refl

pub same_types : (xs ys : List ColType) → types_match xs ys ≡ true → ys ≡ xs
same_types [] [] e = refl
same_types [] (y ∷ ys) e = absurd cc
same_types (x ∷ xs) [] e = absurd cc
same_types (x ∷ xs) (y ∷ ys) e = let w = and_parts (same_type x y)
    (types_match xs ys) e in rw (one_type x y w.0, same_types xs ys w.1) refl

matched : (own declared : List ColType) (rows : List Tuple) → types_match own declared ≡ true
    → (sqlite_reading declared (Some (Stored own rows))).causes ≡ content_causes (list_all (row_fits own) rows)
    (nat_lt 1000000 (length rows))
matched own declared rows e = rw e
    (ap (λ (k : List ColType). content_causes (list_all (row_fits k) rows) (nat_lt 1000000 (length rows))) (same_types own declared e))

-- a table that was found, of the columns' types, shows the causes of its rows
pub opened : (db : Database) (l : Layout) (declared : List ColType) → tree_found db.schema l ≢ None
    → types_match (kinds_in l) declared ≡ true
    → (sqlite_reading declared (entry_of db l)).causes ≡ causes_in l (entries_of db l)
opened db l declared ne e = go (tree_found db.schema l) ne
    ∙ ap (λ (o : Option ℕ). causes_in l (entries_at db.trees o)) (found_is_read db.schema l ne)
  where
    go : (o : Option ℕ) → o ≢ None
        → (sqlite_reading declared (option_map (λ t. Stored (kinds_in l) (map (λ r. r.cells) (rows_in l (db.trees t)))) o)).causes
        ≡ causes_in l (entries_at db.trees o)
    go None ne = absurd (ne refl)
    go (Some t) ne = matched (kinds_in l) declared (map (λ r. r.cells) (rows_in l (db.trees t))) e

alone : (c : Cause) → Contains (c ∷ []) c
alone c = (0, omega arith, refl)

-- of a table that was found, of other columns: HV004
pub mismatched : (db : Database) (l : Layout) (declared : List ColType) → tree_found db.schema l ≢ None
    → types_match (kinds_in l) declared ≡ false
    → Contains (sqlite_reading declared (entry_of db l)).causes InvalidDataType
mismatched db l declared ne e = go (tree_found db.schema l) ne
  where
    go : (o : Option ℕ) → o ≢ None
        → Contains (sqlite_reading declared
        (option_map (λ t. Stored (kinds_in l) (map (λ r. r.cells) (rows_in l (db.trees t)))) o)).causes InvalidDataType
    go None ne = absurd (ne refl)
    go (Some t) ne = rw e (alone InvalidDataType)

-- of a table that is not there: HV00R
pub not_found : (db : Database) (l : Layout) (declared : List ColType) (c : Cause) → tree_found db.schema l ≡ None → c ≡ TableNotFound
    → Contains (sqlite_reading declared (entry_of db l)).causes c
not_found db l declared c none is = rw (none, is) (alone TableNotFound)

abbrev phase_is : ℕ → Option ℕ → Bool
phase_is p None = false
phase_is p (Some q) = nat_eq p q

is_phase : (p : ℕ) (o : Option ℕ) → phase_is p o ≡ true → o ≡ Some p
is_phase p None e = absurd cc
is_phase p (Some q) e = let s : q ≡ p = grind arith in ap Some s

one_of : (p : Cause → Bool) (cs : List Cause) (c : Cause) → Contains cs c → list_all p cs ≡ true → p c ≡ true
one_of p [] c (k, lt, is) all = absurd (omega (arith, lt))
one_of p (d ∷ cs) c (zero, lt, is) all = subst (λ (z : Cause). p z ≡ true) is (and_parts (p d) (list_all p cs) all).0
one_of p (d ∷ cs) c (suc k, lt, is) all = one_of p cs c (k, omega (arith, lt), is) (and_parts (p d) (list_all p cs) all).1

-- of causes of one phase each is one of the least
least_of : (p : ℕ) (cs : List Cause) (c : Cause) → list_all (λ d. phase_is p (phase_of d)) cs ≡ true → Contains cs c → IsLeast cs c
least_of p cs c all is = record {
  stands = is;
  phase = p;
  has = is_phase p (phase_of c) (one_of (λ d. phase_is p (phase_of d)) cs c is all);
  least = λ d q d_is d_has.
      let e = sym (is_phase p (phase_of d) (one_of (λ d. phase_is p (phase_of d)) cs d d_is all)) ∙ d_has in
      let s : p ≡ q = some_is p q e in
      omega (arith, s);
}
  where
    some_is : (p q : ℕ) → Some p ≡ Some q → p ≡ q
    some_is p q e = cc

of_run : (fits big : Bool) → list_all (λ d. phase_is 6 (phase_of d)) (content_causes fits big) ≡ true
of_run true true = refl
of_run true false = refl
of_run false true = refl
of_run false false = refl

-- all causes that one table shows are of one phase
pub least_told : (declared : List ColType) (entry : Option Entry) (c : Cause) → Contains (sqlite_reading declared entry).causes c
    → IsLeast (sqlite_reading declared entry).causes c
least_told declared None c is = least_of 5 _ c refl is
least_told declared (Some (Bytes content)) c is = least_of 5 _ c refl is
least_told declared (Some (Stored own rows)) c is = go (types_match own declared) is
  where
    go : (b : Bool)
        → Contains (if b then read_rows (list_all (row_fits declared) rows)
        (nat_lt 1000000 (length rows)) rows else record { causes = InvalidDataType ∷ []; rows = []; late = refl }).causes c
        → IsLeast (if b then read_rows (list_all (row_fits declared) rows)
        (nat_lt 1000000 (length rows)) rows else record { causes = InvalidDataType ∷ []; rows = []; late = refl }).causes c
    go true is = least_of 6 _ c (of_run (list_all (row_fits declared) rows) (nat_lt 1000000 (length rows))) is
    go false is = least_of 5 _ c refl is
