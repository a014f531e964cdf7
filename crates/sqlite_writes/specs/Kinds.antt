-- The order of a table's rows by key, and why the changes of a write are refused.
use Rattle.std.specs.Prelude.{◌≡◌, ℕ, Bool, true, false, not, ◌&&◌, ◌||◌, List, [], ◌∷◌, map, length, if◌then◌else◌, nat_lt, IsPermutation}
use Rattle.std.specs.List.{list_all, list_any}
use Rattle.std.specs.Ordering.{is_le, is_eq}
use mathlib.Core.Path.{ap, ◌∙◌}
use Rattle.med_value.specs.Prelude.{Datum, Tuple, cell, datum_cmp, is_missing, phase_of, row_limit}
use Rattle.med_value.specs.declared.cause.Cause.{Cause}
use Rattle.med_value.specs.declared.cause.Cause.TheVariants.{TooLarge, NotNull, NotUnique}
use Rattle.fdw_api.specs.Prelude.{TableRow, Held, Change, Inserts, Updates, Deletes, Refusals, Arrangement, is_of_run, rows_after}
use Rattle.std.proofs.lemmas.List.Sorted.{IsPermutation-refl, IsPermutation-cons, IsPermutation-trans, IsPermutation-middle}

-- a row of a database keeps no line
abbrev pub no_line : Tuple → List (List ℕ)
no_line cells = []

-- the key of a row is its first cell
abbrev pub key_cell : Held → Datum
key_cell r = cell r.cells 0

-- rows in the order of their keys: each comes before the first whose key is not below its own
abbrev pub put_by_key : Held → List Held → List Held
put_by_key x [] = x ∷ []
put_by_key x (y ∷ ys) = if is_le (datum_cmp (key_cell x) (key_cell y)) then x ∷ y ∷ ys else y ∷ put_by_key x ys

abbrev pub in_key_order : List Held → List Held
in_key_order [] = []
in_key_order (x ∷ xs) = put_by_key x (in_key_order xs)

pub put_permutes : (x : Held) (ys : List Held) → IsPermutation (x ∷ ys) (put_by_key x ys)
put_permutes x [] = IsPermutation-refl (x ∷ [])
put_permutes x (y ∷ ys) =
    elim (is_le (datum_cmp (key_cell x) (key_cell y)))
    as (λ b. IsPermutation (x ∷ y ∷ ys) (if b then x ∷ y ∷ ys else y ∷ put_by_key x ys)) [
      | true ↦ IsPermutation-refl (x ∷ y ∷ ys)
      | false ↦
          IsPermutation-trans (x ∷ y ∷ ys) (y ∷ x ∷ ys) (y ∷ put_by_key x ys) (IsPermutation-middle (x ∷ []) y ys)
          (IsPermutation-cons y (x ∷ ys) (put_by_key x ys) (put_permutes x ys))
    ]

pub order_permutes : (xs : List Held) → IsPermutation xs (in_key_order xs)
order_permutes [] = IsPermutation-refl []
order_permutes (x ∷ xs) =
    IsPermutation-trans (x ∷ xs) (x ∷ in_key_order xs) (put_by_key x (in_key_order xs))
    (IsPermutation-cons x xs (in_key_order xs) (order_permutes xs)) (put_permutes x (in_key_order xs))

abbrev pub by_key : Arrangement
by_key = record { arranged = in_key_order; permutes = order_permutes }

-- a change writes a row without a key
abbrev pub lacks_key : Change → Bool
lacks_key (Inserts r) = is_missing (cell r 0)
lacks_key (Updates id r) = is_missing (cell r 0)
lacks_key (Deletes id) = false

-- two of these values are equal; NULL is no value
abbrev pub repeats : List Datum → Bool
repeats [] = false
repeats (v ∷ vs) = list_any (λ w. not (is_missing v) && is_eq (datum_cmp v w)) vs || repeats vs

abbrev pub with_cause : Bool → Cause → List Cause → List Cause
with_cause true c cs = c ∷ cs
with_cause false c cs = cs

pub runs_on : (b : Bool) (c : Cause) (cs : List Cause) → is_of_run (phase_of c) ≡ true → list_all (λ d. is_of_run (phase_of d)) cs ≡ true
    → list_all (λ d. is_of_run (phase_of d)) (with_cause b c cs) ≡ true
runs_on true c cs one more = ap (λ b. b && list_all (λ d. is_of_run (phase_of d)) cs) one ∙ more
runs_on false c cs one more = more

-- a write is refused by 23502 where a row is written without a key, by 23505 where two rows would have one key, and by 54000 where it would
-- leave more than 1,000,000 rows
abbrev pub write_causes : List TableRow → List Change → List Cause
write_causes rows changes =
    with_cause (list_any lacks_key changes) NotNull (with_cause (repeats (map key_cell (rows_after no_line rows changes))) NotUnique
    (with_cause (nat_lt row_limit (length (rows_after no_line rows changes))) TooLarge []))

abbrev pub sqlite_refusals : Refusals
sqlite_refusals = record {
  causes = λ entry rows changes. write_causes rows changes;
  of_run = λ entry rows changes.
      runs_on (list_any lacks_key changes) NotNull _ mathlib.Core.Path.refl
      (runs_on (repeats (map key_cell (rows_after no_line rows changes))) NotUnique _ mathlib.Core.Path.refl
      (runs_on (nat_lt row_limit (length (rows_after no_line rows changes))) TooLarge [] mathlib.Core.Path.refl mathlib.Core.Path.refl));
}
