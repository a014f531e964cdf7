-- The rows of an honest and sound box are as wide as its tables.
use Rattle.std.proofs.Common.{◌≡◌, ℕ, zero, suc, Contains, ◌<◌, Bool, true, false, ◌&&◌, List, [], ◌∷◌, map, length, get_or, Option, Some, None, slice_get, refl, sym, ap, ◌∙◌, subst, arith}
use Rattle.std.specs.List.{list_all}
use Rattle.std.proofs.lemmas.List.{length-map}
use Rattle.std.proofs.lemmas.Option.{slice_get-get_or}
use Rattle.med_value.specs.Datum.{Tuple}
use Rattle.med_value.specs.declared.value.ColType.{ColType}
use Rattle.med_binder.specs.Place.{Place, entry_place}
use Rattle.med_binder.specs.declared.bound.BoundEntry.{BoundEntry}
use Rattle.fdw_api.specs.Prelude.{TableRow, has_kind, is_clean, row_fits, BoxTable, BoxState, rows_of}
use Rattle.pushdown.specs.Joins.{Each}
use Rattle.scan_loops.specs.Prelude.{or_none, bound_in, bound_at, rows_in, rows_at, HonestAt}
use Rattle.med_planner.specs.Flat.{width_of}
use Rattle.med_planner.specs.Offered.{source_of, number_of}
use Rattle.med_planner.specs.Premises.{AllSound, SoundIsWide}
use Rattle.med_planner.proofs.Pulling.{and_left, and_right}
use Rattle.med_planner.proofs.Matching.{as_many, wide_as}

last_part : (a b c : Bool) → (a && b && c) ≡ true → c ≡ true
last_part true true c e = e
last_part true false c e = absurd (no c e)
  where
    no : (c : Bool) → (false && c) ≡ true → ⊥
    no c e = cc
last_part false b c e = absurd (no b c e)
  where
    no : (b c : Bool) → (false && b && c) ≡ true → ⊥
    no b c e = cc

fits_long : (kinds : List ColType) (cells : Tuple) → row_fits kinds cells ≡ true → length cells ≡ length kinds
fits_long [] [] h = refl
fits_long [] (v ∷ vs) h = absurd cc
fits_long (k ∷ ks) [] h = absurd cc
fits_long (k ∷ ks) (v ∷ vs) h = let e = fits_long ks vs (last_part (has_kind k v) (is_clean v) (row_fits ks vs) h) in omega (arith, e)

all_long : (kinds : List ColType) (rows : List TableRow) → list_all (λ r. row_fits kinds r.cells) rows ≡ true → Each (λ r. length r ≡ length kinds) (map (λ r. r.cells) rows)
all_long kinds [] h = tt
all_long kinds (r ∷ rows) h =
    (fits_long kinds r.cells (and_left (row_fits kinds r.cells) (list_all (λ r. row_fits kinds r.cells) rows) h), all_long kinds rows (and_right (row_fits kinds r.cells) (list_all (λ r. row_fits kinds r.cells) rows) h))

module _ (boxes : List (Option BoxState)) (sound : AllSound boxes) (slot : ℕ) (honest : HonestAt boxes slot) where
  rows_long : (t : ℕ) (table : BoxTable) (o : Option (Option BoxState)) → slice_get boxes slot ≡ o → bound_in (or_none o) t ≡ Some table → Each (λ r. length r ≡ length table.kinds) (rows_in (or_none o) t)
  rows_long t table None e is = tt
  rows_long t table (Some None) e is = tt
  rows_long t table (Some (Some s)) e is = all_long table.kinds (rows_of s t) ((sound slot s e).typed (honest s e) t table is)

-- the slot of an entry is among those of all
pub has_slot : (es : List BoundEntry) (k : ℕ) → k < length es → Contains (map (λ (p : Place). p.source) (map entry_place es)) (source_of es k)
has_slot [] k lt = absurd (omega (arith, lt))
has_slot (e ∷ es) zero lt = (zero, omega arith, refl)
has_slot (e ∷ es) (suc k) lt =
    let c = has_slot es k (omega (arith, lt)) in
    let within = c.1 in
    (suc c.0, omega (arith, within), c.2)

pub sound_is_wide : SoundIsWide
sound_is_wide es kss boxes are honest sound k h =
    let long = length-map es (λ (e : BoundEntry). e.width) in
    let many = as_many es kss (bound_at boxes) are in
    let lt : k < length kss = omega (arith, h, long, many) in
    let ks = get_or kss k [] in
    let i = are.each k ks (slice_get-get_or kss k [] lt) in
    let slot = source_of es k in
    let same : length i.table.kinds ≡ width_of es k = ap length i.kinds ∙ sym (wide_as es kss (bound_at boxes) are k lt) in
    subst (λ (n : ℕ). Each (λ r. length r ≡ n) (rows_at boxes slot (number_of es k))) same (rows_long boxes sound slot (honest slot (has_slot es k h)) (number_of es k) i.table (slice_get boxes slot) refl i.is)
