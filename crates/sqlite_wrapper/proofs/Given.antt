-- The next row of a page.
use Rattle.std.proofs.Common.{
  ◌≡◌,
  ℕ,
  ℤ,
  ◌+◌,
  ◌<◌,
  ◌<ℤ◌,
  Bool,
  true,
  false,
  ◌&&◌,
  int_le,
  List,
  [],
  ◌∷◌,
  Some,
  slice_get,
  drop,
  length,
  zero,
  suc,
  refl,
  arith,
}
use Rattle.std.proofs.lemmas.Int.{ints}
use Rattle.sqlite.specs.Order.{Row as SqlRow}
use Rattle.med_value.specs.Datum.{Tuple}
use Rattle.fdw_api.specs.Scan.{Spec, GivenRow, shown_cells, row_fits}
use Rattle.sqlite_tables.specs.Prelude.{Layout, kinds_in, layout_at, key_in, id_of, page_cells, is_row}
use Rattle.sqlite_wrapper.specs.Boxes.{given_of}
use Rattle.sqlite_wrapper.specs.Pages.{may_be_next}
use Rattle.sqlite_wrapper.specs.declared.scans.KeyScan.{KeyScan}

pub at_drop : (xs : List SqlRow) (at : ℕ) (r : SqlRow) → slice_get xs at ≡ Some r → (at < length xs) × (drop at xs ≡ r ∷ drop (at + 1) xs)
at_drop [] at r e = absurd cc
at_drop (x ∷ xs) zero r e = (omega arith, let s : x ≡ r = cc in rw s refl)
at_drop (x ∷ xs) (suc at) r e =
    let w = at_drop xs at r e in
    let n : suc at + 1 ≡ suc (at + 1) = omega arith in
    (omega (arith, w.0), rw n w.1)

pub row_same : (spec : Spec) (l : Layout) (r : SqlRow) (k : ℤ) (n : ℕ) (cells seen : Tuple) → k ≡ key_in r → n ≡ id_of k
    → cells ≡ page_cells l r → seen ≡ shown_cells spec cells
    → ◌≡◌ {A = GivenRow} (record { id = n; cells = seen }) (given_of spec l r)
row_same spec l r k n cells seen a b c d = rw (b, d, a, c) refl

-- five tests of which the third, the fourth or the fifth fails
third : (a b c d e : Bool) → c ≡ false → (a && b && c && d && e) ≡ false
third false b c d e off = refl
third true false c d e off = refl
third true true c d e off = rw off refl

fourth : (a b c d e : Bool) → d ≡ false → (a && b && c && d && e) ≡ false
fourth false b c d e off = refl
fourth true false c d e off = refl
fourth true true false d e off = refl
fourth true true true d e off = rw off refl

fifth : (a b c d e : Bool) → e ≡ false → (a && b && c && d && e) ≡ false
fifth false b c d e off = refl
fifth true false c d e off = refl
fifth true true false d e off = refl
fifth true true true false e off = refl
fifth true true true true e off = off

under : (low key : ℤ) → key <ℤ low → int_le low key ≡ false
under low key less = grind (arith, ints)

-- a row's cells are of its table's types
abbrev fits_in : KeyScan → SqlRow → Bool
fits_in s r = row_fits (kinds_in (layout_at s.table)) (page_cells (layout_at s.table) r)

-- a scan whose range is shut, or whose range the row's key is below or above, may not give it
pub shut : (s : KeyScan) (r : SqlRow) → s.«open» ≡ false → may_be_next s r ≡ false
shut s r off = third (is_row (layout_at s.table) r) (fits_in s r) s.«open» (int_le s.low (key_in r)) (int_le (key_in r) s.high) off

pub too_low : (s : KeyScan) (r : SqlRow) → key_in r <ℤ s.low → may_be_next s r ≡ false
too_low s r less =
    fourth (is_row (layout_at s.table) r) (fits_in s r) s.«open» (int_le s.low (key_in r)) (int_le (key_in r) s.high)
    (under s.low (key_in r) less)

pub too_high : (s : KeyScan) (r : SqlRow) → s.high <ℤ key_in r → may_be_next s r ≡ false
too_high s r more =
    fifth (is_row (layout_at s.table) r) (fits_in s r) s.«open» (int_le s.low (key_in r)) (int_le (key_in r) s.high)
    (under (key_in r) s.high more)
