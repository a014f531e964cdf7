-- Restrictions one after the other, and the row at a place.
use Rattle.std.proofs.Common.{◌≡◌, ℕ, ◌+◌, ◌<◌, List, [], ◌∷◌, Some, length, drop, slice_get, zero, suc, refl, ap, sym, ◌∙◌, arith}
use Rattle.fdw_api.specs.Scan.{TableRow}
use Rattle.csv_tables.specs.declared.table.CsvTable.{CsvTable}
use Rattle.csv_tables.specs.CsvRecords.{Record}
use Rattle.csv_tables.specs.Shapes.{Shape}
use Rattle.csv_tables.specs.Tables.{shape_is, records_of, cells_at, fields_at, numbered}
use Rattle.csv_tables.specs.Rewriting.{rows_in}
use Rattle.csv_tables.proofs.Flat.{cut_drop, cut_length}
use Rattle.csv_tables.specs.Held.{held_of}

-- rows with ids from a place on
drop_numbered : (shape : Shape) (n at : ℕ) (rs : List Record) → drop at (numbered shape n rs) ≡ numbered shape (n + at) (drop at rs)
drop_numbered shape n zero rs = ap (λ (k : ℕ). numbered shape k rs) (omega arith)
drop_numbered shape n (suc at) [] = refl
drop_numbered shape n (suc at) (r ∷ rs) = drop_numbered shape (n + 1) at rs ∙ ap (λ (k : ℕ). numbered shape k (drop at rs)) (omega arith)

from_zero : (shape : Shape) (at : ℕ) (rs : List Record) → drop at (numbered shape 0 rs) ≡ numbered shape at (drop at rs)
from_zero shape at rs = drop_numbered shape 0 at rs ∙ ap (λ (k : ℕ). numbered shape k (drop at rs)) (omega arith)

-- the row of the record at a place
abbrev pub row_at : CsvTable → ℕ → TableRow
row_at t at = record { id = at; cells = cells_at t at; origin = fields_at t at }

here : (t : CsvTable) (at : ℕ) → at < t.rows.count → drop at (rows_in t) ≡ row_at t at ∷ drop (at + 1) (rows_in t)
here t at lt =
    let shape = shape_is t.layout in
    let rs = records_of t.rows in
    from_zero shape at rs ∙ ap (numbered shape at) (cut_drop at t.rows.count t.rows.width (held_of t.rows.fields) lt) ∙ ap (λ (l : List TableRow). row_at t at ∷ l) (sym (from_zero shape (at + 1) rs))

first_of : (rows more : List TableRow) (at : ℕ) (x r : TableRow) → drop at rows ≡ x ∷ more → slice_get rows at ≡ Some r → x ≡ r
first_of [] more zero x r e is = absurd cc
first_of [] more (suc at) x r e is = absurd cc
first_of (y ∷ rows) more zero x r e is = (let a : y ≡ x = cc in let b : y ≡ r = cc in sym a ∙ b)
first_of (y ∷ rows) more (suc at) x r e is = first_of rows more at x r e is

-- that is the row which stands there
pub row_there : (t : CsvTable) (at : ℕ) (r : TableRow) → at < t.rows.count → slice_get (rows_in t) at ≡ Some r → row_at t at ≡ r
row_there t at r lt is = first_of (rows_in t) (drop (at + 1) (rows_in t)) at (row_at t at) r (here t at lt) is

numbered_length : (shape : Shape) (n : ℕ) (rs : List Record) → length (numbered shape n rs) ≡ length rs
numbered_length shape n [] = refl
numbered_length shape n (r ∷ rs) = ap (λ (k : ℕ). suc k) (numbered_length shape (n + 1) rs)

-- there are as many rows as records
pub rows_count : (t : CsvTable) → length (rows_in t) ≡ t.rows.count
rows_count t = numbered_length (shape_is t.layout) 0 (records_of t.rows) ∙ cut_length t.rows.count t.rows.width (held_of t.rows.fields)
