-- The cells of a record, column by column.
use Rattle.std.proofs.Common.{◌≡◌, ◌+◌, ◌<◌, ◌≤◌, ℕ, zero, suc, List, [], ◌∷◌, ◌++◌, length, map, take, Some, None, unwrap_or, slice_get, refl, ap, sym, ◌∙◌, arith}
use Rattle.std.proofs.lemmas.List.{map-append, take_more, take_all}
use Rattle.med_value.specs.Datum.{Datum, NoValue, Tuple, datum, cell}
use Rattle.med_value.specs.declared.value.Value.{Value}
use Rattle.med_value.specs.declared.value.ColType.{ColType}
use Rattle.csv_tables.specs.Cells.{cell_of, record_cells}
use Rattle.csv_tables.specs.CsvRecords.{Record}
use Rattle.csv_tables.specs.Tables.{field_size}
use Rattle.csv_tables.proofs.Flat.{slice_none}

no_cell : (c : ℕ) → cell [] c ≡ NoValue
no_cell zero = refl
no_cell (suc c) = refl

-- no such column
pub cell_none : (null : List ℕ) (ks : List ColType) (r : Record) (c : ℕ) → slice_get ks c ≡ None → cell (record_cells null ks r) c ≡ NoValue
cell_none null [] r c e = no_cell c
cell_none null (k ∷ ks) r zero e = absurd cc
cell_none null (k ∷ ks) [] (suc c) e = cell_none null ks [] c e
cell_none null (k ∷ ks) (f ∷ fs) (suc c) e = cell_none null ks fs c e

-- no such field
pub cell_missing : (null : List ℕ) (ks : List ColType) (r : Record) (c : ℕ) → slice_get r c ≡ None → cell (record_cells null ks r) c ≡ NoValue
cell_missing null [] r c e = no_cell c
cell_missing null (k ∷ ks) [] zero e = refl
cell_missing null (k ∷ ks) [] (suc c) e = cell_missing null ks [] c (slice_none c)
cell_missing null (k ∷ ks) (f ∷ fs) zero e = absurd cc
cell_missing null (k ∷ ks) (f ∷ fs) (suc c) e = cell_missing null ks fs c e

-- what the field means
pub cell_there : (null : List ℕ) (ks : List ColType) (r : Record) (c : ℕ) (k : ColType) (f : List ℕ) → slice_get ks c ≡ Some k → slice_get r c ≡ Some f → cell (record_cells null ks r) c ≡ unwrap_or (cell_of null k f) NoValue
cell_there null [] r c k f ek ef = absurd (let n = slice_none {X = ColType} c in cc)
cell_there null (j ∷ ks) [] c k f ek ef = absurd (let n = slice_none {X = List ℕ} c in cc)
cell_there null (j ∷ ks) (g ∷ fs) zero k f ek ef =
    let a : j ≡ k = cc in
    let b : g ≡ f = cc in
    rw (a, b) refl
cell_there null (j ∷ ks) (g ∷ fs) (suc c) k f ek ef = cell_there null ks fs c k f ek ef

pub size_missing : (r : Record) (c : ℕ) → slice_get r c ≡ None → field_size r c ≡ 0
size_missing [] c e = refl
size_missing (f ∷ fs) zero e = absurd cc
size_missing (f ∷ fs) (suc c) e = size_missing fs c e

pub size_there : (r : Record) (c : ℕ) (f : List ℕ) → slice_get r c ≡ Some f → field_size r c ≡ length f
size_there [] c f e = absurd (let n = slice_none {X = List ℕ} c in cc)
size_there (g ∷ fs) zero f e = let a : g ≡ f = cc in ap length a
size_there (g ∷ fs) (suc c) f e = size_there fs c f e

pub cells_length : (null : List ℕ) (ks : List ColType) (r : Record) → length (record_cells null ks r) ≡ length ks
cells_length null [] r = refl
cells_length null (k ∷ ks) [] = ap (λ (n : ℕ). suc n) (cells_length null ks [])
cells_length null (k ∷ ks) (f ∷ fs) = ap (λ (n : ℕ). suc n) (cells_length null ks fs)

pub none_past : {X : Type 0} (xs : List X) (c : ℕ) → length xs ≤ c → slice_get xs c ≡ None
none_past [] c le = slice_none c
none_past (x ∷ xs) zero le = absurd (omega arith)
none_past (x ∷ xs) (suc c) le = none_past xs c (omega arith)

-- one more cell of a row
pub row_step : (xs : Tuple) (i : ℕ) (vs ws : List Value) (v : Value) → i < length xs → map datum vs ≡ take i xs → ws ≡ vs ++ v ∷ [] → datum v ≡ cell xs i → map datum ws ≡ take (i + 1) xs
row_step xs i vs ws v lt inv e d =
    ap (map datum) e ∙ map-append datum vs (v ∷ []) ∙ ap (λ (l : Tuple). l ++ datum v ∷ []) inv ∙ ap (λ (x : Datum). take i xs ++ x ∷ []) d ∙ sym (take_more xs i NoValue lt)

pub row_done : (xs : Tuple) (n : ℕ) (vs : List Value) → length xs ≤ n → map datum vs ≡ take n xs → map datum vs ≡ xs
row_done xs n vs le inv = inv ∙ take_all n xs le
