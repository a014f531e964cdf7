-- The key is the first column of each layout that there is.
use Rattle.std.proofs.Common.{◌≡◌, ℕ, ℤ, Bool, false, ◌<ℤ◌, List, [], ◌∷◌, IsTrue, zero, suc, refl, ap, ◌∙◌, arith}
use Rattle.std.proofs.lemmas.Int.{ints}
use Rattle.std.specs.Ordering.{is_lt, int_cmp}
use Rattle.sqlite.specs.declared.types.Value.{Value as SqlValue}
use Rattle.sqlite.specs.declared.types.Value.TheVariants.{Null, Int, Real, Text, Blob}
use Rattle.sqlite.specs.Edit.{id_in}
use Rattle.sqlite.specs.Order.{Row as SqlRow}
use Rattle.sqlite.specs.Tree.{rowid}
use Rattle.sqlite.specs.View.{is_int}
use Rattle.med_value.specs.Prelude.{Datum, Whole, Tuple, cell, key_cmp}
use Rattle.med_value.specs.declared.value.ColType.{ColType}
use Rattle.med_value.specs.declared.value.ColType.TheVariants as types
use Rattle.sqlite_tables.specs.Cells.{cell_of, cells_at}
use Rattle.sqlite_tables.specs.Layouts.{column_at, kinds_at}
use Rattle.sqlite_tables.specs.Prelude.{Layout, key_of, kinds_in, layout_at, page_cells, paged, places}
use Rattle.sqlite_tables.specs.declared.columns.PageColumn.{PageColumn}

-- the first column of a layout is its key, an integer, and then come these columns
abbrev pub HasKeyFirst : Layout → Type 0
HasKeyFirst l = (rest : List PageColumn) × (l.columns ≡ column_at 0 types.Int ∷ rest)

-- it is so of each layout that there is
pub key_first : (t : ℕ) → HasKeyFirst (layout_at t)
key_first zero = (column_at 1 types.Int ∷ column_at 2 types.Int ∷ [], refl)
key_first (suc zero) = (column_at 1 types.Text ∷ column_at 2 types.Bool ∷ [], refl)
key_first (suc (suc t)) = (column_at 1 types.Text ∷ column_at 2 types.Bool ∷ [], refl)

-- the types of its columns begin with that of the key
pub kinds_first : (t : ℕ) → (rest : List ColType) × (kinds_in (layout_at t) ≡ types.Int ∷ rest)
kinds_first t = let f = key_first t in (kinds_at f.0, ap kinds_at f.1)

key_value : (v : SqlValue) → IsTrue (is_int v) → cell_of types.Int v ≡ Whole (id_in v)
key_value (Int n) h = refl
key_value Null h = absurd (cc)
key_value (Real x) h = absurd (cc)
key_value (Text t) h = absurd (cc)
key_value (Blob b) h = absurd (cc)

-- a row that a page shows begins with its key
pub key_then : (l : Layout) (first : HasKeyFirst l) (r : SqlRow) → IsTrue (is_int (rowid r))
    → page_cells l (paged (places l) r) ≡ Whole (key_of r) ∷ cells_at first.0 (paged (places l) r)
key_then l first r h =
    ap (λ (cs : List PageColumn). cells_at cs (paged (places l) r)) first.1
    ∙ ap (λ (d : Datum). d ∷ cells_at first.0 (paged (places l) r)) (key_value (rowid r) h)

pub key_cell : (l : Layout) (first : HasKeyFirst l) (r : SqlRow) → IsTrue (is_int (rowid r))
    → cell (page_cells l (paged (places l) r)) 0 ≡ Whole (key_of r)
key_cell l first r h = ap (λ (cells : Tuple). cell cells 0) (key_then l first r h)

greater_than : (m n : ℤ) → m <ℤ n → is_lt (int_cmp n m) ≡ false
greater_than m n less = grind (arith, ints)

-- in ascending order a greater key does not come before a lower one
pub keys_rise : (descending nulls_first : Bool) (x y : Datum) (m n : ℤ) → descending ≡ false → x ≡ Whole n → y ≡ Whole m → m <ℤ n
    → is_lt (key_cmp descending nulls_first x y) ≡ false
keys_rise descending nulls_first x y m n up x_is y_is less = rw (up, x_is, y_is) (greater_than m n less)
