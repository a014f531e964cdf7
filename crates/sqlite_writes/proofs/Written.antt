-- Layouts whose rows can be written: what is known of them, and that the shipped ones are such.
use Rattle.std.proofs.Common.{◌≡◌, ◌&&◌, ℕ, zero, suc, Bool, true, false, List, [], ◌∷◌, Option, IsTrue, refl, ap, subst, arith}
use Rattle.std.specs.Coded.{coded_list, coded_option, coded_ℕ}
use Rattle.std.proofs.Math.Logic.{∥∥₁_elim}
use base.Stored.{Coded-set}
use native.Mathlib.Bridge.{le_prop}
use Rattle.sqlite.specs.Schema.{Schema}
use Rattle.sqlite.specs.Order.{column}
use Rattle.sqlite.specs.View.{is_int}
use Rattle.med_value.specs.Prelude.{NoValue, Whole, Chars, Logic, Tuple}
use Rattle.med_value.specs.declared.value.ColType.{ColType}
use Rattle.med_value.specs.declared.value.ColType.TheVariants as types
use Rattle.fdw_api.specs.Prelude.{row_fits}
use Rattle.sqlite_tables.specs.contracts.columns.PageColumn as page_column
use Rattle.sqlite_tables.specs.declared.columns.PageColumn.{PageColumn}
use Rattle.sqlite_tables.specs.Layouts.{kinds_at}
use Rattle.sqlite_tables.specs.Prelude.{Layout, further_kinds, layout_at, orders, people}
use Rattle.sqlite_writes.specs.Rewriting.{has_place}
use Rattle.sqlite_writes.specs.Stored.{inserted_cells, is_placed}
use Rattle.sqlite_writes.specs.Writable.{IsWritable, IsWritten}

columns_set : IsSet (List PageColumn)
columns_set = Coded-set (coded_list page_column.the_row.coded)

parameters_set : IsSet (List (Option ℕ))
parameters_set = Coded-set (coded_list (coded_option coded_ℕ))

-- of a layout whose texts are known the rows can be written
pub written_of : (schema : Schema) (l : Layout) → ∥ IsWritable schema l ∥₁ → IsWritten l
written_of schema l writable = record {
  keyed = ∥∥₁_elim writable (columns_set _ _) (λ h. h.0.keyed);
  again = ∥∥₁_elim writable (parameters_set _ _) (λ h. h.0.again);
  few = ∥∥₁_elim writable le_prop (λ h. h.0.few);
}

orders_written : IsWritten orders
orders_written = record { keyed = refl; again = refl; few = omega arith }

people_written : IsWritten people
people_written = record { keyed = refl; again = refl; few = omega arith }

-- the layout of each number
pub written_at : (table : ℕ) → IsWritten (layout_at table)
written_at zero = orders_written
written_at (suc zero) = people_written
written_at (suc (suc table)) = people_written

-- a row of the table, by the types of the further columns
pub placed_by : (l : Layout) (x : Tuple) → IsWritten l → has_place l x ≡ true → is_placed (types.Int ∷ further_kinds l) x ≡ true
placed_by l x written placed = subst (λ (ks : List ColType). is_placed ks x ≡ true) (ap kinds_at written.keyed) placed

-- the rowid of such a row is an integer
pub key_is_int : (kinds : List ColType) (x : Tuple) → is_placed (types.Int ∷ kinds) x ≡ true → IsTrue (is_int (column (inserted_cells x) 0))
key_is_int kinds [] placed = absurd cc
key_is_int kinds (NoValue ∷ x) placed = absurd (keyless (row_fits (types.Int ∷ kinds) (NoValue ∷ x)) placed)
  where
    keyless : (a : Bool) → (a && false) ≡ true → ⊥
    keyless true e = cc
    keyless false e = cc
key_is_int kinds (Whole n ∷ x) placed = refl
key_is_int kinds (Chars t ∷ x) placed = absurd cc
key_is_int kinds (Logic b ∷ x) placed = absurd cc
