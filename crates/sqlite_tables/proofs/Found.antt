-- When a table is found for a layout.
use Rattle.std.proofs.Common.{◌≡◌, ◌≢◌, ℕ, Bool, true, false, if◌then◌else◌, Option, None, refl}
use Rattle.sqlite.specs.Schema.{Schema}
use Rattle.sqlite_tables.specs.Layouts.{Layout}
use Rattle.sqlite_tables.specs.Fitting.{is_of_shape}
use Rattle.sqlite_tables.specs.Tables.{tree_of, tree_found}

-- a stored table of the shape, whose page text was read, is found
pub fit_is_found : (schema : Schema) (l : Layout) → is_of_shape schema l ≡ true → tree_of schema l ≢ None → tree_found schema l ≢ None
fit_is_found schema l fits there = rw fits there

-- one of another shape is not
pub misfit_is_none : (schema : Schema) (l : Layout) → is_of_shape schema l ≡ false → tree_found schema l ≡ None
misfit_is_none schema l misfit = rw misfit refl

no_table : (b : Bool) (o : Option ℕ) → o ≡ None → (if b then o else None) ≡ None
no_table true o is = is
no_table false o is = refl

-- nor one whose page text was not read
pub unread_is_none : (schema : Schema) (l : Layout) → tree_of schema l ≡ None → tree_found schema l ≡ None
unread_is_none schema l none = no_table (is_of_shape schema l) (tree_of schema l) none

found_there : (b : Bool) (o : Option ℕ) → (if b then o else None) ≢ None → (if b then o else None) ≡ o
found_there true o found = refl
found_there false o found = absurd (found refl)

-- a table that is found is the one that the page text reads
pub found_is_read : (schema : Schema) (l : Layout) → tree_found schema l ≢ None → tree_found schema l ≡ tree_of schema l
found_is_read schema l found = found_there (is_of_shape schema l) (tree_of schema l) found
