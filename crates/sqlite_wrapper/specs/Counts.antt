-- The numbers of rows that are held for the tables of a database.
use Rattle.std.specs.Prelude.{◌≡◌, ◌≤◌, ℕ, List, Option, Some, None, length, slice_index_or}
use Rattle.sqlite.specs.Effect.{Database}
use Rattle.med_value.specs.Limits.{row_limit}
use Rattle.sqlite_wrapper.specs.Boxes.{rows_at}

-- what is held for a table, by its number; nothing where it is not known
abbrev pub held_for : List (Option ℕ) → ℕ → Option ℕ
held_for counts t = slice_index_or counts t None

-- each is the number of its table's rows
abbrev pub AreCounts : Database → List (Option ℕ) → Type 0
AreCounts db counts = (t n : ℕ) → held_for counts t ≡ Some n → n ≡ length (rows_at db t)

-- none is above what a table may have
abbrev pub AreFew : List (Option ℕ) → Type 0
AreFew counts = (t n : ℕ) → held_for counts t ≡ Some n → n ≤ row_limit

-- nothing is held that was not held before
abbrev pub Forgets : List (Option ℕ) → List (Option ℕ) → Type 0
Forgets old new = (t n : ℕ) → held_for new t ≡ Some n → held_for old t ≡ Some n
