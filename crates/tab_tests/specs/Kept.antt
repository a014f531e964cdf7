-- Rows that a table keeps as rows, without a line that they were read from: the id of each is its place.
use Rattle.std.specs.Prelude.{ℕ, ◌+◌, List, [], ◌∷◌}
use Rattle.med_value.specs.Datum.{Tuple, tuple}
use Rattle.med_value.specs.declared.value.Row.{Row}
use Rattle.fdw_api.specs.Prelude.{TableRow, Held, Change}
use Rattle.wrapper_parts.specs.declared.fates.Fate.{Fate}
use Rattle.wrapper_parts.specs.Weaving as weaving

-- a row keeps no line
abbrev pub no_line : Tuple → List (List ℕ)
no_line cells = []

abbrev pub as_held : Tuple → Held
as_held cells = record { cells = cells; origin = [] }

-- rows with their places as ids, the first of which is n
abbrev pub numbered : ℕ → List Tuple → List TableRow
numbered n [] = []
numbered n (c ∷ cs) = record { id = n; cells = c; origin = [] } ∷ numbered (n + 1) cs

-- what fates leave of old rows, and what further changes leave of them
abbrev pub left_by : List (Fate Row) → List Tuple → List Tuple
left_by = weaving.left_by tuple

abbrev pub rows_left : List Tuple → List (Fate Row) → List Change → List Held
rows_left = weaving.rows_left no_line as_held tuple
