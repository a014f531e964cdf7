-- Over which rows a query is run: those that the boxes of its tables show.
use Rattle.std.specs.Prelude.{ℕ, zero, suc, List, [], ◌∷◌, map, slice_get, Option, Some}
use Rattle.med_value.specs.Datum.{Tuple}
use Rattle.med_query.specs.Query.{Tables}
use Rattle.med_binder.specs.Place.{Place}
use Rattle.fdw_api.specs.State.{BoxState, rows_of}

-- the rows of a bound table, as tuples
abbrev pub tuples_of : BoxState → ℕ → List Tuple
tuples_of s table = map (λ r. r.cells) (rows_of s table)

-- the rows of a table, as its box shows them; none where there is no such box
abbrev pub rows_shown : Option (Option BoxState) → ℕ → List Tuple
rows_shown (Some (Some s)) table = tuples_of s table
rows_shown box table = []

-- the rows of each entry of a query
abbrev pub entry_rows : List (Option BoxState) → List Place → Tables
entry_rows boxes [] k = []
entry_rows boxes (p ∷ ps) zero = rows_shown (slice_get boxes p.source) p.table
entry_rows boxes (p ∷ ps) (suc k) = entry_rows boxes ps k
