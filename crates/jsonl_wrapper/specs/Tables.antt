-- What a table is: what its columns read, its lines and its rows.
use Rattle.std.specs.Prelude.{◌+◌, ℕ, List, [], ◌∷◌, map, slice_get, unwrap_or}
use Rattle.med_value.specs.Datum.{Tuple}
use Rattle.med_value.specs.declared.value.ColType.{ColType}
use Rattle.fdw_api.specs.Scan.{TableRow}
use Rattle.jsonl_wrapper.specs.declared.table.JsonTable.{JsonTable}
use Rattle.jsonl_wrapper.specs.Lines.{lines_at}
use Rattle.jsonl_wrapper.specs.Fields.{Reader, reader_of}
use Rattle.jsonl_wrapper.specs.Objects.{cells_at}

-- lines with their places as ids
abbrev pub numbered : List Reader → ℕ → List (List ℕ) → List TableRow
numbered readers n [] = []
numbered readers n (l ∷ ls) = record { id = n; cells = cells_at readers l; origin = l ∷ [] } ∷ numbered readers (n + 1) ls

-- what a table's columns read, and its lines
abbrev pub readers_in : JsonTable → List Reader
readers_in t = map reader_of t.fields.items

abbrev pub lines_in : JsonTable → List (List ℕ)
lines_in t = lines_at t.content.items t.lines.items

abbrev pub kinds_in : JsonTable → List ColType
kinds_in t = map (λ f. f.kind) (readers_in t)

-- its rows
abbrev pub rows_in : JsonTable → List TableRow
rows_in t = numbered (readers_in t) 0 (lines_in t)

-- the line at a place, and the cells of its row
abbrev pub line_in : JsonTable → ℕ → List ℕ
line_in t at = unwrap_or (slice_get (lines_in t) at) []

abbrev pub row_cells : JsonTable → ℕ → Tuple
row_cells t at = cells_at (readers_in t) (line_in t at)
