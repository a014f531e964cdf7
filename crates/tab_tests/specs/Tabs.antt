-- Tables of tab-separated lines: a row a line and a field a column, as rows stand in replies, without a header and without escapes.
use Rattle.std.specs.Prelude.{ℕ, Bool, true, false, not, ◌&&◌, ◌||◌, ◌==◌, List, [], ◌∷◌, ◌++◌, map, flat_map, replicate, nat_lt, bytes_eq, codes, if◌then◌else◌}
use Rattle.std.specs.List.{list_all, list_any, slice_split}
use Rattle.std.specs.Str.{is_utf8}
use Rattle.std.specs.Str.Lines.{lines}
use Rattle.med_value.specs.Prelude.{Datum, NoValue, Whole, Chars, Logic, Tuple, tuple, row_text}
use Rattle.med_value.specs.declared.value.Row.{Row}
use Rattle.med_value.specs.declared.value.ColType.{ColType}
use Rattle.med_value.specs.declared.value.ColType.TheVariants as types
use Rattle.fdw_api.specs.Scan.{row_fits}

-- `\N` is NULL, each other field a text
abbrev pub cell_of : List ℕ → Datum
cell_of field = if bytes_eq field (codes "\\N") then NoValue else Chars field

-- the cells of a line, between its tabs
abbrev pub line_cells : List ℕ → Tuple
line_cells line = map cell_of (slice_split (λ b. b == 9) line)

-- the rows of a content, one for each line
abbrev pub rows_of : List ℕ → List Tuple
rows_of content = map line_cells (lines content)

-- the bytes of control characters, and backslash: a reply would escape some of them, and U+0000 stands in no text
abbrev pub is_mark : ℕ → Bool
is_mark b = nat_lt b 32 || b == 92

-- a cell that is written as it is read
abbrev pub is_plain : Datum → Bool
is_plain NoValue = true
is_plain (Chars t) = not (list_any is_mark t)
is_plain (Whole n) = false
is_plain (Logic b) = false

-- a cell for each column, of its type
abbrev pub is_row : List ColType → Tuple → Bool
is_row kinds cells = row_fits kinds cells && list_all is_plain cells

-- the types of so many columns of text
abbrev pub texts : ℕ → List ColType
texts width = replicate width types.Text

-- rows of so many columns of text
abbrev pub are_rows : ℕ → List Row → Bool
are_rows width rows = list_all (is_row (texts width)) (map tuple rows)

-- a content is a table of columns of these types
abbrev pub is_table : List ColType → List ℕ → Bool
is_table kinds content = is_utf8 content && list_all (is_row kinds) (rows_of content)

-- the lines of rows
abbrev pub text_of : List Tuple → List ℕ
text_of rows = flat_map (λ r. row_text r ++ 10 ∷ []) rows
