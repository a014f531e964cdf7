-- The kept cells of integer columns.
use Rattle.std.proofs.Common.{◌≡◌, ℕ, ◌+◌, ◌-◌, ◌*◌, ◌<◌, ◌≤◌, Bool, true, false, if◌then◌else◌, List, [], ◌∷◌, ◌++◌, Option, Some, length, map, take, drop, get_or, slice_get, unwrap_or, zero, suc, refl, ap, sym, ◌∙◌, arith}
use Rattle.std.specs.List.{slice_range}
use Rattle.std.proofs.lemmas.List.{length-append, length-map, take_at, take_all, drop_at, drop-drop}
use Rattle.std.proofs.Math.ListN.{drop_of_length-le}
use Rattle.std.proofs.Math.Seq.{drop-append-add, take-append-add}
use native.Mathlib.Nat.{mul-le-mul_right, suc-mul, add-mul}
use Rattle.med_value.specs.Datum.{Datum, Tuple, cell}
use Rattle.serde_json.specs.Data.{Data}
use Rattle.fdw_api.specs.Scan.{TableRow}
use Rattle.jsonl_wrapper.specs.declared.fields.Field.{Field}
use Rattle.jsonl_wrapper.specs.declared.lines.Span.{Span}
use Rattle.jsonl_wrapper.specs.declared.table.JsonTable.{JsonTable}
use Rattle.jsonl_wrapper.specs.Fields.{Reader, reader_of}
use Rattle.jsonl_wrapper.specs.Lines.{line_at, lines_at}
use Rattle.jsonl_wrapper.specs.Objects.{json_of, read_cell, cells_at}
use Rattle.jsonl_wrapper.specs.Tables.{numbered, readers_in, lines_in, rows_in, line_in, row_cells}
use Rattle.jsonl_wrapper.specs.Wholes.{whole_is, is_whole, whole_readers, wholes_at, wholes_of}

some_inj : {A : Type 0} (a b : A) → Some a ≡ Some b → a ≡ b
some_inj a b q = cc

-- the line at a place of these lines
abbrev line_of : List (List ℕ) → ℕ → List ℕ
line_of lines at = unwrap_or (slice_get lines at) []

-- the row at a place has the cells of its line
cells_of : (readers : List Reader) (n at : ℕ) (lines : List (List ℕ)) (r : TableRow) → slice_get (numbered readers n lines) at ≡ Some r
    → cells_at readers (line_of lines at) ≡ r.cells
cells_of readers n at [] r is = absurd cc
cells_of readers n zero (l ∷ ls) r is = ap (λ (z : TableRow). z.cells) (some_inj _ r is)
cells_of readers n (suc at) (l ∷ ls) r is = cells_of readers (n + 1) at ls r is

pub cells_are : (t : JsonTable) (at : ℕ) (r : TableRow) → slice_get (rows_in t) at ≡ Some r → row_cells t at ≡ r.cells
cells_are t at r is = cells_of (readers_in t) 0 at (lines_in t) r is

-- the line at a place stands where its span says
pub line_there : (content : List ℕ) (spans : List Span) (at : ℕ) (span : Span) → at < length spans → span ≡ get_or spans at span
    → line_of (lines_at content spans) at ≡ line_at content span
line_there content [] at span lt e = absurd (omega arith)
line_there content (s ∷ spans) zero span lt e = ap (line_at content) (sym e)
line_there content (s ∷ spans) (suc at) span lt e = line_there content spans at span (omega arith) e

-- the cells of one line stand together
width_at : (readers : List Reader) (line : List ℕ) → length (wholes_at readers line) ≡ length (whole_readers readers)
width_at readers line = length-map (whole_readers readers) (read_cell (json_of line))

wholes_length : (readers : List Reader) (lines : List (List ℕ)) → length (wholes_of readers lines) ≡ length lines * length (whole_readers readers)
wholes_length readers [] = omega arith
wholes_length readers (l ∷ ls) =
    let w = length (whole_readers readers) in
    length-append (wholes_at readers l) (wholes_of readers ls)
    ∙ (let a = width_at readers l in let b = wholes_length readers ls in let m = suc-mul (length ls) w in omega arith)

-- a column of integers is, among those, the one behind so many as stand before it
abbrev wholes_in : List Field → List Reader
wholes_in fs = whole_readers (map reader_of fs)

slot_there : (value : Option Data) (fs : List Field) (i : ℕ) (f : Field) → i < length fs → f ≡ get_or fs i f → is_whole f.kind ≡ true
    → cell (map (read_cell value) (wholes_in fs)) (length (wholes_in (take i fs))) ≡ read_cell value (reader_of f)
slot_there value [] i f lt e is = absurd (omega arith)
slot_there value (x ∷ fs) zero f lt e is =
    let here : is_whole x.kind ≡ true = ap (λ (z : Field). is_whole z.kind) (sym e) ∙ is in
    rw here (ap (λ (z : Field). read_cell value (reader_of z)) (sym e))
slot_there value (x ∷ fs) (suc i) f lt e is = go (is_whole x.kind) (slot_there value fs i f (omega arith) e is)
  where
    go : (b : Bool) → cell (map (read_cell value) (wholes_in fs)) (length (wholes_in (take i fs))) ≡ read_cell value (reader_of f)
        → cell (map (read_cell value) (if b then reader_of x ∷ wholes_in fs else wholes_in fs))
        (length (if b then reader_of x ∷ wholes_in (take i fs) else wholes_in (take i fs))) ≡ read_cell value (reader_of f)
    go true s = s
    go false s = s

read_there : (value : Option Data) (fs : List Field) (i : ℕ) (f : Field) → i < length fs → f ≡ get_or fs i f
    → read_cell value (reader_of f) ≡ cell (map (read_cell value) (map reader_of fs)) i
read_there value [] i f lt e = absurd (omega arith)
read_there value (x ∷ fs) zero f lt e = ap (λ (z : Field). read_cell value (reader_of z)) e
read_there value (x ∷ fs) (suc i) f lt e = read_there value fs i f (omega arith) e

-- the cell of a row in a column is what its field reads in the line
pub cell_there : (t : JsonTable) (at column : ℕ) (span : Span) (f : Field) (v : Datum) → at < length t.lines.items → span ≡ get_or t.lines.items at span
    → column < length t.fields.items → f ≡ get_or t.fields.items column f → v ≡ read_cell (json_of (line_at t.content.items span)) (reader_of f)
    → v ≡ cell (row_cells t at) column
cell_there t at column span f v lt es less ef ev =
    ev ∙ ap (λ (l : List ℕ). read_cell (json_of l) (reader_of f)) (sym (line_there t.content.items t.lines.items at span lt es))
    ∙ read_there (json_of (line_in t at)) t.fields.items column f less ef

lines_count : (content : List ℕ) (spans : List Span) → length (lines_at content spans) ≡ length spans
lines_count content spans = length-map spans (line_at content)

wholes_count : (t : JsonTable) → length t.wholes.items ≡ length t.lines.items * length (whole_readers (readers_in t))
wholes_count t =
    sym (length-map t.wholes.items whole_is) ∙ ap length t.kept ∙ wholes_length (readers_in t) (lines_in t)
    ∙ ap (λ (n : ℕ). n * length (whole_readers (readers_in t))) (lines_count t.content.items t.lines.items)

pub map_take : {X Y : Type 0} (f : X → Y) (n : ℕ) (xs : List X) → map f (take n xs) ≡ take n (map f xs)
map_take f zero xs = refl
map_take f (suc n) [] = refl
map_take f (suc n) (x ∷ xs) = ap (λ (ys : List _). f x ∷ ys) (map_take f n xs)

pub map_drop : {X Y : Type 0} (f : X → Y) (n : ℕ) (xs : List X) → map f (drop n xs) ≡ drop n (map f xs)
map_drop f zero xs = refl
map_drop f (suc n) [] = refl
map_drop f (suc n) (x ∷ xs) = map_drop f n xs

-- the kept cells of one line
line_wholes : (readers : List Reader) (lines : List (List ℕ)) (at : ℕ) → at < length lines
    → take (length (whole_readers readers)) (drop (at * length (whole_readers readers)) (wholes_of readers lines)) ≡ wholes_at readers (line_of lines at)
line_wholes readers [] at lt = absurd (omega arith)
line_wholes readers (l ∷ ls) zero lt =
    let w = length (whole_readers readers) in
    let e : zero * w ≡ 0 = omega arith in
    ap (λ (k : ℕ). take w (drop k (wholes_at readers l ++ wholes_of readers ls))) e
    ∙ take_at (wholes_at readers l) (wholes_of readers ls) w (width_at readers l)
line_wholes readers (l ∷ ls) (suc at) lt =
    let w = length (whole_readers readers) in
    let e : suc at * w ≡ w + at * w = (let m = suc-mul at w in omega arith) in
    ap (λ (k : ℕ). take w (drop k (wholes_at readers l ++ wholes_of readers ls))) e
    ∙ ap (take w) (sym (drop-drop (at * w) w (wholes_at readers l ++ wholes_of readers ls)))
    ∙ ap (λ (vs : Tuple). take w (drop (at * w) vs)) (drop_at (wholes_at readers l) (wholes_of readers ls) w (width_at readers l))
    ∙ line_wholes readers ls at (omega arith)

pub range_within : (t : JsonTable) (at : ℕ) → at < length t.lines.items
    → at * length (whole_readers (readers_in t)) + length (whole_readers (readers_in t)) ≤ length t.wholes.items
range_within t at lt =
    let w = length (whole_readers (readers_in t)) in
    let n = wholes_count t in
    let m : suc at * w ≤ length t.lines.items * w = mul-le-mul_right w (omega arith) in
    let e : suc at * w ≡ at * w + w = suc-mul at w in
    omega arith

pub range_there : (t : JsonTable) (at from to : ℕ) → at < length t.lines.items → from ≡ at * length (whole_readers (readers_in t))
    → to ≡ at * length (whole_readers (readers_in t)) + length (whole_readers (readers_in t))
    → map whole_is (slice_range t.wholes.items from to) ≡ wholes_at (readers_in t) (line_in t at)
range_there t at from to lt ef et =
    let w = length (whole_readers (readers_in t)) in
    let n = lines_count t.content.items t.lines.items in
    let size : to - from ≡ w = omega arith in
    map_take whole_is (to - from) (drop from t.wholes.items) ∙ ap (λ (k : ℕ). take k (map whole_is (drop from t.wholes.items))) size
    ∙ ap (take w) (map_drop whole_is from t.wholes.items)
    ∙ ap (λ (k : ℕ). take w (drop k (map whole_is t.wholes.items))) ef
    ∙ ap (λ (vs : Tuple). take w (drop (at * w) vs)) t.kept
    ∙ line_wholes (readers_in t) (lines_in t) at (omega arith)

-- the cell of an integer column in the kept cells of its row
abbrev pub slot_of : JsonTable → ℕ → ℕ
slot_of t column = length (wholes_in (take column t.fields.items))

pub whole_there : (t : JsonTable) (at column : ℕ) (f : Field) → column < length t.fields.items → f ≡ get_or t.fields.items column f
    → is_whole f.kind ≡ true → cell (wholes_at (readers_in t) (line_in t at)) (slot_of t column) ≡ cell (row_cells t at) column
whole_there t at column f less ef whole =
    let value = json_of (line_in t at) in
    slot_there value t.fields.items column f less ef whole ∙ read_there value t.fields.items column f less ef

-- the cells of some first lines, and of the others
pub wholes_drop : (readers : List Reader) (lines : List (List ℕ)) (n : ℕ)
    → drop (n * length (whole_readers readers)) (wholes_of readers lines) ≡ wholes_of readers (drop n lines)
wholes_drop readers lines zero =
    let w = length (whole_readers readers) in
    let e : zero * w ≡ 0 = omega arith in
    ap (λ (k : ℕ). drop k (wholes_of readers lines)) e
wholes_drop readers [] (suc n) = drop_of_length-le [] (omega arith)
wholes_drop readers (l ∷ ls) (suc n) =
    let w = length (whole_readers readers) in
    let e : suc n * w ≡ length (wholes_at readers l) + n * w = (let m = suc-mul n w in let a = width_at readers l in omega arith) in
    ap (λ (k : ℕ). drop k (wholes_at readers l ++ wholes_of readers ls)) e
    ∙ drop-append-add (wholes_at readers l) (wholes_of readers ls) (n * w) ∙ wholes_drop readers ls n

pub wholes_take : (readers : List Reader) (lines : List (List ℕ)) (n : ℕ)
    → take (n * length (whole_readers readers)) (wholes_of readers lines) ≡ wholes_of readers (take n lines)
wholes_take readers lines zero =
    let w = length (whole_readers readers) in
    let e : zero * w ≡ 0 = omega arith in
    ap (λ (k : ℕ). take k (wholes_of readers lines)) e
wholes_take readers [] (suc n) = take_all (suc n * length (whole_readers readers)) [] (omega arith)
wholes_take readers (l ∷ ls) (suc n) =
    let w = length (whole_readers readers) in
    let e : suc n * w ≡ length (wholes_at readers l) + n * w = (let m = suc-mul n w in let a = width_at readers l in omega arith) in
    ap (λ (k : ℕ). take k (wholes_at readers l ++ wholes_of readers ls)) e
    ∙ take-append-add (wholes_at readers l) (wholes_of readers ls) (n * w)
    ∙ ap (λ (vs : Tuple). wholes_at readers l ++ vs) (wholes_take readers ls n)

pub places_within : (t : JsonTable) (at : ℕ) → at ≤ length t.lines.items → at * length (whole_readers (readers_in t)) ≤ length t.wholes.items
places_within t at le =
    let w = length (whole_readers (readers_in t)) in
    let n = wholes_count t in
    let m : at * w ≤ length t.lines.items * w = mul-le-mul_right w le in
    omega arith

pub places_rise : (t : JsonTable) (from to : ℕ) → from ≤ to → from * length (whole_readers (readers_in t)) ≤ to * length (whole_readers (readers_in t))
places_rise t from to le = mul-le-mul_right (length (whole_readers (readers_in t))) le

-- the kept cells of some lines
pub between_there : (t : JsonTable) (from to first end : ℕ) → from ≤ to → first ≡ from * length (whole_readers (readers_in t))
    → end ≡ to * length (whole_readers (readers_in t))
    → map whole_is (slice_range t.wholes.items first end) ≡ wholes_of (readers_in t) (slice_range (lines_in t) from to)
between_there t from to first end le ef ee =
    let readers = readers_in t in
    let w = length (whole_readers readers) in
    let apart : (to - from) * w + from * w ≡ to * w = sym (add-mul (to - from) from w) ∙ ap (λ (n : ℕ). n * w) (omega arith) in
    let size : end - first ≡ (to - from) * w = omega arith in
    map_take whole_is (end - first) (drop first t.wholes.items) ∙ ap (λ (k : ℕ). take k (map whole_is (drop first t.wholes.items))) size
    ∙ ap (take ((to - from) * w)) (map_drop whole_is first t.wholes.items ∙ ap (λ (k : ℕ). drop k (map whole_is t.wholes.items)) ef
    ∙ ap (drop (from * w)) t.kept ∙ wholes_drop readers (lines_in t) from)
    ∙ wholes_take readers (drop from (lines_in t)) (to - from)
