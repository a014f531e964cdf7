-- First columns that rise, line by line and change by change.
use Rattle.std.proofs.Common.{◌≡◌, ◌<◌, ◌+◌, ℕ, ℤ, zero, suc, Bool, true, false, nat_eq, if◌then◌else◌, List, [], ◌∷◌, ◌++◌, length, flat_map, slice_get, unwrap_or, refl, ap, sym, ◌∙◌, subst, arith}
use Rattle.std.proofs.lemmas.Bool.Decides.{nat_tests}
use Rattle.std.proofs.lemmas.List.{map-append, length-map}
use Rattle.med_value.specs.Datum.{Datum, Whole, Tuple, cell}
use Rattle.fdw_api.specs.Prelude.{Held, held, Change, Inserts, Updates, Deletes, row_after, inserted, rows_after}
use Rattle.wrapper_parts.specs.Rising.{AreInOrder, AreRising}
use Rattle.wrapper_parts.specs.KeepingRise.{RiseUpTo, KeepRising}
use Rattle.wrapper_parts.specs.Scans.{column_cells}
use Rattle.wrapper_parts.proofs.KeptRise.{Each, Chain, order_on, each_of, each_as, each_both, chain_of, chain_at, chain_both}
use Rattle.jsonl_wrapper.specs.Fields.{Reader}
use Rattle.jsonl_wrapper.specs.Objects.{cells_at}
use Rattle.jsonl_wrapper.specs.Contents.{row_at, rows_of_lines}
use Rattle.jsonl_wrapper.specs.Lines.{line_at}
use Rattle.jsonl_wrapper.specs.Tables.{numbered, readers_in, lines_in}
use Rattle.jsonl_wrapper.specs.declared.table.JsonTable.{JsonTable}
use Rattle.jsonl_wrapper.specs.Rises.{first_column, first_cells}

abbrev Line : Type 0
Line = Tuple → List (List ℕ)

-- the cell of the line at a place
pub key_there : (readers : List Reader) (lines : List (List ℕ)) (at : ℕ) → at < length lines
    → cell (first_column readers lines) at ≡ cell (cells_at readers (unwrap_or (slice_get lines at) [])) 0
key_there readers [] at lt = absurd (omega arith)
key_there readers (l ∷ ls) zero lt = refl
key_there readers (l ∷ ls) (suc at) lt = key_there readers ls at (omega arith)

pub lines_count : (t : JsonTable) → length (lines_in t) ≡ length t.lines.items
lines_count t = length-map t.lines.items (line_at t.content.items)

-- there are as many cells as lines
pub keys_count : (t : JsonTable) → length (first_column (readers_in t) (lines_in t)) ≡ length t.lines.items
keys_count t = length-map (lines_in t) (λ (l : List ℕ). cell (cells_at (readers_in t) l) 0) ∙ lines_count t

-- the first cells of rows are what the first column reads in their lines
pub column_there : (readers : List Reader) (n : ℕ) (lines : List (List ℕ)) → first_column readers lines ≡ column_cells 0 (numbered readers n lines)
column_there readers n [] = refl
column_there readers n (l ∷ ls) = ap (λ (ds : List Datum). cell (cells_at readers l) 0 ∷ ds) (column_there readers (n + 1) ls)

pub cells_there : (readers : List Reader) (lines : List (List ℕ)) → first_column readers lines ≡ first_cells (rows_of_lines readers lines)
cells_there readers [] = refl
cells_there readers (l ∷ ls) = ap (λ (ds : List Datum). cell (cells_at readers l) 0 ∷ ds) (cells_there readers ls)

-- all of a list are one and the same
abbrev Are : Datum → List Datum → Type 0
Are d = Each (λ e. e ≡ d)

each_same : (P : Datum → Type 0) (d : Datum) (ds : List Datum) → Are d ds → P d → Each P ds
each_same P d ds same p = each_as (λ e. e ≡ d) P ds (λ e is. subst P (sym is) p) same

-- the same cell, before those behind it
chain_same : (d : Datum) (xs ys : List Datum) → Are d xs → AreInOrder d d → Each (AreInOrder d) ys → Chain ys → Chain (xs ++ ys)
chain_same d [] ys same self below cy = cy
chain_same d (x ∷ xs) ys same self below cy =
    let all = each_both (AreInOrder d) (x ∷ xs) ys (each_same (AreInOrder d) d (x ∷ xs) same self) below in
    (subst (λ (e : Datum). Each (AreInOrder e) (x ∷ (xs ++ ys))) (sym same.0) all, chain_same d xs ys same.1 self below cy)

same_place : (j id : ℕ) → nat_eq j id ≡ true → j ≡ id
same_place j id e = grind (arith, nat_tests)

-- an update of a row that leaves its first cell, and a deletion
updated : (cells : List Datum) (id j : ℕ) (h : Held) (now : List Held) (b : Bool) → (b ≡ true → j ≡ id) → cell h.cells 0 ≡ cell cells j
    → Are (cell cells id) (first_cells now) → Are (cell cells id) (first_cells (if b then h ∷ [] else now))
updated cells id j h now true place is e = (is ∙ ap (cell cells) (place refl), tt)
updated cells id j h now false place is e = e

deleted : (d : Datum) (now : List Held) (b : Bool) → Are d (first_cells now) → Are d (first_cells (if b then [] else now))
deleted d now true e = tt
deleted d now false e = e

-- what such changes leave of a row has its first cell
row_keeps : (line : Line) (cells : List Datum) (low : Datum) (id : ℕ) (cs : List Change) (now : List Held) → KeepRising cells low cs
    → Are (cell cells id) (first_cells now) → Are (cell cells id) (first_cells (row_after line id cs now))
row_keeps line cells low id [] now keep e = e
row_keeps line cells low id (Inserts x ∷ cs) now keep e = row_keeps line cells (cell x 0) id cs now keep.1.1 e
row_keeps line cells low id (Updates j x ∷ cs) now keep e =
    let new : Held = record { cells = x; origin = line x } in
    row_keeps line cells low id cs (if nat_eq j id then new ∷ [] else now) keep.1 (updated cells id j new now (nat_eq j id) (same_place j id) keep.0 e)
row_keeps line cells low id (Deletes j ∷ cs) now keep e =
    row_keeps line cells low id cs (if nat_eq j id then [] else now) keep (deleted (cell cells id) now (nat_eq j id) e)

-- what changes leave of old rows
abbrev kept : Line → List Reader → ℕ → List (List ℕ) → List Change → List Held
kept line readers n ls cs = flat_map (λ r. row_after line r.id cs (held r ∷ [])) (numbered readers n ls)

-- the cells of lines that begin at a place of a column
abbrev Stand : List Datum → List Reader → ℕ → List (List ℕ) → Type 0
Stand cells readers n ls = (k m : ℕ) → m ≡ n + k → cell cells m ≡ cell (first_column readers ls) k

stand_on : (cells : List Datum) (readers : List Reader) (n : ℕ) (l : List ℕ) (ls : List (List ℕ)) → Stand cells readers n (l ∷ ls)
    → Stand cells readers (n + 1) ls
stand_on cells readers n l ls stand = λ k m is. stand (suc k) m (omega arith)

-- the rows that are left of one line, and their first cells
abbrev left_of : Line → List Reader → ℕ → List ℕ → List Change → List Held
left_of line readers n l cs = row_after line n cs (row_at readers l ∷ [])

one_keeps : (line : Line) (cells : List Datum) (low : Datum) (cs : List Change) (readers : List Reader) (n : ℕ) (l : List ℕ) (ls : List (List ℕ))
    → KeepRising cells low cs → Stand cells readers n (l ∷ ls) → Are (cell (cells_at readers l) 0) (first_cells (left_of line readers n l cs))
one_keeps line cells low cs readers n l ls keep stand =
    let is : cell cells n ≡ cell (cells_at readers l) 0 = stand 0 n (omega arith) in
    subst (λ (d : Datum). Are d (first_cells (left_of line readers n l cs))) is (row_keeps line cells low n cs (row_at readers l ∷ []) keep (sym is, tt))

-- what holds of each old cell holds of each that is left
kept_each : (P : Datum → Type 0) (line : Line) (cells : List Datum) (low : Datum) (cs : List Change) (readers : List Reader) (n : ℕ)
    (ls : List (List ℕ)) → KeepRising cells low cs → Stand cells readers n ls → Each P (first_column readers ls)
    → Each P (first_cells (kept line readers n ls cs))
kept_each P line cells low cs readers n [] keep stand e = tt
kept_each P line cells low cs readers n (l ∷ ls) keep stand e =
    let one = left_of line readers n l cs in
    let more = kept line readers (n + 1) ls cs in
    let first = each_same P (cell (cells_at readers l) 0) (first_cells one) (one_keeps line cells low cs readers n l ls keep stand) e.0 in
    subst (Each P) (sym (map-append (λ (h : Held). cell h.cells 0) one more))
    (each_both P (first_cells one) (first_cells more) first (kept_each P line cells low cs readers (n + 1) ls keep (stand_on cells readers n l ls stand) e.1))

-- the cells that are left are a chain
kept_chain : (line : Line) (cells : List Datum) (low : Datum) (cs : List Change) (readers : List Reader) (n : ℕ) (ls : List (List ℕ))
    → KeepRising cells low cs → Stand cells readers n ls → Chain (first_column readers ls) → Chain (first_cells (kept line readers n ls cs))
kept_chain line cells low cs readers n [] keep stand c = tt
kept_chain line cells low cs readers n (l ∷ ls) keep stand c =
    let d = cell (cells_at readers l) 0 in
    let one = left_of line readers n l cs in
    let more = kept line readers (n + 1) ls cs in
    let on = stand_on cells readers n l ls stand in
    subst Chain (sym (map-append (λ (h : Held). cell h.cells 0) one more))
    (chain_same d (first_cells one) (first_cells more) (one_keeps line cells low cs readers n l ls keep stand) c.0.0
    (kept_each (AreInOrder d) line cells low cs readers (n + 1) ls keep on c.0.1) (kept_chain line cells low cs readers (n + 1) ls keep on c.1))

-- the first cells of inserted rows are a chain, none of them below the one from which they rise
fresh_chain : (line : Line) (cells : List Datum) (low : Datum) (cs : List Change) → KeepRising cells low cs
    → Chain (first_cells (flat_map (inserted line) cs)) × Each (AreInOrder low) (first_cells (flat_map (inserted line) cs))
fresh_chain line cells low [] keep = (tt, tt)
fresh_chain line cells low (Inserts x ∷ cs) keep =
    let more = fresh_chain line cells (cell x 0) cs keep.1.1 in
    let above = each_as (AreInOrder (cell x 0)) (AreInOrder low) (first_cells (flat_map (inserted line) cs)) (λ d p. order_on low (cell x 0) d keep.0 p) more.1 in
    (((keep.1.0, more.1), more.0), (keep.0, above))
fresh_chain line cells low (Updates j x ∷ cs) keep = fresh_chain line cells low cs keep.1
fresh_chain line cells low (Deletes j ∷ cs) keep = fresh_chain line cells low cs keep

-- after such changes the first column rises
pub stays : (readers : List Reader) (lines : List (List ℕ)) (line : Line) (key : ℤ) (cs : List Change) → AreRising (first_column readers lines)
    → RiseUpTo (first_column readers lines) key (length lines) → KeepRising (first_column readers lines) (Whole key) cs
    → AreRising (first_cells (rows_after line (numbered readers 0 lines) cs))
stays readers lines line key cs rising up keep =
    let cells = first_column readers lines in
    let many = length-map lines (λ (l : List ℕ). cell (cells_at readers l) 0) in
    let stand : Stand cells readers 0 lines = λ k m is. (let same : m ≡ k = omega arith in ap (cell cells) same) in
    let fresh = fresh_chain line cells (Whole key) cs keep in
    let below = each_of (λ d. AreInOrder d (Whole key)) cells (λ k lt. up.below k (omega arith)) in
    let left = kept line readers 0 lines cs in
    let new = flat_map (inserted line) cs in
    let both = chain_both (first_cells left) (first_cells new) (Whole key)
    (kept_chain line cells (Whole key) cs readers 0 lines keep stand (chain_of cells rising)) fresh.0
    (kept_each (λ d. AreInOrder d (Whole key)) line cells (Whole key) cs readers 0 lines keep stand below) fresh.1 in
    chain_at (first_cells (left ++ new)) (subst Chain (sym (map-append (λ (h : Held). cell h.cells 0) left new)) both)

-- lines whose rows are those after changes rise, where those rows do
pub after_rises : (readers : List Reader) (lines : List (List ℕ)) (rows : List Held) → rows_of_lines readers lines ≡ rows
    → AreRising (first_cells rows) → AreRising (first_column readers lines)
after_rises readers lines rows is rising =
    subst (λ (ds : List Datum). AreRising ds) (sym (cells_there readers lines ∙ ap first_cells is)) rising
