-- How a scan goes over the rows of a list.
use Rattle.std.proofs.Common.{◌≡◌, ℕ, ◌+◌, ◌-◌, ◌<◌, ◌≤◌, true, false, cond, List, [], ◌∷◌, Option, Some, None, map, filter, length, drop, take, get_or, zero, suc, refl, ap, sym, ◌∙◌, subst, arith}
use Rattle.std.proofs.lemmas.List.{drop_all}
use Rattle.med_value.specs.Datum.{Datum, Tuple, cell, tuple}
use Rattle.med_value.specs.declared.value.Row.{Row}
use Rattle.fdw_api.specs.Scan.{Spec, TableRow, given_row, shown_cells}
use Rattle.wrapper_parts.specs.declared.index.PlaceIndex.{PlaceIndex}
use Rattle.wrapper_parts.specs.declared.sought.SoughtIndex.{SoughtIndex}
use Rattle.wrapper_parts.specs.Places.{equals, first_place, Follows}
use Rattle.wrapper_parts.specs.Indexes.{IsIndexFrom}
use Rattle.wrapper_parts.specs.Scans.{SoughtForm, form_of, column_cells, takes, is_taken, Leads, Serves}
use Rattle.wrapper_parts.proofs.Skipping.{skips}
use Rattle.wrapper_parts.proofs.Leading.{leads_needs}
use Rattle.list_wrapper.specs.declared.scans.Step.{Step}
use Rattle.list_wrapper.specs.Scans.{numbered, left_in_turn, is_spent, NextOf, Moves}
use Rattle.list_wrapper.proofs.Numbered.{row_at, next_numbered, length_numbered}

cells_length : (column : ℕ) (rows : List TableRow) → length (column_cells column rows) ≡ length rows
cells_length column [] = refl
cells_length column (r ∷ rows) = ap (λ (n : ℕ). suc n) (cells_length column rows)

-- an index of no cells, and of one cell more
pub no_cells : (column : ℕ) (rows : List Row) (x : PlaceIndex) → IsIndexFrom (length rows) [] x
    → IsIndexFrom (length rows) (column_cells column (drop (length rows) (numbered 0 rows))) x
no_cells column rows x h =
    subst (λ (l : List TableRow). IsIndexFrom (length rows) (column_cells column l) x)
    (sym (drop_all (length rows) (numbered 0 rows) (let n = length_numbered 0 rows in omega arith))) h

pub one_more : (rows : List Row) (column at : ℕ) (row : Row) (d : Datum) (old new : PlaceIndex) → 0 < at → at ≤ length rows
    → row ≡ get_or rows (at - 1) row → d ≡ cell (tuple row) column
    → ((ds : List Datum) → IsIndexFrom (at - 1 + 1) ds old → IsIndexFrom (at - 1) (d ∷ ds) new)
    → IsIndexFrom at (column_cells column (drop at (numbered 0 rows))) old
    → IsIndexFrom (at - 1) (column_cells column (drop (at - 1) (numbered 0 rows))) new
one_more rows column at row d old new pos le e is add h =
    let up : at ≡ at - 1 + 1 = omega arith in
    subst (λ (l : List Datum). IsIndexFrom (at - 1) l new)
    (ap (λ (c : Datum). c ∷ column_cells column (drop at (numbered 0 rows))) is
    ∙ ap (λ (n : ℕ). cell (tuple row) column ∷ column_cells column (drop n (numbered 0 rows))) up
    ∙ sym (ap (column_cells column) (next_numbered rows (at - 1) row (omega arith) e)))
    (add (column_cells column (drop at (numbered 0 rows))) (subst (λ (i : ℕ). IsIndexFrom i (column_cells column (drop at (numbered 0 rows))) old) up h))

same_index : (x y : SoughtIndex) → Some x ≡ Some y → x ≡ y
same_index x y e = cc

-- an index of a column that leads a scan serves it
pub serves_found : (spec : Spec) (rows : List TableRow) (x : SoughtIndex) → Leads spec (form_of x.found)
    → IsIndexFrom 0 (column_cells x.found.column rows) x.places → Serves spec rows (Some x)
serves_found spec rows x leads is y e =
    subst (λ (z : SoughtIndex). Leads spec (form_of z.found) × IsIndexFrom 0 (column_cells z.found.column rows) z.places) (same_index x y e) (leads, is)

-- an index leads to the next place
pub moved : (spec : Spec) (params : Tuple) (rows : List TableRow) (index : Option SoughtIndex) (x : SoughtIndex) (at to : ℕ)
    → index ≡ Some x → Leads spec (form_of x.found) → to ≡ first_place at (cell params x.found.parameter) (drop at (column_cells x.found.column rows))
    → Moves spec params rows index at to
moved spec params rows index x at to i leads is =
    let s : SoughtForm = form_of x.found in
    let w = skips (is_taken spec params) params rows s at to (λ r h. leads_needs spec params r.cells s leads h) is in
    record {
      past = w.past;
      same = w.same;
      on = λ lt y j. let same : x ≡ y = same_index x y (sym i ∙ j) in
          subst (λ (z : SoughtIndex). Follows (cell params z.found.parameter) (column_cells z.found.column rows) (to + 1)) same
          (λ k up. let back : k ≡ to = omega arith in
          subst (λ (j : ℕ). (j < length (column_cells s.column rows)) × (equals (cell params s.parameter) (cell (column_cells s.column rows) j) ≡ true)) (sym back)
          ((let l = cells_length s.column rows in omega arith), w.has lt));
    }

-- the row at a place is given, or it is not, or no row is left
pub given_here : (spec : Spec) (params : Tuple) (rows : List Row) (from at : ℕ) (row : Row) (cells : Tuple) → at < length rows → row ≡ get_or rows at row
    → left_in_turn spec params (numbered 0 rows) from ≡ left_in_turn spec params (numbered 0 rows) at
    → takes spec params (tuple row) ≡ true → cells ≡ shown_cells spec (tuple row)
    → map (given_row spec) (left_in_turn spec params (numbered 0 rows) from)
    ≡ record { id = at; cells = cells } ∷ map (given_row spec) (left_in_turn spec params (numbered 0 rows) (at + 1))
given_here spec params rows from at row cells lt e same is shown =
    ap (map (given_row spec)) (same ∙ ap (filter (is_taken spec params)) (next_numbered rows at row lt e)
    ∙ ap (λ b. cond b (row_at at row ∷ left_in_turn spec params (numbered 0 rows) (at + 1)) (left_in_turn spec params (numbered 0 rows) (at + 1))) is)
    ∙ ap (λ (c : Tuple). record { id = at; cells = c } ∷ map (given_row spec) (left_in_turn spec params (numbered 0 rows) (at + 1))) (sym shown)

pub skipped_here : (spec : Spec) (params : Tuple) (rows : List Row) (at : ℕ) (row : Row) → at < length rows → row ≡ get_or rows at row
    → takes spec params (tuple row) ≡ false
    → left_in_turn spec params (numbered 0 rows) at ≡ left_in_turn spec params (numbered 0 rows) (at + 1)
skipped_here spec params rows at row lt e is =
    ap (filter (is_taken spec params)) (next_numbered rows at row lt e)
    ∙ ap (λ b. cond b (row_at at row ∷ left_in_turn spec params (numbered 0 rows) (at + 1)) (left_in_turn spec params (numbered 0 rows) (at + 1))) is

pub none_left : (spec : Spec) (params : Tuple) (rows : List Row) (from at : ℕ) → length rows ≤ at
    → left_in_turn spec params (numbered 0 rows) from ≡ left_in_turn spec params (numbered 0 rows) at
    → map (given_row spec) (left_in_turn spec params (numbered 0 rows) from) ≡ []
none_left spec params rows from at le same =
    ap (map (given_row spec)) (same ∙ ap (filter (is_taken spec params)) (drop_all at (numbered 0 rows) (let n = length_numbered 0 rows in omega arith)))

-- the next row is the same under a limit that leaves room
pub enough : (spec : Spec) (left : ℕ → List TableRow) (at : ℕ) (more : Option ℕ) (next : Option Step) → is_spent more ≡ false
    → NextOf spec left at None next → NextOf spec left at more next
enough spec left at None next e h = h
enough spec left at (Some zero) next e h = absurd cc
enough spec left at (Some (suc n)) None e h = ap (take (suc n)) h
enough spec left at (Some (suc n)) (Some step) e h =
    let less : suc n - 1 ≡ n = omega arith in
    (h.0, h.1, rw less (ap (take (suc n)) h.2))
