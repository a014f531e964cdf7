-- How a scan goes from place to place, and that what it then has to give it may give.
use Rattle.std.proofs.Common.{◌≡◌, ℕ, ◌+◌, ◌<◌, ◌≤◌, IsPermutation, IsSorted, Some, None, rules, Bool, true, false, not, List, [], ◌∷◌, ◌++◌, Option, map, filter, length, drop, take, get_or, zero, suc, refl, ap, sym, ◌∙◌, subst, arith, is_some, replicate}
use Rattle.std.proofs.lemmas.List.{drop_all, drop_more}
use Rattle.std.proofs.lemmas.List.Sorted.{IsPermutation-filter_both, IsPermutation-trans, IsPermutation-append_left, All-permutation}
use Rattle.std.proofs.lemmas.List.Elements.{filter_passes, All-weaker}
use Rattle.med_value.specs.Datum.{Tuple, tuple}
use Rattle.med_value.specs.declared.value.Row.{Row}
use Rattle.fdw_api.specs.Prelude.{Spec, KeyForm, TableRow, row_cmp, IsComing, GivenRow, given_row, first_of, shown_cells, meets_exact, WishForm, all_exact, is_fair}
use Rattle.wrapper_parts.specs.Scans.{is_taken, rows_taken, rows_at_places as rows_of_places}
use Rattle.wrapper_parts.proofs.Taking.{takes_sound, takes_exact}
use Rattle.list_wrapper.specs.declared.spans.Span.{Span}
use Rattle.list_wrapper.specs.declared.scans.Walk.{Walk}
use Rattle.list_wrapper.specs.declared.scans.Walk.TheVariants.{InTurn, Within, ByIndex, ByKeys}
use Rattle.list_wrapper.specs.Scans.{numbered, left_by_keys, rows_ahead, rows_to_come, Turns, Spans, Arranges, NextIs, index_of}
use Rattle.list_wrapper.proofs.Numbered.{next_numbered, length_numbered}
use Rattle.list_wrapper.proofs.Calls.{first_map}
use Rattle.fdw_api.specs.declared.scan.Agree.{Agree}
use Rattle.fdw_api.specs.declared.scan.Agree.TheVariants.{Exact}

-- a place within is the same whatever stands for one that is not there
pub same_place : (places : List ℕ) (at : ℕ) → at < length places → get_or places at 0 ≡ get_or places at (get_or places at 0)
same_place [] at lt = absurd (omega arith)
same_place (p ∷ places) zero lt = refl
same_place (p ∷ places) (suc at) lt = same_place places at (omega arith)

-- the row at a place that is there is given, and past a place that is not there nothing is
pub place_here : (spec : Spec) (places : List ℕ) (rows : List Row) (from at place : ℕ) (row : Row) (cells : Tuple) → at < length places → place ≡ get_or places at place
    → place < length rows → row ≡ get_or rows place row
    → left_by_keys places (numbered 0 rows) from ≡ left_by_keys places (numbered 0 rows) at → cells ≡ shown_cells spec (tuple row)
    → map (given_row spec) (left_by_keys places (numbered 0 rows) from) ≡ record { id = place; cells = cells } ∷ map (given_row spec) (left_by_keys places (numbered 0 rows) (at + 1))
place_here spec places rows from at place row cells lt e within er same shown =
    ap (map (given_row spec)) (same ∙ ap (λ (l : List ℕ). rows_of_places l (numbered 0 rows)) (drop_more places at place lt ∙ ap (λ (p : ℕ). p ∷ drop (at + 1) places) (sym e))
    ∙ ap (λ (l : List TableRow). take 1 l ++ left_by_keys places (numbered 0 rows) (at + 1)) (next_numbered rows place row within er))
    ∙ ap (λ (c : Tuple). record { id = place; cells = c } ∷ map (given_row spec) (left_by_keys places (numbered 0 rows) (at + 1))) (sym shown)

pub place_past : (places : List ℕ) (rows : List Row) (at place : ℕ) → at < length places → place ≡ get_or places at place → length rows ≤ place
    → left_by_keys places (numbered 0 rows) at ≡ left_by_keys places (numbered 0 rows) (at + 1)
place_past places rows at place lt e beyond =
    ap (λ (l : List ℕ). rows_of_places l (numbered 0 rows)) (drop_more places at place lt ∙ ap (λ (p : ℕ). p ∷ drop (at + 1) places) (sym e))
    ∙ ap (λ (l : List TableRow). take 1 l ++ left_by_keys places (numbered 0 rows) (at + 1)) (drop_all place (numbered 0 rows) (let n = length_numbered 0 rows in omega arith))

pub no_place : (spec : Spec) (places : List ℕ) (rows : List Row) (from at : ℕ) → length places ≤ at
    → left_by_keys places (numbered 0 rows) from ≡ left_by_keys places (numbered 0 rows) at → map (given_row spec) (left_by_keys places (numbered 0 rows) from) ≡ []
no_place spec places rows from at le same = ap (map (given_row spec)) (same ∙ ap (λ (l : List ℕ). rows_of_places l (numbered 0 rows)) (drop_all at places le))

unless_true : (b : Bool) → not b ≡ true → b ≡ false
unless_true true e = absurd cc
unless_true false e = refl

-- a scan that begins by a walk has what it may give
pub arranged_comes : (spec : Spec) (params : Tuple) (rows : List TableRow) (walk : Walk) → Arranges spec params rows walk → IsComing rows spec params (rows_to_come spec params rows walk 0 spec.limit)
arranged_comes spec params rows walk h = record {
  taken = rows_ahead spec params rows walk 0;
  left_out = filter (λ r. not (is_taken spec params r)) rows;
  parts = IsPermutation-trans rows (rows_taken spec params rows ++ filter (λ r. not (is_taken spec params r)) rows) _
      (IsPermutation-filter_both (is_taken spec params) (λ r. not (is_taken spec params r)) (λ r. refl) rows)
      (IsPermutation-append_left (filter (λ r. not (is_taken spec params r)) rows) (rows_taken spec params rows) (rows_ahead spec params rows walk 0) h.same);
  failing = All-weaker _ _ (λ r e. takes_sound spec params r.cells (unless_true _ e)) _ (filter_passes (λ r. not (is_taken spec params r)) rows);
  exact = All-permutation (λ r. meets_exact spec.offered spec.answers params r.cells ≡ true) (rows_taken spec params rows) (rows_ahead spec params rows walk 0) h.same (All-weaker _ _ (λ r e. takes_exact spec params r.cells e) _ (filter_passes (is_taken spec params) rows));
  sorted = h.sorted;
  is = first_map (given_row spec) spec.limit (rows_ahead spec params rows walk 0);
}

-- whatever the limit
pub other_limit : (spec : Spec) (params : Tuple) (rows : List TableRow) (walk : Walk) (limit : Option ℕ) → Arranges spec params rows walk → Arranges (record spec { limit = limit }) params rows walk
other_limit spec params rows InTurn limit h = record { same = h.same; sorted = h.sorted; bounds = h.bounds }
other_limit spec params rows (Within span) limit h = record { same = h.same; sorted = h.sorted; bounds = h.bounds }
other_limit spec params rows (ByIndex x) limit h = record { same = h.same; sorted = h.sorted; bounds = h.bounds }
other_limit spec params rows (ByKeys places) limit h = record { same = h.same; sorted = h.sorted; bounds = h.bounds }

-- what a wish and the answers to it promise is fair where every answer is Exact and the order is promised
pub all_taken : (n : ℕ) → all_exact (replicate n Exact) ≡ true
all_taken zero = refl
all_taken (suc n) = all_taken n

pub fair : (w : WishForm) (answers : List Agree) (limited : Bool) → all_exact answers ≡ true → limited ≡ is_some w.limit → is_fair w answers true limited ≡ true
fair w answers false e l = refl
fair w answers true e l = rw (← l, e) refl

-- a walk in list order is one for a scan without an order
in_order : (keys : List KeyForm) (rows : List TableRow) → keys ≡ [] → IsSorted (row_cmp keys) rows
in_order keys rows e = rw e (λ k d low lt. refl)

same_all : (rows : List TableRow) → IsPermutation rows rows
same_all rows = search rules

pub turns_arrange : (spec : Spec) (keys : List KeyForm) (limit : Option ℕ) (params : Tuple) (rows : List TableRow) (walk : Walk) → keys ≡ []
    → Turns spec params rows walk → Arranges (record spec { order = keys; limit = limit }) params rows walk
turns_arrange spec keys limit params rows InTurn e h = record { same = same_all (rows_taken spec params rows); sorted = in_order keys (rows_taken spec params rows) e; bounds = λ span is. absurd cc }
turns_arrange spec keys limit params rows (Within span) e h = record {
  same = same_all (rows_taken spec params rows);
  sorted = in_order keys (rows_taken spec params rows) e;
  bounds = λ other is. let same : span ≡ other = cc in subst (λ (z : Span). Spans spec params rows z.first z.end) same h;
}
turns_arrange spec keys limit params rows (ByIndex x) e h = absurd h
turns_arrange spec keys limit params rows (ByKeys places) e h = absurd h

pub turns_plainly : (spec : Spec) (params : Tuple) (rows : List TableRow) (walk : Walk) → Turns spec params rows walk → index_of walk ≡ None
turns_plainly spec params rows InTurn h = refl
turns_plainly spec params rows (Within span) h = refl
turns_plainly spec params rows (ByIndex x) h = absurd h
turns_plainly spec params rows (ByKeys places) h = absurd h

-- of no rows none comes
none_taken : (n : ℕ) (X : Type 0) → take {A = X} n [] ≡ []
none_taken zero X = refl
none_taken (suc n) X = refl

none_placed : (places : List ℕ) → rows_of_places places [] ≡ []
none_placed [] = refl
none_placed (p ∷ ps) = ap (λ (l : List TableRow). take 1 l ++ rows_of_places ps []) (drop_all p [] (omega arith)) ∙ none_placed ps

none_ahead : (spec : Spec) (params : Tuple) (walk : Walk) (at : ℕ) → rows_ahead spec params [] walk at ≡ []
none_ahead spec params InTurn at = ap (filter (is_taken spec params)) (drop_all at [] (omega arith))
none_ahead spec params (Within span) at = ap (filter (is_taken spec params)) (drop_all at [] (omega arith))
none_ahead spec params (ByIndex x) at = ap (filter (is_taken spec params)) (drop_all at [] (omega arith))
none_ahead spec params (ByKeys places) at = none_placed (drop at places.items)

pub none_next : (spec : Spec) (params : Tuple) (rows : List Row) (walk : Walk) (at : ℕ) (more : Option ℕ) → rows ≡ [] → NextIs spec params (numbered 0 rows) walk at more None
none_next spec params rows walk at more none =
    ap (λ (l : List Row). first_of more (map (given_row spec) (rows_ahead spec params (numbered 0 l) walk at))) none
    ∙ ap (λ (l : List TableRow). first_of more (map (given_row spec) l)) (none_ahead spec params walk at) ∙ none_first more
  where
    none_first : (more : Option ℕ) → first_of {X = GivenRow} more [] ≡ []
    none_first None = refl
    none_first (Some n) = none_taken n GivenRow
