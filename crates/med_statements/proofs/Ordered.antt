-- A bound query in the order in which its entries are joined.
use Rattle.std.proofs.Common.{◌≡◌, ℕ, zero, suc, ◌+◌, ◌<◌, ◌≤◌, Bool, true, false, ◌&&◌, cond, nat_lt, nat_eq, List, [], ◌∷◌, ◌++◌, map}
use Rattle.std.proofs.Common.{flat_map, length}
use Rattle.std.proofs.Common.{get_or, refl, sym, ap, ◌∙◌, subst, arith, append_assoc, length-append, Option, Some, None, Contains}
use Rattle.std.proofs.Common.{IsPermutation}
use Rattle.std.specs.Prelude.{slice_get, slice_index_or}
use Rattle.std.specs.List.{range_with_len, list_all}
use Rattle.std.proofs.lemmas.List.{length-map, get_or-map}
use Rattle.std.proofs.lemmas.List.Folds.{list_all-map}
use Rattle.std.proofs.lemmas.List.Sorted.{Contains-permutation}
use Rattle.std.proofs.lemmas.Simd.{map-map}
use Rattle.std.proofs.lemmas.Bool.{ltb-true, ltb-false, eq-eqb}
use Rattle.std.proofs.lemmas.Option.{slice_get-get_or, get_or_from_slice_get}
use Rattle.tri_expr.proofs.Forms.{two}
use Rattle.tri_expr.proofs.Shuffled.{Shuffled, none, skip, turn, both, same, back, mapped, joined_to, to_swaps}
use Rattle.med_value.specs.Datum.{Tuple}
use Rattle.med_value.specs.declared.value.ColType.{ColType}
use Rattle.med_value.specs.declared.cause.Cause.{Cause}
use Rattle.med_query.specs.Prelude.{Query, Tables, IsAnswer, IsShownCause, CoreForm, Form, core_form, form_of, query_by, are_safe_cores}
use Rattle.med_query.specs.Prelude.{are_safe_chains, is_safe_from}
use Rattle.med_query.specs.Select.{query_of}
use Rattle.med_query.specs.declared.select.SelectCore.{SelectCore}
use Rattle.fdw_api.specs.State.{BoxState}
use Rattle.fdw_api.specs.declared.interface.Fault.{Fault}
use Rattle.med_binder.specs.Prelude.{Place, entry_place, bound_widths, FormCounts, FormWithin, FormAlike, core_numbers}
use Rattle.med_binder.specs.declared.bound.BoundEntry.{BoundEntry}
use Rattle.med_binder.specs.declared.bound.BoundQuery.{BoundQuery}
use Rattle.join_order.specs.Entries.{width_at, tables_in}
use Rattle.join_order.specs.Reordering.{is_inner, tables_of, core_order, core_tables, order_of, form_tables, reordered}
use Rattle.join_order.specs.Laws.{AreWide, IsSameQuery, are_safe_forms}
use Rattle.join_order.proofs.SameQueries.{order_keeps}
use Rattle.join_order.proofs.SameRisk.{order_risk}
use Rattle.bound_order.specs.Ordered.{AreAt, IsOrdered, new_widths, new_kinds, kinds_at, IsStillBound}
use Rattle.bound_order.proofs.Blocks.{all_numbers, order_tables, order_length}
use Rattle.bound_order.proofs.Stays.{stays_bound, widths_of_kinds}
use Rattle.pushdown.specs.Joins.{Each}
use Rattle.scan_loops.specs.Prelude.{bound_at, rows_at}
use Rattle.med_planner.specs.Flat.{width_of}
use Rattle.med_planner.specs.Offered.{source_of, number_of}
use Rattle.med_planner.specs.Plans.{tables_by}
use Rattle.med_planner.specs.Premises.{AreOfKinds, IsOfKinds, RowsAreWide}
use Rattle.med_planner.specs.Planned.{rows_shown, entry_rows}
use Rattle.med_exec.specs.Prelude.{IsReady, RunAnswers, BeginsScans, HonestOver, tables_in as tables_at}
use Rattle.med_exec.specs.BoundCounting.{scans_of}
use Rattle.med_exec.specs.Running.{Stops, lacks_memory, source_fails, numbers_end, query_shows}
use Rattle.scan_loops.specs.Scans.{or_none}
use Rattle.scan_loops.specs.Scans.{rows_in}

-- ---- entries by their numbers

-- the place of the entry of a number
place_of : List BoundEntry → ℕ → Place
place_of es k = record { source = source_of es k; table = number_of es k }

got_source : (es : List BoundEntry) (k : ℕ) (e : BoundEntry) → slice_get es k ≡ Some e → source_of es k ≡ e.source
got_source [] k e h = absurd cc
got_source (d ∷ es) zero e h = let i : d ≡ e = cc in ap (λ (x : BoundEntry). x.source) i
got_source (d ∷ es) (suc k) e h = got_source es k e h

got_number : (es : List BoundEntry) (k : ℕ) (e : BoundEntry) → slice_get es k ≡ Some e → number_of es k ≡ e.table.number
got_number [] k e h = absurd cc
got_number (d ∷ es) zero e h = let i : d ≡ e = cc in ap (λ (x : BoundEntry). x.table.number) i
got_number (d ∷ es) (suc k) e h = got_number es k e h

got_width : (es : List BoundEntry) (k : ℕ) (e : BoundEntry) → slice_get es k ≡ Some e → width_of es k ≡ e.width
got_width [] k e h = absurd cc
got_width (d ∷ es) zero e h = let i : d ≡ e = cc in ap (λ (x : BoundEntry). x.width) i
got_width (d ∷ es) (suc k) e h = got_width es k e h

got_place : (es : List BoundEntry) (k : ℕ) (e : BoundEntry) → slice_get es k ≡ Some e → entry_place e ≡ place_of es k
unfolding place_of
got_place es k e h = two (λ (s n : ℕ). let p : Place = record { source = s; table = n } in p) (sym (got_source es k e h))
    (sym (got_number es k e h))

places_at : (es : List BoundEntry) (ks : List ℕ) (ys : List BoundEntry) → AreAt es ks ys → map entry_place ys ≡ map (place_of es) ks
places_at es [] [] h = refl
places_at es [] (y ∷ ys) h = absurd h
places_at es (k ∷ ks) [] h = absurd h
places_at es (k ∷ ks) (y ∷ ys) h = two (λ (p : Place) (ps : List Place). p ∷ ps) (got_place es k y h.0) (places_at es ks ys h.1)

widths_at : (es : List BoundEntry) (ks : List ℕ) (ys : List BoundEntry) → AreAt es ks ys
    → map (λ (e : BoundEntry). e.width) ys ≡ map (width_of es) ks
widths_at es [] [] h = refl
widths_at es [] (y ∷ ys) h = absurd h
widths_at es (k ∷ ks) [] h = absurd h
widths_at es (k ∷ ks) (y ∷ ys) h = two (λ (n : ℕ) (ns : List ℕ). n ∷ ns) (sym (got_width es k y h.0)) (widths_at es ks ys h.1)

got_there : (xs : List BoundEntry) (y : BoundEntry) (ys : List BoundEntry) → slice_get (xs ++ y ∷ ys) (length xs) ≡ Some y
got_there [] y ys = refl
got_there (x ∷ xs) y ys = got_there xs y ys

in_turn : (xs ys : List BoundEntry) → AreAt (xs ++ ys) (range_with_len (length xs) (length ys)) ys
in_turn xs [] = tt
in_turn xs (y ∷ ys) =
    let e : length (xs ++ y ∷ []) ≡ length xs + 1 = length-append xs (y ∷ []) in (
      got_there xs y ys,
      subst (λ (l : List BoundEntry). AreAt l (range_with_len (length xs + 1) (length ys)) ys) (append_assoc xs (y ∷ []) ys)
          (subst (λ (n : ℕ). AreAt ((xs ++ y ∷ []) ++ ys) (range_with_len n (length ys)) ys) e (in_turn (xs ++ y ∷ []) ys)),
    )

places_in_turn : (es : List BoundEntry) → map entry_place es ≡ map (place_of es) (range_with_len 0 (length es))
places_in_turn es = places_at es (range_with_len 0 (length es)) es (in_turn [] es)

-- ---- the order is one of all numbers

core_shuffled : (ws : List ℕ) (f : CoreForm) (b : Bool)
    → Shuffled (tables_in f.from) (cond b (tables_of (core_order ws f)) (tables_in f.from))
core_shuffled ws f true = order_tables ws f
core_shuffled ws f false = same (tables_in f.from)

cores_shuffled : (ws : List ℕ) (fs : List CoreForm)
    → Shuffled (flat_map (λ (f : CoreForm). tables_in f.from) fs) (flat_map (core_tables ws) fs)
cores_shuffled ws [] = none
cores_shuffled ws (f ∷ fs) = joined_to (core_shuffled ws f (is_inner f.from)) (cores_shuffled ws fs)

form_numbers : (ws : List ℕ) (f : Form) → FormCounts ws f → form_tables f ≡ range_with_len 0 (length ws)
form_numbers ws f c = sym (all_numbers f.cores) ∙ c.numbers

all_shuffled : (ws : List ℕ) (f : Form) → FormCounts ws f → Shuffled (range_with_len 0 (length ws)) (order_of ws f)
all_shuffled ws f c = subst (λ (l : List ℕ). Shuffled l (order_of ws f)) (form_numbers ws f c) (cores_shuffled ws f.cores)

places_shuffled : (bound planned : BoundQuery) → FormCounts (bound_widths bound) (form_of bound.select) → IsOrdered bound planned
    → Shuffled (map entry_place bound.entries.items) (map entry_place planned.entries.items)
places_shuffled bound planned c is =
    let es = bound.entries.items in
    let ws = bound_widths bound in
    let f = form_of bound.select in
    let n : length ws ≡ length es = length-map es (λ (e : BoundEntry). e.width) in
    let s : Shuffled (range_with_len 0 (length es)) (order_of ws f) = subst (λ (k : ℕ). Shuffled (range_with_len 0 k) (order_of ws f)) n
    (all_shuffled ws f c) in
    subst (λ (l : List Place). Shuffled l (map entry_place planned.entries.items)) (sym (places_in_turn es))
    (subst (λ (l : List Place). Shuffled (map (place_of es) (range_with_len 0 (length es))) l)
    (sym (places_at es (order_of ws f) planned.entries.items is.entries)) (mapped (place_of es) s))

honest_over : (ps qs : List Place) (boxes : List (Option BoxState)) → Shuffled ps qs → HonestOver ps boxes → HonestOver qs boxes
honest_over ps qs boxes s h slot i =
    h slot (Contains-permutation (map (λ (p : Place). p.source) qs) (map (λ (p : Place). p.source) ps) slot
    (to_swaps (mapped (λ (p : Place). p.source) (back s))) i)

tables_shuffled : (slot : ℕ) {ps qs : List Place} → Shuffled ps qs → tables_at slot ps ≡ tables_at slot qs
tables_shuffled slot none = refl
tables_shuffled slot (skip p s) = ap (λ (n : ℕ). cond (nat_eq p.source slot) 1 0 + n) (tables_shuffled slot s)
tables_shuffled slot (turn p q ps) = omega arith
tables_shuffled slot (both s t) = tables_shuffled slot s ∙ tables_shuffled slot t

pub begins : (boxes old new : List (Option BoxState)) (bound planned : BoundQuery) → IsReady boxes bound → IsOrdered bound planned
    → BeginsScans (scans_of planned) old new → BeginsScans (scans_of bound) old new
begins boxes old new bound planned r is h slot s t a b =
    h slot s t a b ∙ ap (λ (n : ℕ). s.ledger.next + n) (sym (tables_shuffled slot (places_shuffled bound planned r.counts is)))

-- ---- the rows of entries by their numbers

rows_of_entry : List (Option BoxState) → BoundEntry → List Tuple
rows_of_entry boxes e = rows_shown (slice_get boxes e.source) e.table.number

got_rows : (boxes : List (Option BoxState)) (es : List BoundEntry) (k : ℕ) (e : BoundEntry) → slice_get es k ≡ Some e
    → entry_rows boxes (map entry_place es) k ≡ rows_of_entry boxes e
unfolding rows_of_entry
got_rows boxes [] k e h = absurd cc
got_rows boxes (d ∷ es) zero e h = let i : d ≡ e = cc in ap (rows_of_entry boxes) i
got_rows boxes (d ∷ es) (suc k) e h = got_rows boxes es k e h

rows_listed : (boxes : List (Option BoxState)) (es : List BoundEntry) (ks : List ℕ) (ys : List BoundEntry) → AreAt es ks ys
    → map (entry_rows boxes (map entry_place es)) ks ≡ map (rows_of_entry boxes) ys
rows_listed boxes es [] [] h = refl
rows_listed boxes es [] (y ∷ ys) h = absurd h
rows_listed boxes es (k ∷ ks) [] h = absurd h
rows_listed boxes es (k ∷ ks) (y ∷ ys) h = two (λ (x : List Tuple) (l : List (List Tuple)). x ∷ l) (got_rows boxes es k y h.0)
    (rows_listed boxes es ks ys h.1)

at_length : (es : List BoundEntry) (ks : List ℕ) (ys : List BoundEntry) → AreAt es ks ys → length ys ≡ length ks
at_length es [] [] h = refl
at_length es [] (y ∷ ys) h = absurd h
at_length es (k ∷ ks) [] h = absurd h
at_length es (k ∷ ks) (y ∷ ys) h = ap suc (at_length es ks ys h.1)

rows_past : (boxes : List (Option BoxState)) (es : List BoundEntry) (k : ℕ) → length es ≤ k → entry_rows boxes (map entry_place es) k ≡ []
rows_past boxes [] k le = refl
rows_past boxes (e ∷ es) zero le = absurd (omega arith)
rows_past boxes (e ∷ es) (suc k) le = rows_past boxes es k (omega arith)

rows_are : (o : Option (Option BoxState)) (t : ℕ) → rows_in (or_none o) t ≡ rows_shown o t
rows_are None t = refl
rows_are (Some None) t = refl
rows_are (Some (Some s)) t = refl

entry_rows_are : (boxes : List (Option BoxState)) (es : List BoundEntry) (k : ℕ) → k < length es
    → tables_by es (rows_at boxes) k ≡ entry_rows boxes (map entry_place es) k
entry_rows_are boxes [] k lt = absurd (omega arith)
entry_rows_are boxes (e ∷ es) zero lt = rows_are (slice_get boxes e.source) e.table.number
entry_rows_are boxes (e ∷ es) (suc k) lt = entry_rows_are boxes es k (omega arith)

all_wide : (n : ℕ) (rs : List Tuple) → Each (λ r. length r ≡ n) rs → list_all (λ r. nat_eq (length r) n) rs ≡ true
all_wide n [] h = refl
all_wide n (r ∷ rs) h = rw (eq-eqb (length r) n h.0) (all_wide n rs h.1)

wide_tables : (boxes : List (Option BoxState)) (es : List BoundEntry) → RowsAreWide es (tables_by es (rows_at boxes))
    → AreWide (map (λ (e : BoundEntry). e.width) es) (entry_rows boxes (map entry_place es))
wide_tables boxes es h t = by (nat_lt t (length es)) refl
  where
    by : (b : Bool) → nat_lt t (length es) ≡ b
        → list_all (λ r. nat_eq (length r) (width_at (map (λ (e : BoundEntry). e.width) es) t)) (entry_rows boxes (map entry_place es) t)
        ≡ true
    by true e =
        let lt : t < length es = ltb-true t (length es) e in
        all_wide (width_of es t) (entry_rows boxes (map entry_place es) t)
        (subst (λ (rs : List Tuple). Each (λ r. length r ≡ width_of es t) rs) (entry_rows_are boxes es t lt) (h t lt))
    by false e = rw (rows_past boxes es t (ltb-false t (length es) e)) refl

-- ---- the query

same_over : (boxes : List (Option BoxState)) (bound planned : BoundQuery) → IsReady boxes bound → IsOrdered bound planned
    → HonestOver (map entry_place bound.entries.items) boxes
    → IsSameQuery (query_of bound.select) (entry_rows boxes (map entry_place bound.entries.items)) (query_of planned.select)
    (entry_rows boxes (map entry_place planned.entries.items))
same_over boxes bound planned r is honest =
    let es = bound.entries.items in
    let fs = planned.entries.items in
    let ws = bound_widths bound in
    let f = form_of bound.select in
    let order = order_of ws f in
    let db = entry_rows boxes (map entry_place es) in
    let other = entry_rows boxes (map entry_place fs) in
    let many : length ws ≡ length fs = sym (at_length es order fs is.entries ∙ order_length ws f r.counts) in
    let numbers : form_tables f ≡ range_with_len 0 (length fs) = form_numbers ws f r.counts ∙ ap (range_with_len 0) many in
    let listed : map other (form_tables f) ≡ map db order =
    ap (map other) numbers ∙ rows_listed boxes fs (range_with_len 0 (length fs)) fs (in_turn [] fs)
    ∙ sym (rows_listed boxes es order fs is.entries) in
    subst (λ (q : Query). IsSameQuery (query_of bound.select) db q other) (sym (ap query_by is.form))
    (order_keeps ws bound.select db other r.safe (wide_tables boxes es (r.wide honest)) listed)

honest_there : (boxes : List (Option BoxState)) (bound planned : BoundQuery) → IsReady boxes bound → IsOrdered bound planned
    → HonestOver (map entry_place bound.entries.items) boxes → HonestOver (map entry_place planned.entries.items) boxes
honest_there boxes bound planned r is =
    honest_over (map entry_place bound.entries.items) (map entry_place planned.entries.items) boxes
    (places_shuffled bound planned r.counts is)

honest_here : (boxes : List (Option BoxState)) (bound planned : BoundQuery) → IsReady boxes bound → IsOrdered bound planned
    → HonestOver (map entry_place planned.entries.items) boxes → HonestOver (map entry_place bound.entries.items) boxes
honest_here boxes bound planned r is =
    honest_over (map entry_place planned.entries.items) (map entry_place bound.entries.items) boxes
    (back (places_shuffled bound planned r.counts is))

pub answers : (boxes : List (Option BoxState)) (bound planned : BoundQuery) (rows : List Tuple) → IsReady boxes bound
    → IsOrdered bound planned
    → RunAnswers (query_of planned.select) (map entry_place planned.entries.items) boxes rows
    → RunAnswers (query_of bound.select) (map entry_place bound.entries.items) boxes rows
answers boxes bound planned rows r is h = record {
  answers = λ honest. (same_over boxes bound planned r is honest).answers rows (h.answers (honest_there boxes bound planned r is honest));
  clear = λ honest c shows. h.clear (honest_there boxes bound planned r is honest) c
      ((same_over boxes bound planned r is honest).shown c shows);
}

pub stops : (old new : List (Option BoxState)) (bound planned : BoundQuery) (fault : Fault) → IsReady old bound → IsOrdered bound planned
    → Stops (query_of planned.select) (map entry_place planned.entries.items) fault old new
    → Stops (query_of bound.select) (map entry_place bound.entries.items) fault old new
stops old new bound planned fault r is (lacks_memory e) = lacks_memory e
stops old new bound planned fault r is (source_fails e failed) = source_fails e failed
stops old new bound planned fault r is (numbers_end e used) = numbers_end e used
stops old new bound planned fault r is (query_shows c e of_run shows) =
    query_shows c e of_run
    (λ honest. (same_over old bound planned r is honest).shows c (shows (honest_there old bound planned r is honest)))

-- ---- what it owes its plan

-- an entry, and that of its old number
record Found (es : List BoundEntry) (ks : List ℕ) (ys : List BoundEntry) (k : ℕ) : Type 0 where
  pub number : ℕ
  pub entry : BoundEntry
  pub listed : slice_get ks k ≡ Some number
  pub there : slice_get ys k ≡ Some entry
  pub here : slice_get es number ≡ Some entry

found : (es : List BoundEntry) (ks : List ℕ) (ys : List BoundEntry) → AreAt es ks ys → (k : ℕ) → k < length ys → Found es ks ys k
found es [] [] h k lt = absurd (omega arith)
found es [] (y ∷ ys) h k lt = absurd h
found es (n ∷ ks) [] h k lt = absurd h
found es (n ∷ ks) (y ∷ ys) h zero lt = record { number = n; entry = y; listed = refl; there = refl; here = h.0 }
found es (n ∷ ks) (y ∷ ys) h (suc k) lt =
    let i = found es ks ys h.1 k (omega arith) in
    record { number = i.number; entry = i.entry; listed = i.listed; there = i.there; here = i.here }

below_end : (es : List BoundEntry) (k : ℕ) (e : BoundEntry) → slice_get es k ≡ Some e → k < length es
below_end [] k e h = absurd cc
below_end (d ∷ es) zero e h = omega arith
below_end (d ∷ es) (suc k) e h = let lt = below_end es k e h in omega arith

below_any : {X : Type 0} (xs : List X) (k : ℕ) (x : X) → slice_get xs k ≡ Some x → k < length xs
below_any [] k x h = absurd cc
below_any (y ∷ xs) zero x h = omega arith
below_any (y ∷ xs) (suc k) x h = let lt = below_any xs k x h in omega arith

got_mapped : {X Y : Type 0} (g : X → Y) (xs : List X) (k : ℕ) (x : X) → slice_get xs k ≡ Some x → slice_get (map g xs) k ≡ Some (g x)
got_mapped g [] k x h = absurd cc
got_mapped g (z ∷ xs) zero x h = let e : z ≡ x = cc in ap (λ y. Some (g y)) e
got_mapped g (z ∷ xs) (suc k) x h = got_mapped g xs k x h

same_source : (es ys : List BoundEntry) (ks : List ℕ) (k : ℕ) (i : Found es ks ys k) → source_of ys k ≡ source_of es i.number
same_source es ys ks k i = got_source ys k i.entry i.there ∙ sym (got_source es i.number i.entry i.here)

same_number : (es ys : List BoundEntry) (ks : List ℕ) (k : ℕ) (i : Found es ks ys k) → number_of ys k ≡ number_of es i.number
same_number es ys ks k i = got_number ys k i.entry i.there ∙ sym (got_number es i.number i.entry i.here)

same_width : (es ys : List BoundEntry) (ks : List ℕ) (k : ℕ) (i : Found es ks ys k) → width_of ys k ≡ width_of es i.number
same_width es ys ks k i = got_width ys k i.entry i.there ∙ sym (got_width es i.number i.entry i.here)

wide_there : (es ys : List BoundEntry) (ks : List ℕ) (rows : ℕ → ℕ → List Tuple) → AreAt es ks ys → RowsAreWide es (tables_by es rows)
    → RowsAreWide ys (tables_by ys rows)
wide_there es ys ks rows h wide k lt =
    let i = found es ks ys h k lt in
    let there : tables_by es rows i.number
    ≡ tables_by ys rows k = two rows (sym (same_source es ys ks k i)) (sym (same_number es ys ks k i)) in
    subst (λ (rs : List Tuple). Each (λ r. length r ≡ width_of ys k) rs) there
    (subst (λ (n : ℕ). Each (λ r. length r ≡ n) (tables_by es rows i.number)) (sym (same_width es ys ks k i))
    (wide i.number (below_end es i.number i.entry i.here)))

safe_forms : (cs : List SelectCore) → are_safe_cores cs ≡ are_safe_forms (map core_form cs)
safe_forms [] = refl
safe_forms (c ∷ cs) = ap (λ (b : Bool). is_safe_from c.from.items && b) (safe_forms cs)

-- the types of what stands under a new number
types_there : (boxes : List (Option BoxState)) (es ys : List BoundEntry) (ks : List ℕ) (kss : List (List ColType))
    → AreOfKinds (bound_at boxes) es kss → AreAt es ks ys
    → length kss ≡ length es → (k : ℕ) (types : List ColType) → slice_get (map (kinds_at kss) ks) k ≡ Some types
    → IsOfKinds (bound_at boxes) ys k types
types_there boxes es ys ks kss typed h long k types got =
    let within : k < length (map (kinds_at kss) ks) = below_any (map (kinds_at kss) ks) k types got in
    let lt : k < length ys = omega (arith, length-map ks (kinds_at kss), at_length es ks ys h) in
    let i = found es ks ys h k lt in
    let is : Some (kinds_at kss i.number) ≡ Some types = sym (got_mapped (kinds_at kss) ks k i.number i.listed) ∙ got in
    let own : kinds_at kss i.number ≡ types = cc in
    let room : i.number < length kss = omega (arith, below_end es i.number i.entry i.here) in
    let t = typed.each i.number types (slice_get-get_or kss i.number [] room ∙ ap Some own) in
    record {
      table = t.table;
      is = two (bound_at boxes) (same_source es ys ks k i) (same_number es ys ks k i) ∙ t.is;
      kinds = t.kinds;
    }

type_widths : (ws : List ℕ) (kss : List (List ColType)) → ws ≡ map (λ (ks : List ColType). length ks) kss → (ks : List ℕ)
    → map (width_at ws) ks ≡ map (λ (l : List ColType). length l) (map (kinds_at kss) ks)
type_widths ws kss e [] = refl
type_widths ws kss e (k ∷ ks) =
    two (λ (n : ℕ) (ns : List ℕ). n ∷ ns) (ap (λ (us : List ℕ). width_at us k) e ∙ widths_of_kinds kss k) (type_widths ws kss e ks)

pub ready : (boxes : List (Option BoxState)) (bound planned : BoundQuery) → IsReady boxes bound → IsOrdered bound planned
    → IsReady boxes planned
ready boxes bound planned r is =
    let es = bound.entries.items in
    let fs = planned.entries.items in
    let ws = bound_widths bound in
    let f = form_of bound.select in
    let order = order_of ws f in
    let still = stays_bound ws r.kinds f r.counts r.view r.alike r.typed.widths in
    let widths : bound_widths planned ≡ new_widths ws f = widths_at es order fs is.entries in
    let long : length r.kinds ≡ length es =
    sym (length-map r.kinds (λ (ks : List ColType). length ks)) ∙ ap (λ (us : List ℕ). length us) (sym r.typed.widths)
    ∙ length-map es (λ (e : BoundEntry). e.width) in
    record {
      kinds = new_kinds ws r.kinds f;
      typed = record {
        each = types_there boxes es fs order r.kinds r.typed is.entries long;
        widths = widths ∙ type_widths ws r.kinds r.typed.widths order;
      };
      counts = subst (λ (us : List ℕ). FormCounts us (form_of planned.select)) (sym widths)
          (subst (λ (g : Form). FormCounts (new_widths ws f) g) (sym is.form) still.counts);
      view = subst (λ (us : List ℕ). FormWithin us (form_of planned.select)) (sym widths)
          (subst (λ (g : Form). FormWithin (new_widths ws f) g) (sym is.form) still.view);
      alike = subst (λ (g : Form). FormAlike (new_kinds ws r.kinds f) g) (sym is.form) still.alike;
      wide = λ honest. wide_there es fs order (rows_at boxes) is.entries (r.wide (honest_here boxes bound planned r is honest));
      safe = safe_forms planned.select.cores.items ∙ ap (λ (g : Form). are_safe_forms g.cores) is.form
          ∙ (order_risk ws f (sym (safe_forms bound.select.cores.items) ∙ r.safe)).safe;
    }
