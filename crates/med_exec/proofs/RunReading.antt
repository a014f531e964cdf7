-- A core reads the tables of its entries, and no others.
use Rattle.std.proofs.Common.{◌≡◌, ℕ, zero, suc, ◌+◌, ◌<◌, ◌≤◌, List, [], ◌∷◌, ◌++◌, map, length, flat_map, slice_get, Option, Some, None, refl, ap, sym, ◌∙◌, subst, arith}
use Rattle.std.specs.List.{range_with_len, filter}
use Rattle.std.proofs.lemmas.List.{length-map}
use Rattle.med_value.specs.Datum.{Tuple}
use Rattle.tri_expr.specs.Meaning.{means}
use Rattle.med_query.specs.Prelude.{Tables, Chain, Table, joined_chain, joined_chains, joined, pairs, matched, keeps, JoinForm, cross_form, inner_form, left_form, ChainForm, CoreForm, core_form, join_by, joins_by, chain_by, core_of}
use Rattle.med_query.specs.declared.select.SelectCore.{SelectCore}
use Rattle.med_binder.specs.Prelude.{joined_number, chain_numbers, core_numbers, CoreCounts, entry_place}
use Rattle.med_binder.specs.declared.bound.BoundEntry.{BoundEntry}
use Rattle.fdw_api.specs.State.{BoxState}
use Rattle.med_planner.specs.Planned.{rows_shown, entry_rows}
use Rattle.pushdown.specs.Joins.{Each}
use Rattle.scan_loops.specs.Scans.{or_none, rows_in, rows_at}
use Rattle.med_planner.specs.Plans.{tables_by}
use Rattle.med_planner.specs.Premises.{widths_in}

-- ---- the numbers of entries

range_below : (a n end : ℕ) → a + n ≤ end → Each (λ k. k < end) (range_with_len a n)
range_below a zero end e = tt
range_below a (suc n) end e = (omega (arith, e), range_below (a + 1) n end (omega (arith, e)))

-- each number that a core counts is that of an entry
pub numbers_below : (es : List BoundEntry) (f : CoreForm) → CoreCounts (widths_in es) f → Each (λ k. k < length es) (flat_map chain_numbers f.from)
numbers_below es f counts =
    let long = length-map es (λ (e : BoundEntry). e.width) in
    let among = counts.among in
    subst (λ (ks : List ℕ). Each (λ k. k < length es) ks) (sym counts.numbers) (range_below counts.first (length (core_numbers f)) (length es) (omega (arith, long, among)))

-- ---- the rows of an entry

rows_are : (o : Option (Option BoxState)) (t : ℕ) → rows_in (or_none o) t ≡ rows_shown o t
rows_are None t = refl
rows_are (Some None) t = refl
rows_are (Some (Some s)) t = refl

pub entry_rows_are : (boxes : List (Option BoxState)) (es : List BoundEntry) (k : ℕ) → k < length es → tables_by es (rows_at boxes) k ≡ entry_rows boxes (map entry_place es) k
entry_rows_are boxes [] k lt = absurd (omega (arith, lt))
entry_rows_are boxes (e ∷ es) zero lt = rows_are (slice_get boxes e.source) e.table.number
entry_rows_are boxes (e ∷ es) (suc k) lt = entry_rows_are boxes es k (omega (arith, lt))

-- ---- joins over tables that have the same rows

module _ (db eb : Tables) where
  abbrev Same : ℕ → Type 0
  Same k = db k ≡ eb k

  joined_same : (left : Chain) (j : JoinForm) → joined_chain db left ≡ joined_chain eb left → Same (joined_number j) → joined_chain db (join_by left j) ≡ joined_chain eb (join_by left j)
  joined_same left (cross_form t) e h = ap (λ (xs : List Tuple). pairs xs (db t)) e ∙ ap (pairs (joined_chain eb left)) h
  joined_same left (inner_form t on) e h = ap (filter (keeps (means [] on))) (ap (λ (xs : List Tuple). pairs xs (db t)) e ∙ ap (pairs (joined_chain eb left)) h)
  joined_same left (left_form t width on) e h =
      ap (flat_map (matched (means [] on) (db t) width)) e ∙ ap (λ (ys : List Tuple). flat_map (matched (means [] on) ys width) (joined_chain eb left)) h

  joins_same : (left : Chain) (js : List JoinForm) (later : List ℕ) → joined_chain db left ≡ joined_chain eb left → Each Same (map joined_number js ++ later) → (joined_chain db (joins_by left js) ≡ joined_chain eb (joins_by left js)) × Each Same later
  joins_same left [] later e h = (e, h)
  joins_same left (j ∷ js) later e h = joins_same (join_by left j) js later (joined_same left j e h.0) h.1

  chain_same : (c : ChainForm) (later : List ℕ) → Each Same (chain_numbers c ++ later) → (joined_chain db (chain_by c) ≡ joined_chain eb (chain_by c)) × Each Same later
  chain_same c later h = joins_same (Table c.first) c.joins later h.0 h.1

  chains_same : (cs : List ChainForm) → Each Same (flat_map chain_numbers cs) → joined_chains db (map chain_by cs) ≡ joined_chains eb (map chain_by cs)
  chains_same [] h = refl
  chains_same (c ∷ []) h = (chain_same c [] h).0
  chains_same (c ∷ d ∷ cs) h =
      let one = chain_same c (flat_map chain_numbers (d ∷ cs)) h in
      ap (λ (xs : List Tuple). pairs xs (joined_chains db (map chain_by (d ∷ cs)))) one.0 ∙ ap (pairs (joined_chain eb (chain_by c))) (chains_same (d ∷ cs) one.1)

pub each_on : {X : Type 0} (P Q : X → Type 0) (xs : List X) → ((x : X) → P x → Q x) → Each P xs → Each Q xs
each_on P Q [] f h = tt
each_on P Q (x ∷ xs) f h = (f x h.0, each_on P Q xs f h.1)

-- the joined rows of a core over what the boxes show are those over the rows of its entries
pub joined_over : (boxes : List (Option BoxState)) (es : List BoundEntry) (s : SelectCore) → CoreCounts (widths_in es) (core_form s)
    → joined (core_of s) (tables_by es (rows_at boxes)) ≡ joined (core_of s) (entry_rows boxes (map entry_place es))
joined_over boxes es s counts =
    let db = tables_by es (rows_at boxes) in
    let eb = entry_rows boxes (map entry_place es) in
    chains_same db eb (core_form s).from
    (each_on (λ (k : ℕ). k < length es) (λ (k : ℕ). db k ≡ eb k) (flat_map chain_numbers (core_form s).from) (entry_rows_are boxes es) (numbers_below es (core_form s) counts))
