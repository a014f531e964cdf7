-- The form of a query counts the entries of FROM from 0 on, and knows how many columns they bring.
use Rattle.std.proofs.Common.{◌≡◌, ℕ, zero, suc, ◌+◌, ◌*◌, ◌≤◌, List, [], ◌∷◌, ◌++◌, Option, Some, None, All, map, drop, sum, length, option_map, unwrap_or, slice_get, refl, sym, ap, ◌∙◌, arith, drop-drop, append_assoc}
use Rattle.std.specs.List.{range_with_len}
use Rattle.std.specs.Option.{option_and_then}
use Rattle.std.proofs.lemmas.List.{length-map, length-append}
use Rattle.std.proofs.lemmas.List.Elements.{All-cons, All-nil, All-head, All-tail}
use Rattle.std.proofs.lemmas.List.Sums.{sum_by-cons}
use Rattle.med_value.specs.Limits.{entry_limit, column_limit}
use Rattle.med_syntax.specs.QueryTree.{EntryTree, JoinTree, inner_join, left_join, cross_join, ChainTree, CoreTree, cores_of, StatementTree, select}
use Rattle.med_query.specs.Form.{ChainForm, CoreForm}
use Rattle.bind_names.specs.Prelude.{TableShape, Scope, joined_entry, chain_entries, entries_of, query_entries, query_scope, entry_columns, entry_shape, entry_place, place_named, join_meant, with_join, joins_meant, chain_meant, chains_meant, Sorting, sorting_of, core_meant, cores_meant, meant}
use Rattle.med_binder.specs.Within.{widths, widths_of}
use Rattle.med_binder.specs.Counted.{SaysWidth, core_numbers, core_widths, CoreCounts, FormCounts, AreNarrow}
use Rattle.med_binder.proofs.LawViews.{as_many_widths}
use Rattle.med_binder.proofs.Numbers.{chains_count, cores_count, range_long, entries_in, entry_width, entry_widths, shape_widths, widths_of_two, drop_there, core_wide, next_all, next_number}

-- ---- the widths of LEFT JOINs

get_dropped : (n : ℕ) (ws : List ℕ) (w : ℕ) (rest : List ℕ) → drop n ws ≡ w ∷ rest → slice_get ws n ≡ Some w
get_dropped zero [] w rest h = absurd cc
get_dropped zero (v ∷ ws) w rest h = cc
get_dropped (suc n) [] w rest h = absurd cc
get_dropped (suc n) (v ∷ ws) w rest h = get_dropped n ws w rest h

drop_next : (n : ℕ) (ws : List ℕ) (w : ℕ) (rest : List ℕ) → drop n ws ≡ w ∷ rest → drop (suc n) ws ≡ rest
drop_next zero [] w rest h = absurd cc
drop_next zero (v ∷ ws) w rest h = cc
drop_next (suc n) [] w rest h = absurd cc
drop_next (suc n) (v ∷ ws) w rest h = drop_next n ws w rest h

join_says : (ws : List ℕ) (s : Scope) (number width : ℕ) (j : JoinTree) → slice_get ws number ≡ Some width → SaysWidth ws (join_meant s number width j)
join_says ws s number width (inner_join e on) h = tt
join_says ws s number width (left_join e on) h = h
join_says ws s number width (cross_join e) h = tt

joins_say : (tables : List TableShape) (ws : List ℕ) (before : Scope) (number : ℕ) (js : List JoinTree) (post : List ℕ) → drop number ws ≡ entry_widths tables (map joined_entry js) ++ post
    → All (SaysWidth ws) (joins_meant tables before number js)
joins_say tables ws before number [] post d = All-nil (SaysWidth ws)
joins_say tables ws before number (j ∷ js) post d =
    let s = with_join tables before j in
    let width = entry_width tables (joined_entry j) in
    let rest = entry_widths tables (map joined_entry js) ++ post in
    All-cons (SaysWidth ws) (join_meant s number (length (entry_columns tables (joined_entry j))) j) (joins_meant tables s (suc number) js)
    (join_says ws s number width j (get_dropped number ws width rest d))
    (joins_say tables ws s (suc number) js post (drop_next number ws width rest d))

abbrev ChainSays : List ℕ → ChainForm → Type 0
ChainSays ws c = All (SaysWidth ws) c.joins

chain_says : (tables : List TableShape) (ws : List ℕ) (number : ℕ) (c : ChainTree) (post : List ℕ) → drop number ws ≡ entry_widths tables (chain_entries c) ++ post → ChainSays ws (chain_meant tables number c)
chain_says tables ws number c post d =
    joins_say tables ws (entry_shape tables c.first ∷ []) (suc number) c.joins post (drop_next number ws (entry_width tables c.first) (entry_widths tables (map joined_entry c.joins) ++ post) d)

drop_front : (tables : List TableShape) (es : List EntryTree) (ys : List ℕ) → drop (length es) (entry_widths tables es ++ ys) ≡ ys
drop_front tables [] ys = refl
drop_front tables (e ∷ es) ys = drop_front tables es ys

chains_say : (tables : List TableShape) (ws : List ℕ) (number : ℕ) (cs : List ChainTree) (post : List ℕ) → drop number ws ≡ entry_widths tables (entries_of cs) ++ post → All (ChainSays ws) (chains_meant tables number cs)
chains_say tables ws number [] post d = All-nil (ChainSays ws)
chains_say tables ws number (c ∷ cs) post d =
    let rest = entry_widths tables (entries_of cs) ++ post in
    let here : drop number ws ≡ entry_widths tables (chain_entries c) ++ rest =
    d ∙ ap (λ (l : List ℕ). l ++ post) (widths_of_two tables (chain_entries c) (entries_of cs)) ∙ append_assoc (entry_widths tables (chain_entries c)) (entry_widths tables (entries_of cs)) post in
    let behind = sym (drop-drop (length (chain_entries c)) number ws) ∙ ap (drop (length (chain_entries c))) here ∙ drop_front tables (chain_entries c) rest in
    All-cons (ChainSays ws) (chain_meant tables number c) (chains_meant tables (number + length (chain_entries c)) cs)
    (chain_says tables ws number c rest here)
    (chains_say tables ws (number + length (chain_entries c)) cs post behind)

-- ---- cores

core_counts : (tables : List TableShape) (ws before post : List ℕ) (sorting : Sorting) (number : ℕ) (c : CoreTree) → ws ≡ before ++ (entry_widths tables (entries_of c.from) ++ post) → number ≡ length before
    → CoreCounts ws (core_meant tables sorting number c)
core_counts tables ws before post sorting number c e n =
    let own = entry_widths tables (entries_of c.from) in
    let counted = chains_count tables number c.from in
    let many : length (core_numbers (core_meant tables sorting number c)) ≡ length (entries_of c.from) = ap length counted ∙ range_long number (length (entries_of c.from)) in
    let all : length ws ≡ length before + length (own ++ post) = ap length e ∙ length-append before (own ++ post) in
    let both = length-append own post in
    let wide = length-map (entries_of c.from) (entry_width tables) in
    record {
      first = number;
      numbers = counted ∙ ap (range_with_len number) (sym many);
      among = omega (arith, n, many, all, both, wide);
      widths = chains_say tables ws number c.from post (drop_there ws before (own ++ post) number e n);
    }

cores_counted : (tables : List TableShape) (ws before : List ℕ) (sorting : Sorting) (number : ℕ) (cs : List CoreTree) → ws ≡ before ++ entry_widths tables (entries_in cs) → number ≡ length before
    → All (CoreCounts ws) (cores_meant tables sorting number cs)
cores_counted tables ws before sorting number [] e n = All-nil (CoreCounts ws)
cores_counted tables ws before sorting number (c ∷ cs) e n =
    let own = entry_widths tables (entries_of c.from) in
    let rest = entry_widths tables (entries_in cs) in
    let here : ws ≡ before ++ (own ++ rest) = e ∙ ap (λ (l : List ℕ). before ++ l) (widths_of_two tables (entries_of c.from) (entries_in cs)) in
    All-cons (CoreCounts ws) (core_meant tables sorting number c) (cores_meant tables sorting (number + length (entries_of c.from)) cs)
    (core_counts tables ws before rest sorting number c here n)
    (cores_counted tables ws (before ++ own) sorting (number + length (entries_of c.from)) cs (next_all ws before own rest here)
    (next_number before own number (length (entries_of c.from)) n (length-map (entries_of c.from) (entry_width tables))))

pub form_counts : (tables : List TableShape) (statement : StatementTree) → FormCounts (widths_of tables statement) (meant tables statement).form
form_counts tables (select q) =
    let s = query_scope tables q in
    let many : length (query_entries q) ≡ length (widths s) = sym (as_many_widths s ∙ length-map (query_entries q) (entry_shape tables)) in
    record {
      numbers = cores_count tables (sorting_of tables q) 0 (cores_of q) ∙ ap (range_with_len 0) many;
      cores = cores_counted tables (widths s) [] (sorting_of tables q) 0 (cores_of q) (shape_widths tables (query_entries q)) refl;
    }

-- ---- how many columns all entries bring

shape_narrow : (tables : List TableShape) (p : ℕ) → AreNarrow tables → length (unwrap_or (option_map (λ (t : TableShape). t.columns) (slice_get tables p)) []) ≤ column_limit
shape_narrow [] p h = omega arith
shape_narrow (t ∷ ts) zero h = All-head (λ (t : TableShape). length t.columns ≤ column_limit) t ts h
shape_narrow (t ∷ ts) (suc p) h = shape_narrow ts p (All-tail (λ (t : TableShape). length t.columns ≤ column_limit) t ts h)

place_narrow : (tables : List TableShape) (o : Option ℕ) → AreNarrow tables → length (unwrap_or (option_map (λ (t : TableShape). t.columns) (option_and_then (slice_get tables) o)) []) ≤ column_limit
place_narrow tables None h = omega arith
place_narrow tables (Some p) h = shape_narrow tables p h

entries_narrow : (tables : List TableShape) (es : List EntryTree) → AreNarrow tables → sum (entry_widths tables es) ≤ length es * column_limit
entries_narrow tables [] h = omega arith
entries_narrow tables (e ∷ es) h =
    let first : entry_width tables e ≤ column_limit = place_narrow tables (place_named tables e.table) h in
    let rest = entries_narrow tables es h in
    let all = sum_by-cons (λ (x : ℕ). x) (entry_width tables e) (entry_widths tables es) in
    omega (arith, first, rest, all)

pub form_narrow : (tables : List TableShape) (statement : StatementTree) → AreNarrow tables → sum (widths_of tables statement) ≤ length (meant tables statement).entries * column_limit
form_narrow tables (select q) h =
    let es = query_entries q in
    let many : length (map (entry_place tables) es) ≡ length es = length-map es (entry_place tables) in
    let all = entries_narrow tables es h in
    let same : sum (widths (map (entry_shape tables) es)) ≡ sum (entry_widths tables es) = ap sum (shape_widths tables es) in
    omega (arith, many, all, same)

abbrev NarrowCore : List ℕ → CoreForm → Type 0
NarrowCore ws f = length (core_numbers f) ≤ entry_limit → sum (core_widths ws f) ≤ entry_limit * column_limit

core_narrow : (tables : List TableShape) (ws before post : List ℕ) (sorting : Sorting) (number : ℕ) (c : CoreTree) → AreNarrow tables → ws ≡ before ++ (entry_widths tables (entries_of c.from) ++ post) → number ≡ length before
    → NarrowCore ws (core_meant tables sorting number c)
core_narrow tables ws before post sorting number c h e n few =
    let many : length (core_numbers (core_meant tables sorting number c)) ≡ length (entries_of c.from) = ap length (chains_count tables number c.from) ∙ range_long number (length (entries_of c.from)) in
    let all = entries_narrow tables (entries_of c.from) h in
    let same : sum (core_widths ws (core_meant tables sorting number c)) ≡ sum (entry_widths tables (entries_of c.from)) = ap sum (core_wide tables ws before post sorting number c e n) in
    omega (arith, few, many, all, same)

cores_narrow : (tables : List TableShape) (ws before : List ℕ) (sorting : Sorting) (number : ℕ) (cs : List CoreTree) → AreNarrow tables → ws ≡ before ++ entry_widths tables (entries_in cs) → number ≡ length before
    → All (NarrowCore ws) (cores_meant tables sorting number cs)
cores_narrow tables ws before sorting number [] h e n = All-nil (NarrowCore ws)
cores_narrow tables ws before sorting number (c ∷ cs) h e n =
    let own = entry_widths tables (entries_of c.from) in
    let rest = entry_widths tables (entries_in cs) in
    let here : ws ≡ before ++ (own ++ rest) = e ∙ ap (λ (l : List ℕ). before ++ l) (widths_of_two tables (entries_of c.from) (entries_in cs)) in
    All-cons (NarrowCore ws) (core_meant tables sorting number c) (cores_meant tables sorting (number + length (entries_of c.from)) cs)
    (core_narrow tables ws before rest sorting number c h here n)
    (cores_narrow tables ws (before ++ own) sorting (number + length (entries_of c.from)) cs h (next_all ws before own rest here)
    (next_number before own number (length (entries_of c.from)) n (length-map (entries_of c.from) (entry_width tables))))

pub forms_narrow : (tables : List TableShape) (statement : StatementTree) → AreNarrow tables
    → All (λ (f : CoreForm). length (core_numbers f) ≤ entry_limit → sum (core_widths (widths_of tables statement) f) ≤ entry_limit * column_limit) (meant tables statement).form.cores
forms_narrow tables (select q) h = cores_narrow tables (widths_of tables (select q)) [] (sorting_of tables q) 0 (cores_of q) h (shape_widths tables (query_entries q)) refl
