-- The run of a query of all rows of one table checks nothing of them again.
use Rattle.std.proofs.Common.{◌≡◌, ◌<◌, ℕ, List, [], ◌∷◌, ◌++◌, map, length, flat_map, All, ap, subst, arith}
use Rattle.std.proofs.lemmas.List.Elements.{All-head}
use Rattle.tri_expr.specs.Tree.{Tree}
use Rattle.med_query.specs.Form.{ChainForm, CoreForm, core_form, form_of}
use Rattle.med_query.specs.declared.select.SelectCore.{SelectCore}
use Rattle.med_planner.specs.Plain.{IsBareForm}
use Rattle.fdw_api.specs.Wishes.{WishForm}
use Rattle.fdw_api.specs.declared.wishes.Agreement2.{Agreement2}
use Rattle.med_binder.specs.Counted.{chain_numbers, core_numbers, CoreCounts, bound_widths, FormCounts}
use Rattle.med_binder.specs.declared.bound.BoundEntry.{BoundEntry}
use Rattle.med_binder.specs.declared.bound.BoundQuery.{BoundQuery}
use Rattle.scan_loops.specs.Pulling.{IsBareRun}
use Rattle.scan_loops.specs.declared.levels.LoopLevel.{LoopLevel}
use Rattle.med_planner.specs.Flat.{from_parts, from_ons, safe_trees}
use Rattle.med_planner.specs.Offered.{offers_from, core_reads, core_offers, AreLevels}
use Rattle.med_exec.specs.Offers.{cores_offers, query_offers, query_wish, AllLevels}
use Rattle.med_exec.proofs.Plain.{no_keys}

-- FROM with one table
abbrev only : ℕ → List ChainForm
only table = record { first = table; joins = [] } ∷ []

-- ---- its level

-- no further level without an offer
no_more : (w : WishForm) (given : List Agreement2) (l : LoopLevel) (ls : List LoopLevel) → AreLevels w [] given (l ∷ ls) → ⊥
no_more w [] l ls h = h
no_more w (a ∷ given) l ls h = h

one_level : (es : List BoundEntry) (read : List ℕ) (table : ℕ) (w : WishForm) (given : List Agreement2) (ls : List LoopLevel)
    → AreLevels w (offers_from es read 0 (from_ons es 0 (only table) ++ safe_trees []) (from_parts es 0 (only table))) given ls → IsBareRun ls
one_level es read table w [] ls h = absurd h
one_level es read table w (a ∷ given) [] h = absurd h
one_level es read table w (a ∷ given) (l ∷ []) h =
    let is = h.0 in
    record {
      inner = is.outer;
      on = no_keys l.on.items is.on;
      conditions = no_keys l.conditions.items is.conditions;
    }
one_level es read table w (a ∷ given) (l ∷ m ∷ ls) h = absurd (no_more w given m ls h.1)

core_level : (es : List BoundEntry) (f : CoreForm) (table : ℕ) (w : WishForm) (given : List Agreement2) (ls : List LoopLevel) → f.from ≡ only table → f.conditions ≡ [] → AreLevels w (core_offers es f) given ls → IsBareRun ls
core_level es f table w given ls from none h =
    one_level es (core_reads es f) table w given ls
    (subst (λ (ts : List Tree). AreLevels w (offers_from es (core_reads es f) 0 (from_ons es 0 (only table) ++ safe_trees ts) (from_parts es 0 (only table))) given ls) none
    (subst (λ (cs : List ChainForm). AreLevels w (offers_from es (core_reads es f) 0 (from_ons es 0 cs ++ safe_trees f.conditions) (from_parts es 0 cs)) given ls) from h))

query_level : (es : List BoundEntry) (cs : List SelectCore) (core : CoreForm) (table : ℕ) (w : WishForm) (answers : List (List Agreement2)) (ls : List LoopLevel) → map core_form cs ≡ core ∷ [] → core.from ≡ only table → core.conditions ≡ []
    → AllLevels w (cores_offers es cs) answers (ls ∷ []) → IsBareRun ls
query_level es [] core table w answers ls is from none h = absurd cc
query_level es (c ∷ d ∷ cs) core table w answers ls is from none h = absurd cc
query_level es (c ∷ []) core table w [] ls is from none h = absurd h
query_level es (c ∷ []) core table w (given ∷ answers) ls is from none h =
    let same : core ≡ core_form c = cc in
    core_level es (core_form c) table w given ls (subst (λ (f : CoreForm). f.from ≡ only table) same from) (subst (λ (f : CoreForm). f.conditions ≡ []) same none) h.0

pub shows_all : (b : BoundQuery) (answers : List (List Agreement2)) (loops : List (List LoopLevel)) (ls : List LoopLevel) → IsBareForm (form_of b.select) → AllLevels (query_wish b) (query_offers b) answers loops → loops ≡ ls ∷ [] → IsBareRun ls
shows_all b answers loops ls bare h is =
    query_level b.entries.items b.select.cores.items bare.plain.core bare.table (query_wish b) answers ls bare.plain.alone bare.from bare.all_kept
    (subst (λ (x : List (List LoopLevel)). AllLevels (query_wish b) (query_offers b) answers x) is h)

-- ---- its entry

some_entry : (es : List BoundEntry) (f : CoreForm) (table : ℕ) → f.from ≡ only table → CoreCounts (map (λ (e : BoundEntry). e.width) es) f → 0 < length es
some_entry [] f table from counts =
    let one : length (core_numbers f) ≡ 1 = ap (λ (cs : List ChainForm). length (flat_map chain_numbers cs)) from in
    let among = counts.among in
    absurd (omega (arith, one, among))
some_entry (e ∷ es) f table from counts = omega arith

pub has_entry : (b : BoundQuery) → IsBareForm (form_of b.select) → FormCounts (bound_widths b) (form_of b.select) → 0 < length b.entries.items
has_entry b bare counts =
    some_entry b.entries.items bare.plain.core bare.table bare.from
    (All-head (CoreCounts (bound_widths b)) bare.plain.core [] (subst (λ (fs : List CoreForm). All (CoreCounts (bound_widths b)) fs) bare.plain.alone counts.cores))
