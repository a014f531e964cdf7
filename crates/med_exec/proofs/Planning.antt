-- The loops of a bound query are a plan of it.
use Rattle.std.proofs.Common.{◌≡◌, ℕ, zero, suc, ◌<◌, ◌⊎◌, inl, inr, Bool, true, false, ◌&&◌, List, [], ◌∷◌, ◌++◌, map, length, flat_map, get_or, All, slice_get, Option, Some, None, IsSome, refl, ap, sym, ◌∙◌, subst, arith}
use Rattle.std.proofs.lemmas.List.{length-map}
use Rattle.std.proofs.lemmas.List.Elements.{All-head, All-tail}
use Rattle.std.proofs.lemmas.Option.{slice_get-get_or}
use Rattle.med_value.specs.declared.value.ColType.{ColType}
use Rattle.tri_expr.specs.Tree.{Tree}
use Rattle.med_query.specs.Prelude.{Tables, joined, JoinForm, cross_form, inner_form, left_form, ChainForm, CoreForm, chain_form, core_form, core_of, is_safe_from, are_safe_cores}
use Rattle.med_query.specs.declared.select.JoinChain.{JoinChain}
use Rattle.med_query.specs.declared.select.Select.{Select}
use Rattle.med_query.specs.declared.select.SelectCore.{SelectCore}
use Rattle.med_binder.specs.Prelude.{CoreAlike, joined_number, chain_numbers, CoreCounts, CoreWithin, entry_place}
use Rattle.med_binder.specs.declared.bound.BoundEntry.{BoundEntry}
use Rattle.med_binder.specs.declared.bound.BoundQuery.{BoundQuery}
use Rattle.fdw_api.specs.Prelude.{BoxTable, BoxState, table_of, WishForm}
use Rattle.fdw_api.specs.declared.wishes.Agreement2.{Agreement2}
use Rattle.med_planner.specs.Planned.{entry_rows}
use Rattle.pushdown.specs.Joins.{Each}
use Rattle.pushdown.specs.Loops.{Level}
use Rattle.scan_loops.specs.Prelude.{levels_of, HonestFor, or_none, bound_in, bound_at, rows_at, HonestAt, HasTable, CanStart, ComesInOrder, IsLoopPlan, whole}
use Rattle.med_exec.specs.Running.{HonestOver}
use Rattle.scan_loops.specs.declared.levels.LoopLevel.{LoopLevel}
use Rattle.scan_loops.proofs.Seen.{agree_over}
use Rattle.med_planner.specs.Flat.{Part, join_part, end_after, chain_parts, from_parts}
use Rattle.med_planner.specs.Places.{further}
use Rattle.med_planner.specs.Offered.{OfferForm, undecided, source_of, number_of, offers_from, core_conditions, core_reads, core_offers, AreLevels}
use Rattle.med_planner.specs.Plans.{tables_by, PlansAreLoopPlans}
use Rattle.med_planner.specs.Premises.{widths_in, HasPlaces, RowsAreWide, CountedIsInView, CountedIsWide, AreOfKinds, PlansCanStart, WishedComeInOrder, UnwishedAreUnlimited}
use Rattle.med_planner.proofs.Sounds.{has_slot}
use Rattle.med_planner.specs.Wished.{no_wish, wish_for, wish_of, ComesAlone}
use Rattle.loop_runs.specs.Gathering.{levels_in}
use Rattle.loop_runs.specs.Ordering.{IsUnlimited, PlanInOrder}
use Rattle.loop_runs.specs.Running.{CanRun, IsPlanned, ArePlanned, IsPlanOver}
use Rattle.loop_runs.specs.declared.running.LoopPlan.{LoopPlan}
use Rattle.med_exec.specs.Offers.{cores_offers, query_offers, query_wish, IsOffered, AllAllowed, AllLevels}
use Rattle.med_exec.specs.BoundPulling.{AreAgreed}
use Rattle.med_exec.specs.BoundRunning.{IsReady, IsPlanFor}
use Rattle.med_exec.proofs.Counts.{all_scans}
use Rattle.med_exec.proofs.RunReading.{each_on, numbers_below, joined_over}

-- ---- offers are put to boxes that have their tables

in_box : (o : Option (Option BoxState)) (t : ℕ) (b : BoxTable) → bound_in (or_none o) t ≡ Some b → (s : BoxState) × (o ≡ Some (Some s)) × (table_of s t ≡ Some b)
in_box None t b e = absurd cc
in_box (Some None) t b e = absurd cc
in_box (Some (Some s)) t b e = (s, refl, e)

has_table : (boxes : List (Option BoxState)) (slot t : ℕ) (b : BoxTable) → bound_at boxes slot t ≡ Some b → HasTable boxes slot t
has_table boxes slot t b e =
    let w = in_box (slice_get boxes slot) t b e in
    record { box = w.0; there = w.1; holds = subst (λ (o : Option BoxTable). IsSome o) (sym w.2) refl }

-- the table of each entry is bound
entry_bound : (boxes : List (Option BoxState)) (es : List BoundEntry) (kss : List (List ColType)) → AreOfKinds (bound_at boxes) es kss → (k : ℕ) → k < length es → HasTable boxes (source_of es k) (number_of es k)
entry_bound boxes es kss are k lt =
    let long = length-map es (λ (e : BoundEntry). e.width) in
    let wide = length-map kss (λ (ks : List ColType). length ks) in
    let same = ap (λ (ns : List ℕ). length ns) are.widths in
    let there : k < length kss = omega (arith, lt, long, wide, same) in
    let i = are.each k (get_or kss k []) (slice_get-get_or kss k [] there) in
    has_table boxes (source_of es k) (number_of es k) i.table i.is

-- what is so of the table of each entry is so of each offer
module _ (P : ℕ → ℕ → Type 0) (es : List BoundEntry) where
  abbrev IsEntry : ℕ → Type 0
  IsEntry k = P (source_of es k) (number_of es k)

  abbrev IsOfEntry : Part → Type 0
  IsOfEntry p = IsEntry p.table

  one_part : (base : ℕ) (j : JoinForm) → IsEntry (joined_number j) → IsOfEntry (join_part es base j)
  one_part base (cross_form t) h = h
  one_part base (inner_form t on) h = h
  one_part base (left_form t width on) h = h

  joins_parts : (base : ℕ) (js : List JoinForm) (numbers : List ℕ) (ps : List Part) → (Each IsEntry numbers → Each IsOfEntry ps) → Each IsEntry (map joined_number js ++ numbers) → Each IsOfEntry (map (join_part es base) js ++ ps)
  joins_parts base [] numbers ps rest h = rest h
  joins_parts base (j ∷ js) numbers ps rest h = (one_part base j h.0, joins_parts base js numbers ps rest h.1)

  chains_parts : (base : ℕ) (cs : List ChainForm) → Each IsEntry (flat_map chain_numbers cs) → Each IsOfEntry (from_parts es base cs)
  chains_parts base [] h = tt
  chains_parts base (c ∷ cs) h =
      let end = end_after base (chain_parts es base c) in
      (h.0, joins_parts base c.joins (flat_map chain_numbers cs) (from_parts es end cs) (chains_parts end cs) h.1)

  parts_offered : (read : List ℕ) (base : ℕ) (conditions : List Tree) (ps : List Part) → Each IsOfEntry ps → Each (λ (o : OfferForm). P o.source o.table) (offers_from es read base conditions ps)
  parts_offered read base conditions [] h = tt
  parts_offered read base conditions (p ∷ ps) h = (h.0, parts_offered read (further p.width base) (undecided (further p.width base) conditions) ps h.1)

core_offered : (P : ℕ → ℕ → Type 0) (es : List BoundEntry) (f : CoreForm) → ((k : ℕ) → k < length es → P (source_of es k) (number_of es k)) → CoreCounts (widths_in es) f → Each (λ (o : OfferForm). P o.source o.table) (core_offers es f)
core_offered P es f so counts =
    parts_offered P es (core_reads es f) 0 (core_conditions es f) (from_parts es 0 f.from)
    (chains_parts P es 0 f.from (each_on (λ (k : ℕ). k < length es) (IsEntry P es) (flat_map chain_numbers f.from) so (numbers_below es f counts)))

pub cores_offered : (boxes : List (Option BoxState)) (es : List BoundEntry) (kss : List (List ColType)) (ss : List SelectCore) → AreOfKinds (bound_at boxes) es kss → All (CoreCounts (widths_in es)) (map core_form ss) → Each (Each (IsOffered boxes)) (cores_offers es ss)
cores_offered boxes es kss [] are counts = tt
cores_offered boxes es kss (s ∷ ss) are counts =
    (core_offered (HasTable boxes) es (core_form s) (entry_bound boxes es kss are) (All-head (CoreCounts (widths_in es)) (core_form s) (map core_form ss) counts), cores_offered boxes es kss ss are (All-tail (CoreCounts (widths_in es)) (core_form s) (map core_form ss) counts))

-- and of each level that is made of it
each_level : (P : ℕ → ℕ → Type 0) (w : WishForm) (os : List OfferForm) (given : List Agreement2) (ls : List LoopLevel) → Each (λ (o : OfferForm). P o.source o.table) os → AreLevels w os given ls → Each (λ (l : LoopLevel). P l.source l.table.number) ls
each_level P w [] [] [] so h = tt
each_level P w [] [] (l ∷ ls) so h = absurd h
each_level P w [] (a ∷ given) ls so h = absurd h
each_level P w (o ∷ os) [] ls so h = absurd h
each_level P w (o ∷ os) (a ∷ given) [] so h = absurd h
each_level P w (o ∷ os) (a ∷ given) (l ∷ ls) so h =
    (subst (λ (s : ℕ). P s l.table.number) (sym h.0.source) (subst (λ (t : ℕ). P o.source t) (sym h.0.table) so.0), each_level P w os given ls so.1 h.1)

pub all_levels_so : (P : ℕ → ℕ → Type 0) (es : List BoundEntry) (ss : List SelectCore) (w : WishForm) (answers : List (List Agreement2)) (loops : List (List LoopLevel)) → ((k : ℕ) → k < length es → P (source_of es k) (number_of es k)) → All (CoreCounts (widths_in es)) (map core_form ss)
    → AllLevels w (cores_offers es ss) answers loops → Each (Each (λ (l : LoopLevel). P l.source l.table.number)) loops
all_levels_so P es [] w [] [] so counts h = tt
all_levels_so P es [] w [] (ls ∷ loops) so counts h = absurd h
all_levels_so P es [] w (given ∷ answers) loops so counts h = absurd h
all_levels_so P es (s ∷ ss) w [] loops so counts h = absurd h
all_levels_so P es (s ∷ ss) w (given ∷ answers) [] so counts h = absurd h
all_levels_so P es (s ∷ ss) w (given ∷ answers) (ls ∷ loops) so counts h = (
  each_level P w (core_offers es (core_form s)) given ls (core_offered P es (core_form s) so (All-head (CoreCounts (widths_in es)) (core_form s) (map core_form ss) counts)) h.0,
  all_levels_so P es ss w answers loops so (All-tail (CoreCounts (widths_in es)) (core_form s) (map core_form ss) counts) h.1,
)

-- where the box of each level is honest, those of all their slots are
honest_for : (boxes : List (Option BoxState)) (ls : List LoopLevel) → Each (λ (l : LoopLevel). HonestAt boxes l.source) ls → HonestFor ls boxes
honest_for boxes [] h slot (k, lt, e) = absurd (omega (arith, lt))
honest_for boxes (l ∷ ls) h slot (zero, lt, e) = subst (HonestAt boxes) e h.0
honest_for boxes (l ∷ ls) h slot (suc k, lt, e) = honest_for boxes ls h.1 slot (k, omega (arith, lt), e)

honest_levels : (boxes : List (Option BoxState)) (loops : List (List LoopLevel)) → Each (Each (λ (l : LoopLevel). HonestAt boxes l.source)) loops → Each (λ (ls : List LoopLevel). HonestFor ls boxes) loops
honest_levels boxes [] h = tt
honest_levels boxes (ls ∷ loops) h = (honest_for boxes ls h.0, honest_levels boxes loops h.1)

-- ---- the loops of a core

-- over tables of the same joined rows, what is a plan of a core is one
plan_over : (s : SelectCore) (db eb : Tables) (ls : List Level) → joined (core_of s) db ≡ joined (core_of s) eb → IsLoopPlan s db ls → IsLoopPlan s eb ls
plan_over s db eb ls e p = record {
  steps = p.steps;
  are = p.are;
  split = p.split;
  wide = p.wide;
  condition = p.condition;
  parted = p.parted;
  rows = agree_over s db eb _ e p.rows;
}

not_made : (w : WishForm) (answers : List Agreement2) (l : LoopLevel) (ls : List LoopLevel) → AreLevels w [] answers (l ∷ ls) → ⊥
not_made w [] l ls h = h
not_made w (a ∷ answers) l ls h = h

none_offered : (w : WishForm) (os : List OfferForm) (answers : List Agreement2) → AreLevels w os answers [] → os ≡ []
none_offered w [] answers h = refl
none_offered w (o ∷ os) [] h = absurd h
none_offered w (o ∷ os) (a ∷ answers) h = absurd h

abbrev offers_over : List BoundEntry → List ℕ → List Tree → List JoinChain → List OfferForm
offers_over es read conditions from = offers_from es read 0 conditions (from_parts es 0 (map chain_form from))

-- only a core without FROM has no levels
none_read : (es : List BoundEntry) (read : List ℕ) (conditions : List Tree) (from : List JoinChain) → offers_over es read conditions from ≡ [] → from ≡ []
none_read es read conditions [] e = refl
none_read es read conditions (c ∷ from) e = absurd cc

some_read : (w : WishForm) (es : List BoundEntry) (read : List ℕ) (conditions : List Tree) (from : List JoinChain) (answers : List Agreement2) (l : LoopLevel) (ls : List LoopLevel) → AreLevels w (offers_over es read conditions from) answers (l ∷ ls) → 0 < length (map chain_form from)
some_read w es read conditions [] answers l ls h = absurd (not_made w answers l ls h)
some_read w es read conditions (c ∷ from) answers l ls h = omega arith

-- what is known of a bound query's entries
pub record Known (boxes : List (Option BoxState)) (es : List BoundEntry) (kss : List (List ColType)) : Type 0 where
  pub in_view : CountedIsInView
  pub counted_wide : CountedIsWide
  pub can_start : PlansCanStart
  pub are_plans : PlansAreLoopPlans
  pub wished : WishedComeInOrder
  pub unwished : UnwishedAreUnlimited
  pub typed : AreOfKinds (bound_at boxes) es kss
  pub places : HasPlaces es
  pub wide : HonestOver (map entry_place es) boxes → RowsAreWide es (tables_by es (rows_at boxes))

module _ (boxes : List (Option BoxState)) (es : List BoundEntry) (kss : List (List ColType)) (k : Known boxes es kss) where
  core_planned : (s : SelectCore) (w : WishForm) (answers : List Agreement2) (ls : List LoopLevel) → CoreCounts (widths_in es) (core_form s) → CoreWithin (widths_in es) (core_form s) → HonestOver (map entry_place es) boxes
      → AreLevels w (core_offers es (core_form s)) answers ls → IsPlanned (rows_at boxes) (entry_rows boxes (map entry_place es)) s ls
  core_planned s w answers [] counts within honest h =
      none_read es (core_reads es (core_form s)) (core_conditions es (core_form s)) s.from.items (none_offered w (core_offers es (core_form s)) answers h)
  core_planned s w answers (l ∷ ls) counts within honest h =
      let some = some_read w es (core_reads es (core_form s)) (core_conditions es (core_form s)) s.from.items answers l ls h in
      plan_over s (tables_by es (rows_at boxes)) (entry_rows boxes (map entry_place es)) (map whole (levels_of (rows_at boxes) (l ∷ ls))) (joined_over boxes es s counts)
      (k.are_plans s es w answers (l ∷ ls) (rows_at boxes) (k.in_view es (core_form s) counts within k.places some) (k.counted_wide s es (rows_at boxes) counts (k.wide honest)) h)

  pub all_planned : (ss : List SelectCore) (w : WishForm) (answers : List (List Agreement2)) (loops : List (List LoopLevel)) → All (CoreCounts (widths_in es)) (map core_form ss) → All (CoreWithin (widths_in es)) (map core_form ss) → HonestOver (map entry_place es) boxes
      → AllLevels w (cores_offers es ss) answers loops → ArePlanned (rows_at boxes) (entry_rows boxes (map entry_place es)) ss loops
  all_planned [] w [] [] counts within honest h = tt
  all_planned [] w [] (ls ∷ loops) counts within honest h = absurd h
  all_planned [] w (given ∷ answers) loops counts within honest h = absurd h
  all_planned (s ∷ ss) w [] loops counts within honest h = absurd h
  all_planned (s ∷ ss) w (given ∷ answers) [] counts within honest h = absurd h
  all_planned (s ∷ ss) w (given ∷ answers) (ls ∷ loops) counts within honest h = (
    core_planned s w given ls (All-head (CoreCounts (widths_in es)) (core_form s) (map core_form ss) counts) (All-head (CoreWithin (widths_in es)) (core_form s) (map core_form ss) within) honest h.0,
    all_planned ss w answers loops (All-tail (CoreCounts (widths_in es)) (core_form s) (map core_form ss) counts) (All-tail (CoreWithin (widths_in es)) (core_form s) (map core_form ss) within) honest h.1,
  )

  safe_first : (a b : Bool) → (a && b) ≡ true → a ≡ true
  safe_first true b e = refl
  safe_first false b e = e

  safe_rest : (a b : Bool) → (a && b) ≡ true → b ≡ true
  safe_rest true b e = e
  safe_rest false b e = absurd cc

  pub all_start : (ss : List SelectCore) (w : WishForm) (answers : List (List Agreement2)) (loops : List (List LoopLevel)) → All (CoreCounts (widths_in es)) (map core_form ss) → All (CoreAlike kss) (map core_form ss) → are_safe_cores ss ≡ true
      → AllAllowed boxes w (cores_offers es ss) answers → AllLevels w (cores_offers es ss) answers loops → Each (CanStart boxes) loops
  all_start [] w [] [] counts alike safe allowed h = tt
  all_start [] w [] (ls ∷ loops) counts alike safe allowed h = absurd h
  all_start [] w (given ∷ answers) loops counts alike safe allowed h = absurd h
  all_start (s ∷ ss) w [] loops counts alike safe allowed h = absurd h
  all_start (s ∷ ss) w (given ∷ answers) [] counts alike safe allowed h = absurd h
  all_start (s ∷ ss) w (given ∷ answers) (ls ∷ loops) counts alike safe allowed h = (
    k.can_start s es kss boxes w given ls (All-head (CoreCounts (widths_in es)) (core_form s) (map core_form ss) counts) (All-head (CoreAlike kss) (core_form s) (map core_form ss) alike) k.places k.typed
        (safe_first (is_safe_from s.from.items) (are_safe_cores ss) safe) allowed.0 h.0,
    all_start ss w answers loops (All-tail (CoreCounts (widths_in es)) (core_form s) (map core_form ss) counts) (All-tail (CoreAlike kss) (core_form s) (map core_form ss) alike)
        (safe_rest (is_safe_from s.from.items) (are_safe_cores ss) safe) allowed.1 h.1,
  )

as_many : (es : List BoundEntry) (ss : List SelectCore) (w : WishForm) (answers : List (List Agreement2)) (loops : List (List LoopLevel)) → AllLevels w (cores_offers es ss) answers loops → length loops ≡ length ss
as_many es [] w [] [] h = refl
as_many es [] w [] (ls ∷ loops) h = absurd h
as_many es [] w (given ∷ answers) loops h = absurd h
as_many es (s ∷ ss) w [] loops h = absurd h
as_many es (s ∷ ss) w (given ∷ answers) [] h = absurd h
as_many es (s ∷ ss) w (given ∷ answers) (ls ∷ loops) h = ap suc (as_many es ss w answers loops h.1)

-- ---- limits

module _ (boxes : List (Option BoxState)) (es : List BoundEntry) (kss : List (List ColType)) (k : Known boxes es kss) (s : Select) (w : WishForm) where
  all_unlimited : (offers : List (List OfferForm)) (answers : List (List Agreement2)) (loops : List (List LoopLevel)) → w.limit ≡ None → AllLevels w offers answers loops → Each (Each IsUnlimited) loops
  all_unlimited [] [] [] none h = tt
  all_unlimited [] [] (ls ∷ loops) none h = absurd h
  all_unlimited [] (given ∷ answers) loops none h = absurd h
  all_unlimited (os ∷ offers) [] loops none h = absurd h
  all_unlimited (os ∷ offers) (given ∷ answers) [] none h = absurd h
  all_unlimited (os ∷ offers) (given ∷ answers) (ls ∷ loops) none h = (k.unwished w os given ls none h.0, all_unlimited offers answers loops none h.1)

  -- a limit is promised of a query of one core alone, and then its rows come in order
  limits : (ss : List SelectCore) (answers : List (List Agreement2)) (loops : List (List LoopLevel)) → s.cores.items ≡ ss → w ≡ wish_of s (cores_offers es ss) → All (CoreCounts (widths_in es)) (map core_form ss)
      → All (CoreWithin (widths_in es)) (map core_form ss) → AllAllowed boxes w (cores_offers es ss) answers → AllLevels w (cores_offers es ss) answers loops
      → Each (Each IsUnlimited) loops ⊎ ((c : SelectCore) × (l : LoopLevel) × (loops ≡ (l ∷ []) ∷ []) × ComesInOrder s c l)
  limits [] answers loops e is counts within allowed h =
      let none : w ≡ no_wish = is ∙ ap (λ (ss : List SelectCore). wish_for s ss []) e in
      inl (all_unlimited [] answers loops (ap (λ (v : WishForm). v.limit) none) h)
  limits (c ∷ d ∷ ss) answers loops e is counts within allowed h =
      let offers = cores_offers es (c ∷ d ∷ ss) in
      let none : w ≡ no_wish = is ∙ ap (λ (cs : List SelectCore). wish_for s cs offers) e in
      inl (all_unlimited offers answers loops (ap (λ (v : WishForm). v.limit) none) h)
  limits (c ∷ []) [] loops e is counts within allowed h = absurd h
  limits (c ∷ []) (given ∷ answers) [] e is counts within allowed h = absurd h
  limits (c ∷ []) (given ∷ []) (ls ∷ m ∷ loops) e is counts within allowed h = absurd h.1
  limits (c ∷ []) (given ∷ a ∷ answers) (ls ∷ loops) e is counts within allowed h = absurd h.1
  limits (c ∷ []) (given ∷ []) (ls ∷ []) e is counts within allowed h =
      split (k.wished s c es boxes w given ls e is (All-head (CoreCounts (widths_in es)) (core_form c) [] counts) (All-head (CoreWithin (widths_in es)) (core_form c) [] within) k.places allowed.0 h.0)
    where
      split : Each IsUnlimited ls ⊎ ComesAlone s c ls → Each (Each IsUnlimited) (ls ∷ []) ⊎ ((c : SelectCore) × (l : LoopLevel) × (ls ∷ [] ≡ (l ∷ []) ∷ []) × ComesInOrder s c l)
      split (inl none) = inl (none, tt)
      split (inr alone) = inr (c, alone.level, ap (λ (m : List LoopLevel). m ∷ []) alone.only, alone.comes)

in_order : (plan : LoopPlan) (s : Select) → plan.select ≡ s
    → Each (Each IsUnlimited) (levels_in plan.loops.items) ⊎ ((c : SelectCore) × (l : LoopLevel) × (levels_in plan.loops.items ≡ (l ∷ []) ∷ []) × ComesInOrder s c l)
    → Each (Each IsUnlimited) (levels_in plan.loops.items) ⊎ PlanInOrder plan
in_order plan s same (inl none) = inl none
in_order plan s same (inr (c, l, levels, comes)) = inr (record { core = c; level = l; levels = levels; comes = subst (λ (q : Select). ComesInOrder q c l) (sym same) comes })

-- ---- the whole

pub plan_for : (boxes : List (Option BoxState)) (bound : BoundQuery) (plan : LoopPlan) (w : WishForm) (answers : List (List Agreement2)) → CountedIsInView → CountedIsWide → PlansCanStart → PlansAreLoopPlans → WishedComeInOrder → UnwishedAreUnlimited → IsReady boxes bound → HasPlaces bound.entries.items
    → plan.select ≡ bound.select → w ≡ query_wish bound → AllAllowed boxes w (query_offers bound) answers → AllLevels w (query_offers bound) answers (levels_in plan.loops.items) → IsPlanFor boxes bound plan
plan_for boxes bound plan w answers in_view counted_wide can_start are_plans wished unwished ready places same is_wish allowed levels = record { query = same; run = run; scans = λ slot. all_scans slot bound.entries.items bound.select.cores.items w answers (levels_in plan.loops.items) ready.counts.numbers levels; agreed = agreed; over = over }
  where
    known : Known boxes bound.entries.items ready.kinds
    known = record { in_view = in_view; counted_wide = counted_wide; can_start = can_start; are_plans = are_plans; wished = wished; unwished = unwished; typed = ready.typed; places = places; wide = ready.wide }

    agreed : AreAgreed boxes bound (levels_in plan.loops.items)
    agreed = record {
      answers = answers;
      allowed = subst (λ (v : WishForm). AllAllowed boxes v (query_offers bound) answers) is_wish allowed;
      levels = subst (λ (v : WishForm). AllLevels v (query_offers bound) answers (levels_in plan.loops.items)) is_wish levels;
    }

    cores : plan.select.cores.items ≡ bound.select.cores.items
    cores = ap (λ (s : _). s.cores.items) same

    run : CanRun boxes plan
    run = record {
      many = (let a = as_many bound.entries.items bound.select.cores.items w answers (levels_in plan.loops.items) levels in let b = length-map plan.loops.items (λ (ls : _). ls.items) in let c = ap (λ (ss : List SelectCore). length ss) cores in omega (arith, a, b, c));
      starts = all_start boxes bound.entries.items ready.kinds known bound.select.cores.items w answers (levels_in plan.loops.items) ready.counts.cores ready.alike ready.safe allowed levels;
      safe = ap are_safe_cores cores ∙ ready.safe;
      limits = in_order plan bound.select same (limits boxes bound.entries.items ready.kinds known bound.select w bound.select.cores.items answers (levels_in plan.loops.items) refl is_wish ready.counts.cores ready.view allowed levels);
    }

    entry_honest : HonestOver (map entry_place bound.entries.items) boxes → (k : ℕ) → k < length bound.entries.items → HonestAt boxes (source_of bound.entries.items k)
    entry_honest honest k lt = honest (source_of bound.entries.items k) (has_slot bound.entries.items k lt)

    over : HonestOver (map entry_place bound.entries.items) boxes → IsPlanOver (entry_rows boxes (map entry_place bound.entries.items)) plan boxes
    over honest = record {
      honest = honest_levels boxes (levels_in plan.loops.items)
          (all_levels_so (λ slot table. HonestAt boxes slot) bound.entries.items bound.select.cores.items w answers (levels_in plan.loops.items) (entry_honest honest) ready.counts.cores levels);
      planned = subst (λ (ss : List SelectCore). ArePlanned (rows_at boxes) (entry_rows boxes (map entry_place bound.entries.items)) ss (levels_in plan.loops.items)) (sym cores)
          (all_planned boxes bound.entries.items ready.kinds known bound.select.cores.items w answers (levels_in plan.loops.items) ready.counts.cores ready.view honest levels);
    }
