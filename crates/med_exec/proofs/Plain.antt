-- The plan of a query whose rows can be shown as they are joined is one whose rows are shown so.
use Rattle.std.proofs.Common.{◌≡◌, ◌∙◌, ◌<◌, ◌+◌, ◌*◌, ℕ, zero, suc, Bool, true, false, not, ◌||◌, ◌&&◌, List, [], ◌∷◌, ◌++◌, Option, Some, None, option_map, map, length, slice_index_or, nat_eq, if◌then◌else◌, refl, sym, ap, subst, arith}
use Rattle.std.specs.List.{list_any}
use Rattle.std.proofs.lemmas.List.{length-map}
use Rattle.tri_expr.specs.declared.expr.Expr.{Expr}
use Rattle.tri_expr.specs.Prelude.{Tree, tree, is_risky, is_risky_tree}
use Rattle.med_query.specs.Form.{CoreForm, GroupForm, core_form, form_of, group_form, group_trees, is_risky_core, is_risky_form}
use Rattle.med_planner.specs.Plain.{IsPlainForm}
use Rattle.med_query.specs.declared.select.Grouping.{Grouping}
use Rattle.med_query.specs.declared.select.SelectCore.{SelectCore}
use Rattle.med_query.specs.declared.select.Select.{Select}
use Rattle.pushdown.specs.Joins.{Each}
use Rattle.fdw_api.specs.State.{BoxState}
use Rattle.scan_loops.specs.Prelude.{one_in, scans_in, all_safe, IsStreamedCore, IsStreamed}
use Rattle.scan_loops.specs.declared.levels.LoopLevel.{LoopLevel}
use Rattle.loop_runs.specs.Gathering.{levels_in, all_levels}
use Rattle.loop_runs.specs.Running.{plan_levels, IsUnordered}
use Rattle.loop_runs.specs.declared.running.LoopPlan.{LoopPlan}
use Rattle.med_binder.specs.Place.{Place, entry_place}
use Rattle.med_binder.specs.declared.bound.BoundEntry.{BoundEntry}
use Rattle.med_binder.specs.declared.bound.BoundQuery.{BoundQuery}
use Rattle.med_exec.specs.BoundCounting.{tables_in, scans_of}
use Rattle.med_exec.specs.BoundRunning.{IsPlanFor}

-- ---- none of a list

or_left : (a b : Bool) → (a || b) ≡ false → a ≡ false
or_left false b e = refl
or_left true b e = absurd cc

or_right : (a b : Bool) → (a || b) ≡ false → b ≡ false
or_right false b e = e
or_right true b e = absurd cc

or_none : (a b : Bool) → a ≡ false → b ≡ false → (a || b) ≡ false
or_none false b e f = f
or_none true b e f = absurd cc

any_left : {A : Type 0} (p : A → Bool) (xs ys : List A) → list_any p (xs ++ ys) ≡ false → list_any p xs ≡ false
any_left p [] ys e = refl
any_left p (x ∷ xs) ys e = or_none (p x) (list_any p xs) (or_left (p x) (list_any p (xs ++ ys)) e) (any_left p xs ys (or_right (p x) (list_any p (xs ++ ys)) e))

any_right : {A : Type 0} (p : A → Bool) (xs ys : List A) → list_any p (xs ++ ys) ≡ false → list_any p ys ≡ false
any_right p [] ys e = e
any_right p (x ∷ xs) ys e = any_right p xs ys (or_right (p x) (list_any p (xs ++ ys)) e)

and_all : (a b : Bool) → a ≡ false → b ≡ true → (not a && b) ≡ true
and_all false b e f = f
and_all true b e f = absurd cc

safe_all : (es : List Expr) → list_any is_risky_tree (map tree es) ≡ false → all_safe es ≡ true
safe_all [] e = refl
safe_all (x ∷ es) e =
    and_all (is_risky x) (all_safe es) (or_left (is_risky x) (list_any is_risky_tree (map tree es)) e) (safe_all es (or_right (is_risky x) (list_any is_risky_tree (map tree es)) e))

-- ---- a query that is streamed

no_group : (g : Option Grouping) (f : Option GroupForm) → f ≡ None → f ≡ option_map group_form g → g ≡ None
no_group None f e is = refl
no_group (Some g) f e is = absurd cc

pub no_keys : (es : List Expr) → map tree es ≡ [] → es ≡ []
no_keys [] e = refl
no_keys (x ∷ es) e = absurd cc

streamed_core : (c : SelectCore) → is_risky_core (core_form c) ≡ false → (core_form c).group ≡ None → c.distinct ≡ false → map tree c.keys.items ≡ [] → IsStreamedCore c
streamed_core c safe ungrouped all_rows keys =
    let f = core_form c in
    let behind : list_any is_risky_tree (group_trees f.group ++ (f.items ++ f.keys)) ≡ false = any_right is_risky_tree f.conditions (group_trees f.group ++ (f.items ++ f.keys)) safe in
    let shown : list_any is_risky_tree (f.items ++ f.keys) ≡ false = any_right is_risky_tree (group_trees f.group) (f.items ++ f.keys) behind in
    record {
      conditions = safe_all c.conditions.items (any_left is_risky_tree f.conditions (group_trees f.group ++ (f.items ++ f.keys)) safe);
      ungrouped = no_group c.grouping f.group ungrouped refl;
      items = safe_all c.items.items (any_left is_risky_tree f.items f.keys shown);
      all_rows = all_rows;
      keys = no_keys c.keys.items keys;
    }

streamed_cores : (cs : List SelectCore) (core : CoreForm) → map core_form cs ≡ core ∷ [] → list_any is_risky_core (map core_form cs) ≡ false → core.group ≡ None → core.distinct ≡ false → core.keys ≡ [] → Each IsStreamedCore cs
streamed_cores [] core is safe ungrouped all_rows keys = absurd cc
streamed_cores (c ∷ []) core is safe ungrouped all_rows keys =
    let same : core ≡ core_form c = cc in (
      streamed_core c (or_left (is_risky_core (core_form c)) false safe) (subst (λ (f : CoreForm). f.group ≡ None) same ungrouped) (subst (λ (f : CoreForm). f.distinct ≡ false) same all_rows) (subst (λ (f : CoreForm). f.keys ≡ []) same keys),
      tt,
    )
streamed_cores (c ∷ d ∷ cs) core is safe ungrouped all_rows keys = absurd cc

no_directions : {A B : Type 0} (f : A → B) (xs : List A) → map f xs ≡ [] → xs ≡ []
no_directions f [] e = refl
no_directions f (x ∷ xs) e = absurd cc

streamed : (s : Select) → IsPlainForm (form_of s) → is_risky_form (form_of s) ≡ false → IsStreamed s
streamed s plain safe = record {
  cores = streamed_cores s.cores.items plain.core plain.alone safe plain.ungrouped plain.all_rows plain.keys;
  directions = no_directions _ s.directions.items plain.unordered;
}

one_core : (cs : List SelectCore) (core : CoreForm) → map core_form cs ≡ core ∷ [] → length cs ≡ 1
one_core [] core is = absurd cc
one_core (c ∷ []) core is = refl
one_core (c ∷ d ∷ cs) core is = absurd cc

-- ---- its plan has a level

same_slot : (n : ℕ) → nat_eq n n ≡ true
same_slot n = grind arith

-- as many as one
abbrev one_if : Bool → ℕ
one_if b = if b then 1 else 0

one_here : (n : ℕ) → one_if (nat_eq n n) ≡ suc zero
one_here n = ap one_if (same_slot n)

some_level : (lists : List (List LoopLevel)) (es : List BoundEntry) → length lists ≡ 1 → 0 < length es → ((slot : ℕ) → scans_in (all_levels lists) slot ≡ tables_in slot (map entry_place es)) → 0 < length (slice_index_or lists 0 [])
some_level [] es one some counts = absurd cc
some_level (ls ∷ more) [] one some counts = absurd (omega arith)
some_level ([] ∷ []) (e ∷ es) one some counts =
    let here : zero ≡ one_if (nat_eq e.source e.source) + tables_in e.source (map entry_place es) = counts e.source in
    let there : one_if (nat_eq e.source e.source) ≡ suc zero = one_here e.source in
    absurd (omega (arith, here, there))
some_level ((l ∷ ls) ∷ more) (e ∷ es) one some counts = omega arith
some_level ([] ∷ ls ∷ more) (e ∷ es) one some counts = absurd cc

pub unordered : (boxes : List (Option BoxState)) (b : BoundQuery) (plan : LoopPlan) → IsPlanFor boxes b plan → IsPlainForm (form_of b.select) → is_risky_form (form_of b.select) ≡ false → 0 < length b.entries.items → IsUnordered plan
unordered boxes b plan made plain safe some =
    let bound_one : length b.select.cores.items ≡ 1 = one_core b.select.cores.items plain.core plain.alone in
    let one : length plan.select.cores.items ≡ 1 = ap (λ (s : Select). length s.cores.items) made.query ∙ bound_one in
    let loops : length plan.loops.items ≡ 1 = made.run.many ∙ one in
    record {
      core = one;
      loops = loops;
      some = some_level (levels_in plan.loops.items) b.entries.items (length-map plan.loops.items (λ ls. ls.items) ∙ loops) some made.scans;
      streamed = subst (λ (s : Select). IsStreamed s) (sym made.query) (streamed b.select plain safe);
    }
