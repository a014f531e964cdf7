-- The conjuncts that levels check may not fault.
use Rattle.std.proofs.Common.{◌≡◌, ℕ, Bool, true, false, not, ◌||◌, cond, List, [], ◌∷◌, ◌++◌, map, refl, ap, ◌∙◌}
use Rattle.std.specs.List.{flat_map, filter, list_all}
use Rattle.tri_expr.specs.Prelude.{Tree, Trees, column, parameter, literal, compare, compute, negate, all_of, some_of, opposite, asks, between, within, matches, parenthesised, count_rows, aggregate, none, part, adds_up, is_risky_tree, has_risky_tree}
use Rattle.tri_expr.proofs.Forms.{two, three}
use Rattle.med_query.specs.Form.{JoinForm, cross_form, inner_form, left_form, ChainForm, core_form, all_safe_trees, is_safe_join_form, are_safe_chains}
use Rattle.med_binder.specs.declared.bound.BoundEntry.{BoundEntry}
use Rattle.fdw_api.specs.declared.scan.Agree.{Agree}
use Rattle.fdw_api.specs.Wishes.{WishForm}
use Rattle.fdw_api.specs.declared.wishes.Agreement2.{Agreement2}
use Rattle.pushdown.specs.Joins.{Each}
use Rattle.pushdown.specs.Offers.{stays_by, later_by, marks_behind, again_by}
use Rattle.scan_loops.specs.declared.levels.LoopLevel.{LoopLevel}
use Rattle.med_planner.specs.Places.{further, shifted, moved, all_moved}
use Rattle.med_planner.specs.Flat.{Part, join_part, inner_ons, end_after, chain_parts, from_parts, from_ons, safe_trees}
use Rattle.med_planner.specs.Offered.{decided, undecided, offer_of, offers_from, core_reads, IsLevelOf, AreLevels}
use Rattle.med_planner.specs.Plans.{ChecksSafe, PlansAreSafe}
use Rattle.med_planner.proofs.Pulling.{and_left, and_right, and_whole}

-- none of these may fault
abbrev AllSafe : List Tree → Type 0
AllSafe ts = all_safe_trees ts ≡ true

mutual
  moved_risk : (f : ℕ → ℕ) (t : Tree) → is_risky_tree (moved f t) ≡ is_risky_tree t
  moved_risk f (column at) = refl
  moved_risk f (parameter at) = refl
  moved_risk f (literal v) = refl
  moved_risk f (compare op a b) = two (λ (p q : Bool). p || q) (moved_risk f a) (moved_risk f b)
  moved_risk f (compute op a b) = refl
  moved_risk f (negate a) = refl
  moved_risk f (all_of ts) = all_moved_risk f ts
  moved_risk f (some_of ts) = all_moved_risk f ts
  moved_risk f (opposite a) = moved_risk f a
  moved_risk f (asks t negative a) = moved_risk f a
  moved_risk f (between negative x a b) = three (λ (p q r : Bool). p || (q || r)) (moved_risk f x) (moved_risk f a) (moved_risk f b)
  moved_risk f (within negative x ts) = two (λ (p q : Bool). p || q) (moved_risk f x) (all_moved_risk f ts)
  moved_risk f (matches negative x pattern) = moved_risk f x
  moved_risk f (parenthesised a) = moved_risk f a
  moved_risk f count_rows = refl
  moved_risk f (aggregate function a) = ap (λ (p : Bool). adds_up function || p) (moved_risk f a)

  all_moved_risk : (f : ℕ → ℕ) (ts : Trees) → has_risky_tree (all_moved f ts) ≡ has_risky_tree ts
  all_moved_risk f none = refl
  all_moved_risk f (part t ts) = two (λ (p q : Bool). p || q) (moved_risk f t) (all_moved_risk f ts)

shifted_safe : (base : ℕ) (ts : List Tree) → AllSafe ts → AllSafe (map (shifted base) ts)
shifted_safe base [] h = refl
shifted_safe base (t ∷ ts) h =
    let risk : not (is_risky_tree (shifted base t)) ≡ not (is_risky_tree t) = ap not (moved_risk (further base) t) in
    and_whole (not (is_risky_tree (shifted base t))) (all_safe_trees (map (shifted base) ts)) (risk ∙ and_left (not (is_risky_tree t)) (all_safe_trees ts) h) (shifted_safe base ts (and_right (not (is_risky_tree t)) (all_safe_trees ts) h))

filtered_safe : (p : Tree → Bool) (ts : List Tree) → AllSafe ts → AllSafe (filter p ts)
filtered_safe p [] h = refl
filtered_safe p (t ∷ ts) h = step (p t) (and_left (not (is_risky_tree t)) (all_safe_trees ts) h) (filtered_safe p ts (and_right (not (is_risky_tree t)) (all_safe_trees ts) h))
  where
    step : (b : Bool) → not (is_risky_tree t) ≡ true → AllSafe (filter p ts) → AllSafe (cond b (t ∷ filter p ts) (filter p ts))
    step true e i = and_whole (not (is_risky_tree t)) (all_safe_trees (filter p ts)) e i
    step false e i = i

safe_are_safe : (ts : List Tree) → AllSafe (safe_trees ts)
safe_are_safe [] = refl
safe_are_safe (t ∷ ts) = step (not (is_risky_tree t)) refl (safe_are_safe ts)
  where
    step : (b : Bool) → not (is_risky_tree t) ≡ b → AllSafe (safe_trees ts) → AllSafe (cond b (t ∷ safe_trees ts) (safe_trees ts))
    step true e i = and_whole (not (is_risky_tree t)) (all_safe_trees (safe_trees ts)) e i
    step false e i = i

again_safe : (marks : List Bool) (answers : List Agree) (ts : List Tree) → AllSafe ts → AllSafe (again_by marks answers ts)
again_safe marks answers [] h = refl
again_safe marks answers (t ∷ ts) h = step (stays_by marks answers) (and_left (not (is_risky_tree t)) (all_safe_trees ts) h) (again_safe (marks_behind marks) (later_by marks answers) ts (and_right (not (is_risky_tree t)) (all_safe_trees ts) h))
  where
    step : (b : Bool) → not (is_risky_tree t) ≡ true → AllSafe (again_by (marks_behind marks) (later_by marks answers) ts)
        → AllSafe (cond b (t ∷ again_by (marks_behind marks) (later_by marks answers) ts) (again_by (marks_behind marks) (later_by marks answers) ts))
    step true e i = and_whole (not (is_risky_tree t)) (all_safe_trees (again_by (marks_behind marks) (later_by marks answers) ts)) e i
    step false e i = i

both_safe : (ts us : List Tree) → AllSafe ts → AllSafe us → AllSafe (ts ++ us)
both_safe [] us h i = i
both_safe (t ∷ ts) us h i = and_whole (not (is_risky_tree t)) (all_safe_trees (ts ++ us)) (and_left (not (is_risky_tree t)) (all_safe_trees ts) h) (both_safe ts us (and_right (not (is_risky_tree t)) (all_safe_trees ts) h) i)

chosen_safe : (b : Bool) (ts us : List Tree) → AllSafe ts → AllSafe us → AllSafe (cond b ts us)
chosen_safe true ts us h i = h
chosen_safe false ts us h i = i

-- ---- FROM

pub each_both : {X : Type 0} (P : X → Type 0) (xs ys : List X) → Each P xs → Each P ys → Each P (xs ++ ys)
each_both P [] ys a b = b
each_both P (x ∷ xs) ys a b = (a.0, each_both P xs ys a.1 b)

abbrev HasSafeOn : Part → Type 0
HasSafeOn p = AllSafe p.on

module _ (es : List BoundEntry) where
  join_on : (base : ℕ) (j : JoinForm) → is_safe_join_form j ≡ true → HasSafeOn (join_part es base j)
  join_on base (cross_form t) h = refl
  join_on base (inner_form t on) h = refl
  join_on base (left_form t width on) h = shifted_safe base on h

  join_ons : (base : ℕ) (j : JoinForm) → is_safe_join_form j ≡ true → AllSafe (inner_ons base j)
  join_ons base (cross_form t) h = refl
  join_ons base (inner_form t on) h = shifted_safe base on h
  join_ons base (left_form t width on) h = refl

  joins_on : (base : ℕ) (js : List JoinForm) → list_all is_safe_join_form js ≡ true → Each HasSafeOn (map (join_part es base) js)
  joins_on base [] h = tt
  joins_on base (j ∷ js) h = (join_on base j (and_left (is_safe_join_form j) (list_all is_safe_join_form js) h), joins_on base js (and_right (is_safe_join_form j) (list_all is_safe_join_form js) h))

  joins_ons : (base : ℕ) (js : List JoinForm) → list_all is_safe_join_form js ≡ true → AllSafe (flat_map (inner_ons base) js)
  joins_ons base [] h = refl
  joins_ons base (j ∷ js) h =
      both_safe (inner_ons base j) (flat_map (inner_ons base) js) (join_ons base j (and_left (is_safe_join_form j) (list_all is_safe_join_form js) h)) (joins_ons base js (and_right (is_safe_join_form j) (list_all is_safe_join_form js) h))

  from_on : (base : ℕ) (cs : List ChainForm) → are_safe_chains cs ≡ true → Each HasSafeOn (from_parts es base cs)
  from_on base [] h = tt
  from_on base (c ∷ cs) h =
      let end = end_after base (chain_parts es base c) in
      (refl, each_both HasSafeOn (map (join_part es base) c.joins) (from_parts es end cs) (joins_on base c.joins (and_left (list_all is_safe_join_form c.joins) (are_safe_chains cs) h)) (from_on end cs (and_right (list_all is_safe_join_form c.joins) (are_safe_chains cs) h)))

  ons_safe : (base : ℕ) (cs : List ChainForm) → are_safe_chains cs ≡ true → AllSafe (from_ons es base cs)
  ons_safe base [] h = refl
  ons_safe base (c ∷ cs) h =
      let end = end_after base (chain_parts es base c) in
      both_safe (flat_map (inner_ons base) c.joins) (from_ons es end cs) (joins_ons base c.joins (and_left (list_all is_safe_join_form c.joins) (are_safe_chains cs) h)) (ons_safe end cs (and_right (list_all is_safe_join_form c.joins) (are_safe_chains cs) h))

  -- ---- levels

  one_safe : (w : WishForm) (read : List ℕ) (base : ℕ) (p : Part) (now : List Tree) (a : Agreement2) (l : LoopLevel) → HasSafeOn p → AllSafe now → IsLevelOf w (offer_of es read base p now) a l → ChecksSafe l
  one_safe w read base p now a l on safe is =
      let o = offer_of es read base p now in
      record {
        on = ap all_safe_trees is.on ∙ chosen_safe p.outer (again_by o.offered a.base.answers.items p.on) [] (again_safe o.offered a.base.answers.items p.on on) refl;
        conditions = ap all_safe_trees is.conditions ∙ chosen_safe p.outer now (again_by o.offered a.base.answers.items now) safe (again_safe o.offered a.base.answers.items now safe);
      }

  levels_safe : (w : WishForm) (read : List ℕ) (base : ℕ) (cs : List Tree) (ps : List Part) (answers : List Agreement2) (ls : List LoopLevel) → Each HasSafeOn ps → AllSafe cs → AreLevels w (offers_from es read base cs ps) answers ls → Each ChecksSafe ls
  levels_safe w read base cs [] [] [] on safe h = tt
  levels_safe w read base cs [] [] (l ∷ ls) on safe h = absurd h
  levels_safe w read base cs [] (a ∷ answers) ls on safe h = absurd h
  levels_safe w read base cs (p ∷ ps) [] ls on safe h = absurd h
  levels_safe w read base cs (p ∷ ps) (a ∷ answers) [] on safe h = absurd h
  levels_safe w read base cs (p ∷ ps) (a ∷ answers) (l ∷ ls) on safe h =
      let end = further p.width base in
      (one_safe w read base p (decided end cs) a l on.0 (filtered_safe _ cs safe) h.0, levels_safe w read end (undecided end cs) ps answers ls on.1 (filtered_safe _ cs safe) h.1)

pub safe_plans : PlansAreSafe
safe_plans s es w answers ls h levels =
    levels_safe es w (core_reads es (core_form s)) 0 (from_ons es 0 (core_form s).from ++ safe_trees (core_form s).conditions) (from_parts es 0 (core_form s).from) answers ls
    (from_on es 0 (core_form s).from h) (both_safe (from_ons es 0 (core_form s).from) (safe_trees (core_form s).conditions) (ons_safe es 0 (core_form s).from h) (safe_are_safe (core_form s).conditions)) levels
