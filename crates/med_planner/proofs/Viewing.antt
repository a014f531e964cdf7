-- The columns that a bound core reads are in view of its plan.
use Rattle.std.proofs.Common.{◌≡◌, ℕ, suc, ◌+◌, ◌-◌, ◌<◌, ◌≤◌, Bool, true, false, not, nat_lt, cond, List, [], ◌∷◌, ◌++◌, map, length, All, sum, refl, sym, ap, ◌∙◌, subst, arith, min}
use Rattle.std.specs.List.{list_all}
use Rattle.std.proofs.lemmas.List.{map-append}
use Rattle.std.proofs.lemmas.List.Elements.{All-head, All-tail}
use Rattle.tri_expr.specs.Prelude.{Tree, Trees, column, parameter, literal, compare, compute, negate, all_of, some_of, opposite, asks, between, within, matches, parenthesised, count_rows, aggregate, none, part, is_risky_tree}
use Rattle.tri_expr.proofs.Forms.{two}
use Rattle.med_query.specs.Form.{JoinForm, cross_form, inner_form, left_form, ChainForm}
use Rattle.med_binder.specs.declared.bound.BoundEntry.{BoundEntry}
use Rattle.med_binder.specs.Prelude.{core_numbers, core_widths, IsWithin, AreWithin, width_between, JoinWithin, ChainWithin}
use Rattle.pushdown.specs.Joins.{Each}
use Rattle.pushdown.specs.Columns.{columns_in, columns_in_all}
use Rattle.med_planner.specs.Places.{further, moved, all_moved, shifted}
use Rattle.med_planner.specs.Flat.{Part, width_of, join_part, inner_ons, end_after, chain_parts, from_parts, safe_trees}
use Rattle.med_planner.specs.Offered.{is_within}
use Rattle.med_planner.specs.Plans.{AllWithin, JoinsInView, FromInView}
use Rattle.med_planner.specs.Premises.{widths_in, HasPlaces, CountedIsInView}
use Rattle.med_planner.proofs.Pulling.{and_whole, below_test}
use Rattle.med_planner.proofs.Safe.{each_both}
use Rattle.med_planner.proofs.Stretches.{stretch, length_stretch, inner_stretch}
use Rattle.med_planner.proofs.Counting.{most, up_to, none_first, seen, AreCounted, entry_end, skip, own_widths, own_are, own_counted, own_small, from_end, from_small}

-- ---- one expression

abbrev pub Below : ℕ → List ℕ → Type 0
Below w columns = Each (λ at. at < w) columns

both_below : (w : ℕ) (a b : List ℕ) → Below w a → Below w b → Below w (a ++ b)
both_below w a b h i = each_both (λ at. at < w) a b h i

mutual
  pub columns_below : (w : ℕ) (t : Tree) → IsWithin w t → Below w (columns_in t)
  columns_below w (column at) h = (h, tt)
  columns_below w (parameter at) h = tt
  columns_below w (literal v) h = tt
  columns_below w (compare op a b) h = both_below w (columns_in a) (columns_in b) (columns_below w a h.0) (columns_below w b h.1)
  columns_below w (compute op a b) h = both_below w (columns_in a) (columns_in b) (columns_below w a h.0) (columns_below w b h.1)
  columns_below w (negate a) h = columns_below w a h
  columns_below w (all_of ts) h = all_below w ts h
  columns_below w (some_of ts) h = all_below w ts h
  columns_below w (opposite a) h = columns_below w a h
  columns_below w (asks t negative a) h = columns_below w a h
  columns_below w (between negative x a b) h =
      both_below w (columns_in x) (columns_in a ++ columns_in b) (columns_below w x h.0) (both_below w (columns_in a) (columns_in b) (columns_below w a h.1) (columns_below w b h.2))
  columns_below w (within negative x ts) h = both_below w (columns_in x) (columns_in_all ts) (columns_below w x h.0) (all_below w ts h.1)
  columns_below w (matches negative x pattern) h = columns_below w x h
  columns_below w (parenthesised a) h = columns_below w a h
  columns_below w count_rows h = tt
  columns_below w (aggregate function a) h = columns_below w a h

  all_below : (w : ℕ) (ts : Trees) → AreWithin w ts → Below w (columns_in_all ts)
  all_below w none h = tt
  all_below w (part t ts) h = both_below w (columns_in t) (columns_in_all ts) (columns_below w t h.0) (all_below w ts h.1)

both_moved : (f : ℕ → ℕ) (a b c d : List ℕ) → a ≡ map f c → b ≡ map f d → a ++ b ≡ map f (c ++ d)
both_moved f a b c d e h = two (λ (x y : List ℕ). x ++ y) e h ∙ sym (map-append f c d)

mutual
  columns_moved : (f : ℕ → ℕ) (t : Tree) → columns_in (moved f t) ≡ map f (columns_in t)
  columns_moved f (column at) = refl
  columns_moved f (parameter at) = refl
  columns_moved f (literal v) = refl
  columns_moved f (compare op a b) = both_moved f (columns_in (moved f a)) (columns_in (moved f b)) (columns_in a) (columns_in b) (columns_moved f a) (columns_moved f b)
  columns_moved f (compute op a b) = both_moved f (columns_in (moved f a)) (columns_in (moved f b)) (columns_in a) (columns_in b) (columns_moved f a) (columns_moved f b)
  columns_moved f (negate a) = columns_moved f a
  columns_moved f (all_of ts) = all_columns_moved f ts
  columns_moved f (some_of ts) = all_columns_moved f ts
  columns_moved f (opposite a) = columns_moved f a
  columns_moved f (asks t negative a) = columns_moved f a
  columns_moved f (between negative x a b) =
      both_moved f (columns_in (moved f x)) (columns_in (moved f a) ++ columns_in (moved f b)) (columns_in x) (columns_in a ++ columns_in b) (columns_moved f x)
      (both_moved f (columns_in (moved f a)) (columns_in (moved f b)) (columns_in a) (columns_in b) (columns_moved f a) (columns_moved f b))
  columns_moved f (within negative x ts) = both_moved f (columns_in (moved f x)) (columns_in_all (all_moved f ts)) (columns_in x) (columns_in_all ts) (columns_moved f x) (all_columns_moved f ts)
  columns_moved f (matches negative x pattern) = columns_moved f x
  columns_moved f (parenthesised a) = columns_moved f a
  columns_moved f count_rows = refl
  columns_moved f (aggregate function a) = columns_moved f a

  all_columns_moved : (f : ℕ → ℕ) (ts : Trees) → columns_in_all (all_moved f ts) ≡ map f (columns_in_all ts)
  all_columns_moved f none = refl
  all_columns_moved f (part t ts) = both_moved f (columns_in (moved f t)) (columns_in_all (all_moved f ts)) (columns_in t) (columns_in_all ts) (columns_moved f t) (all_columns_moved f ts)

-- the test of each column, as it stands and further on
all_tested : (w : ℕ) (columns : List ℕ) → Below w columns → list_all (λ at. nat_lt at w) columns ≡ true
all_tested w [] h = refl
all_tested w (at ∷ columns) h = and_whole (nat_lt at w) (list_all (λ at. nat_lt at w) columns) (below_test at w h.0) (all_tested w columns h.1)

least_below : (at base w end m : ℕ) → at < w → w + base ≤ end → min (at + base) m < end
least_below at base w end m h le = omega (arith, h, le)

all_further : (base w end : ℕ) → w + base ≤ end → (columns : List ℕ) → Below w columns → list_all (λ at. nat_lt at end) (map (further base) columns) ≡ true
all_further base w end le [] h = refl
all_further base w end le (at ∷ columns) h =
    and_whole (nat_lt (further base at) end) (list_all (λ at. nat_lt at end) (map (further base) columns)) (below_test (further base at) end (least_below at base w end most h.0 le)) (all_further base w end le columns h.1)

one_shifted : (base w end : ℕ) → w + base ≤ end → (t : Tree) → IsWithin w t → is_within end (shifted base t) ≡ true
one_shifted base w end le t h = ap (list_all (λ at. nat_lt at end)) (columns_moved (further base) t) ∙ all_further base w end le (columns_in t) (columns_below w t h)

all_shifted : (base w end : ℕ) → w + base ≤ end → (on : List Tree) → All (IsWithin w) on → AllWithin end (map (shifted base) on)
all_shifted base w end le [] h = refl
all_shifted base w end le (t ∷ on) h =
    and_whole (is_within end (shifted base t)) (list_all (is_within end) (map (shifted base) on)) (one_shifted base w end le t (All-head (IsWithin w) t on h)) (all_shifted base w end le on (All-tail (IsWithin w) t on h))

safe_within : (w : ℕ) (ts : List Tree) → All (IsWithin w) ts → AllWithin w (safe_trees ts)
safe_within w [] h = refl
safe_within w (t ∷ ts) h = step (not (is_risky_tree t)) (safe_within w ts (All-tail (IsWithin w) t ts h))
  where
    step : (b : Bool) → AllWithin w (safe_trees ts) → AllWithin w (cond b (t ∷ safe_trees ts) (safe_trees ts))
    step true i = and_whole (is_within w t) (list_all (is_within w) (safe_trees ts)) (all_tested w (columns_in t) (columns_below w t (All-head (IsWithin w) t ts h))) i
    step false i = i

-- ---- FROM

module _ (es : List BoundEntry) (start n : ℕ) where
  abbrev ws : List ℕ
  ws = widths_in es

  -- how many columns each entry of the core has
  abbrev mine : List ℕ
  mine = stretch ws start n

  -- an ON sees entries of its own core
  between_is : (first k t : ℕ) → first ≤ k → k < n → t ≡ start + k → width_between ws (start + first) t ≡ width_between mine first k
  between_is first k t le lt e =
      let m : suc t - (start + first) ≡ suc k - first = omega (arith, e, le) in
      ap (λ (i : ℕ). sum (stretch ws (start + first) i)) m ∙ sym (ap sum (inner_stretch ws start n first (suc k - first) (omega (arith, le, lt))))

  module _ (long : length mine ≡ n) (places : sum mine < most) where
    one_view : (base first k end : ℕ) (j : JoinForm) → first ≤ k → k < n → base ≡ up_to mine first → end ≡ up_to mine (suc k) → (join_part es base j).table ≡ start + k → JoinWithin ws (start + first) j → AllWithin end (inner_ons base j)
    one_view base first k end (cross_form t) le lt b e at h = refl
    one_view base first k end (inner_form t on) le lt b e at h =
        let s = seen mine first k le in
        let same = between_is first k t le lt at in
        all_shifted base (width_between ws (start + first) t) end (omega (arith, s, b, e, same)) on h
    one_view base first k end (left_form t width on) le lt b e at h = refl

    joins_view : (base first k at : ℕ) (js : List JoinForm) (ps : List Part) → first ≤ k → base ≡ up_to mine first → at ≡ up_to mine k → AreCounted start mine k (map (join_part es base) js ++ ps) → All (JoinWithin ws (start + first)) js → JoinsInView es base at js
    joins_view base first k at [] ps le b e counted h = tt
    joins_view base first k at (j ∷ js) ps le b e counted h =
        let p = join_part es base j in
        let lt = counted.2 in
        let end : further p.width at ≡ up_to mine (suc k) = ap (further p.width) e ∙ entry_end start mine places k p.width counted.2 counted.1 in (
          one_view base first k (further p.width at) j le (omega (arith, lt, long)) b end counted.0 (All-head (JoinWithin ws (start + first)) j js h),
          joins_view base first (suc k) (further p.width at) js ps (omega (arith, le)) b end counted.3 (All-tail (JoinWithin ws (start + first)) j js h),
        )

    chains_view : (base k : ℕ) (cs : List ChainForm) → base ≡ up_to mine k → AreCounted start mine k (from_parts es base cs) → All (ChainWithin ws) cs → FromInView es base cs
    chains_view base k [] b counted h = tt
    chains_view base k (c ∷ cs) b counted h =
        let end = end_after base (chain_parts es base c) in
        let rest = skip start mine places k (chain_parts es base c) (from_parts es end cs) counted in
        let at : further (width_of es c.first) base ≡ up_to mine (suc k) = ap (further (width_of es c.first)) b ∙ entry_end start mine places k (width_of es c.first) counted.2 counted.1 in
        let on : All (JoinWithin ws (start + k)) c.joins = subst (λ (i : ℕ). All (JoinWithin ws i) c.joins) counted.0 (All-head (ChainWithin ws) c cs h) in (
          joins_view base k (suc k) (further (width_of es c.first) base) c.joins (from_parts es end cs) (omega arith) b at counted.3 on,
          chains_view end rest.0 cs (ap (λ (n : ℕ). end_after n (chain_parts es base c)) b ∙ rest.1) rest.2 (All-tail (ChainWithin ws) c cs h),
        )

pub in_view : CountedIsInView
in_view es f counts seen_by places some =
    let mine = own_widths es f counts in
    record {
      some = some;
      small = from_small es f counts places;
      joins = chains_view es counts.first (length (core_numbers f)) (length_stretch (widths_in es) counts.first (length (core_numbers f)) counts.among) (own_small es f counts places) 0 0 f.from (sym (none_first mine)) (own_counted es f counts) seen_by.joins;
      conditions = subst (λ (m : ℕ). AllWithin m (safe_trees f.conditions)) (ap sum (own_are es f counts) ∙ sym (from_end es f counts places)) (safe_within (sum (core_widths (widths_in es) f)) f.conditions seen_by.conditions);
    }
