-- The entries of FROM, counted through its chains, and the places at which their columns stand.
use Rattle.std.proofs.Common.{◌≡◌, ℕ, zero, suc, ◌+◌, ◌-◌, ◌^◌, ◌<◌, ◌≤◌, List, [], ◌∷◌, ◌++◌, map, length, get_or, take, drop, All, sum, flat_map, refl, sym, ap, ◌∙◌, subst, arith, add-one}
use Rattle.std.specs.List.{range_with_len}
use Rattle.std.proofs.lemmas.List.Sums.{sum_by-cons}
use Rattle.std.proofs.lemmas.List.Elements.{All-head, All-tail}
use Rattle.std.proofs.lemmas.Option.{get_or_from_slice_get}
use Rattle.med_query.specs.Form.{JoinForm, cross_form, inner_form, left_form, ChainForm, CoreForm}
use Rattle.med_binder.specs.declared.bound.BoundEntry.{BoundEntry}
use Rattle.med_binder.specs.Prelude.{joined_number, chain_numbers, core_numbers, core_widths, SaysWidth, CoreCounts, width_between}
use Rattle.med_planner.specs.Places.{further}
use Rattle.med_planner.specs.Flat.{Part, width_of, inner_part, join_part, end_after, chain_parts, from_parts}
use Rattle.med_planner.specs.Premises.{widths_in, HasPlaces}
use Rattle.med_planner.proofs.Stretches.{stretch, picked, length_stretch, at_stretch}

abbrev pub most : ℕ
most = 2 ^ 64 - 1

-- ---- how many columns the first entries have

abbrev pub up_to : List ℕ → ℕ → ℕ
up_to [] k = 0
up_to (w ∷ ws) zero = 0
up_to (w ∷ ws) (suc k) = w + up_to ws k

pub none_first : (ws : List ℕ) → up_to ws 0 ≡ 0
none_first [] = refl
none_first (w ∷ ws) = refl

pub sum_cons : (w : ℕ) (ws : List ℕ) → sum (w ∷ ws) ≡ w + sum ws
sum_cons w ws = sum_by-cons (λ x. x) w ws

pub one_more : (ws : List ℕ) (k : ℕ) → k < length ws → up_to ws (suc k) ≡ up_to ws k + get_or ws k 0
one_more [] k h = absurd (omega (arith, h))
one_more (w ∷ ws) zero h = let e = none_first ws in omega (arith, e)
one_more (w ∷ ws) (suc k) h = let e = one_more ws k (omega (arith, h)) in omega (arith, e)

pub all_of_them : (ws : List ℕ) → up_to ws (length ws) ≡ sum ws
all_of_them [] = refl
all_of_them (w ∷ ws) = ap (λ (n : ℕ). w + n) (all_of_them ws) ∙ sym (sum_cons w ws)

pub below_sum : (ws : List ℕ) (k : ℕ) → up_to ws k ≤ sum ws
below_sum [] k = omega arith
below_sum (w ∷ ws) zero = omega arith
below_sum (w ∷ ws) (suc k) = let i = below_sum ws k in let e = sum_cons w ws in omega (arith, i, e)

sum_taken : (ws : List ℕ) (k : ℕ) → sum (take k ws) ≡ up_to ws k
sum_taken [] zero = refl
sum_taken [] (suc k) = refl
sum_taken (w ∷ ws) zero = refl
sum_taken (w ∷ ws) (suc k) = sum_cons w (take k ws) ∙ ap (λ (n : ℕ). w + n) (sum_taken ws k)

sum_between : (ws : List ℕ) (first n : ℕ) → sum (take n (drop first ws)) + up_to ws first ≡ up_to ws (first + n)
sum_between [] zero zero = refl
sum_between [] zero (suc n) = refl
sum_between [] (suc first) zero = refl
sum_between [] (suc first) (suc n) = refl
sum_between (w ∷ ws) zero n = let e = sum_taken (w ∷ ws) n in let k : 0 + n ≡ n = omega arith in let z = ap (up_to (w ∷ ws)) k in omega (arith, e, z)
sum_between (w ∷ ws) (suc first) n =
    let i = sum_between ws first n in
    let k : suc first + n ≡ suc (first + n) = omega arith in
    let z = ap (up_to (w ∷ ws)) k in
    omega (arith, i, z)

-- what a join of a chain sees ends where its own entry does
pub seen : (ws : List ℕ) (first number : ℕ) → first ≤ number → width_between ws first number + up_to ws first ≡ up_to ws (suc number)
seen ws first number le = let k : first + (suc number - first) ≡ suc number = omega (arith, le) in sum_between ws first (suc number - first) ∙ ap (up_to ws) k

-- no more than all of them
pub stretch_below : (ws : List ℕ) (first n : ℕ) → sum (stretch ws first n) ≤ sum ws
stretch_below ws first n = let e = sum_between ws first n in let b = below_sum ws (first + n) in omega (arith, e, b)

-- ---- entries are counted

-- the entries of a core have the numbers from its first one on, and as many columns as is said of them
abbrev pub AreCounted : ℕ → List ℕ → ℕ → List Part → Type 0
AreCounted first ws k [] = k ≡ length ws
AreCounted first ws k (p ∷ ps) = (p.table ≡ first + k) × (p.width ≡ get_or ws k 0) × (k < length ws) × AreCounted first ws (suc k) ps

module _ (es : List BoundEntry) (first n : ℕ) (among : first + n ≤ length (widths_in es)) where
  abbrev ws : List ℕ
  ws = widths_in es

  abbrev mine : List ℕ
  mine = stretch ws first n

  as_many : length mine ≡ n
  as_many = length_stretch ws first n among

  one_part : (base k : ℕ) (j : JoinForm) → joined_number j ≡ k → SaysWidth ws j → ((join_part es base j).table ≡ k) × ((join_part es base j).width ≡ get_or ws k 0)
  one_part base k (cross_form t) e says = (e, ap (λ (n : ℕ). get_or ws n 0) e)
  one_part base k (inner_form t on) e says = (e, ap (λ (n : ℕ). get_or ws n 0) e)
  one_part base k (left_form t width on) e says = (e, sym (get_or_from_slice_get ws t width 0 says) ∙ ap (λ (n : ℕ). get_or ws n 0) e)

  -- what the numbers behind a place say of the entries there
  abbrev Counts : List ℕ → List Part → Type 0
  Counts numbers ps = (k m : ℕ) → numbers ≡ range_with_len (first + k) m → k + m ≡ n → AreCounted first mine k ps

  none_counted : Counts [] []
  none_counted k zero e total = let a = as_many in omega (arith, total, a)
  none_counted k (suc m) e total = absurd cc

  one_counted : (p : Part) (ps : List Part) (number : ℕ) (numbers : List ℕ) → ((k : ℕ) → number ≡ k → (p.table ≡ k) × (p.width ≡ get_or ws k 0)) → Counts numbers ps → Counts (number ∷ numbers) (p ∷ ps)
  one_counted p ps number numbers is rest k zero e total = absurd cc
  one_counted p ps number numbers is rest k (suc m) e total =
      let here : number ≡ first + k = cc in
      let others : numbers ≡ range_with_len (first + k + 1) m = cc in
      let one = is (first + k) here in
      let a = as_many in
      let next : first + k + 1 ≡ first + suc k = omega arith in (
        one.0,
        one.1 ∙ sym (at_stretch ws 0 first n k (omega (arith, total))),
        omega (arith, total, a),
        rest (suc k) m (others ∙ ap (λ (i : ℕ). range_with_len i m) next) (omega (arith, total)),
      )

  joins_counted : (base : ℕ) (js : List JoinForm) (ps : List Part) (later : List ℕ) → All (SaysWidth ws) js → Counts later ps → Counts (map joined_number js ++ later) (map (join_part es base) js ++ ps)
  joins_counted base [] ps later says rest = rest
  joins_counted base (j ∷ js) ps later says rest =
      one_counted (join_part es base j) (map (join_part es base) js ++ ps) (joined_number j) (map joined_number js ++ later)
      (λ k e. one_part base k j e (All-head (SaysWidth ws) j js says))
      (joins_counted base js ps later (All-tail (SaysWidth ws) j js says) rest)

  chains_counted : (base : ℕ) (cs : List ChainForm) → All (λ (c : ChainForm). All (SaysWidth ws) c.joins) cs → Counts (flat_map chain_numbers cs) (from_parts es base cs)
  chains_counted base [] says = none_counted
  chains_counted base (c ∷ cs) says =
      let end = end_after base (chain_parts es base c) in
      let P = λ (c : ChainForm). All (SaysWidth ws) c.joins in
      one_counted (inner_part c.first (width_of es c.first)) (map (join_part es base) c.joins ++ from_parts es end cs) c.first (map joined_number c.joins ++ flat_map chain_numbers cs)
      (λ k e. (e, ap (λ (n : ℕ). get_or ws n 0) e))
      (joins_counted base c.joins (from_parts es end cs) (flat_map chain_numbers cs) (All-head P c cs says) (chains_counted end cs (All-tail P c cs says)))

  pub from_counted : (base : ℕ) (cs : List ChainForm) → flat_map chain_numbers cs ≡ range_with_len first n → All (λ (c : ChainForm). All (SaysWidth ws) c.joins) cs → AreCounted first mine 0 (from_parts es base cs)
  from_counted base cs numbers says =
      let at : first ≡ first + 0 = omega arith in
      chains_counted base cs says 0 n (numbers ∙ ap (λ (i : ℕ). range_with_len i n) at) (omega arith)

-- ---- where they end

module _ (first : ℕ) (ws : List ℕ) (small : sum ws < most) where
  -- the place behind an entry
  pub entry_end : (k width : ℕ) → k < length ws → width ≡ get_or ws k 0 → further width (up_to ws k) ≡ up_to ws (suc k)
  entry_end k width h e = let i = one_more ws k h in let b = below_sum ws (suc k) in let s = small in omega (arith, e, i, b, s)

  pub end_counted : (k : ℕ) (ps : List Part) → AreCounted first ws k ps → end_after (up_to ws k) ps ≡ sum ws
  end_counted k [] h = ap (up_to ws) h ∙ all_of_them ws
  end_counted k (p ∷ ps) h = ap (λ (n : ℕ). end_after n ps) (entry_end k p.width h.2 h.1) ∙ end_counted (suc k) ps h.3

  -- what stands behind the first of them
  pub skip : (k : ℕ) (ps qs : List Part) → AreCounted first ws k (ps ++ qs) → (m : ℕ) × (end_after (up_to ws k) ps ≡ up_to ws m) × AreCounted first ws m qs
  skip k [] qs h = (k, refl, h)
  skip k (p ∷ ps) qs h = let i = skip (suc k) ps qs h.3 in (i.0, ap (λ (n : ℕ). end_after n ps) (entry_end k p.width h.2 h.1) ∙ i.1, i.2)

pub behind : (first : ℕ) (widths : List ℕ) (k : ℕ) (ps qs : List Part) → AreCounted first widths k (ps ++ qs) → (m : ℕ) × AreCounted first widths m qs
behind first widths k [] qs h = (k, h)
behind first widths k (p ∷ ps) qs h = behind first widths (suc k) ps qs h.3

-- ---- the entries of a bound core

module _ (es : List BoundEntry) (f : CoreForm) (counts : CoreCounts (widths_in es) f) where
  -- how many columns each of them has
  abbrev pub own_widths : List ℕ
  own_widths = stretch (widths_in es) counts.first (length (core_numbers f))

  pub own_are : core_widths (widths_in es) f ≡ own_widths
  own_are = ap (map (λ (k : ℕ). get_or (widths_in es) k 0)) counts.numbers ∙ picked (widths_in es) 0 counts.first (length (core_numbers f)) counts.among

  pub own_counted : AreCounted counts.first own_widths 0 (from_parts es 0 f.from)
  own_counted = from_counted es counts.first (length (core_numbers f)) counts.among 0 f.from counts.numbers counts.widths

  pub own_small : HasPlaces es → sum own_widths < most
  own_small places = let b = stretch_below (widths_in es) counts.first (length (core_numbers f)) in omega (arith, b, places)

  -- the place behind them all
  pub from_end : HasPlaces es → end_after 0 (from_parts es 0 f.from) ≡ sum own_widths
  from_end places =
      let parts = from_parts es 0 f.from in
      ap (λ (n : ℕ). end_after n parts) (sym (none_first own_widths)) ∙ end_counted counts.first own_widths (own_small places) 0 parts own_counted

  pub from_small : HasPlaces es → end_after 0 (from_parts es 0 f.from) < most
  from_small places = subst (λ (n : ℕ). n < most) (sym (from_end places)) (own_small places)
