-- The rows of the entries of a bound core are as wide as their entries.
use Rattle.std.proofs.Common.{◌≡◌, ℕ, suc, ◌+◌, ◌<◌, ◌≤◌, List, [], ◌∷◌, ◌++◌, map, length, get_or, sym, subst, ◌∙◌, arith}
use Rattle.std.proofs.lemmas.List.{length-map}
use Rattle.med_query.specs.Prelude.{Tables, JoinForm, cross_form, inner_form, left_form, ChainForm, core_form}
use Rattle.med_binder.specs.Counted.{core_numbers}
use Rattle.med_binder.specs.declared.bound.BoundEntry.{BoundEntry}
use Rattle.pushdown.specs.Joins.{Each, Entry, AllWide}
use Rattle.scan_loops.specs.Entries.{join_entry, chain_entries, total_width, from_entries}
use Rattle.med_planner.specs.Flat.{Part, width_of, join_part, end_after, chain_parts, from_parts}
use Rattle.med_planner.specs.Plans.{tables_by}
use Rattle.med_planner.specs.Premises.{widths_in, RowsAreWide, CountedIsWide}
use Rattle.med_planner.proofs.Safe.{each_both}
use Rattle.med_planner.proofs.Stretches.{stretch, at_stretch, length_stretch}
use Rattle.med_planner.proofs.Counting.{AreCounted, own_counted, behind}

-- the rows of an entry
abbrev IsWide : Entry → Type 0
IsWide e = Each (λ r. length r ≡ e.width) e.rows

module _ (es : List BoundEntry) (start n : ℕ) (among : start + n ≤ length (widths_in es)) (db : Tables) (rows : RowsAreWide es db) where
  abbrev mine : List ℕ
  mine = stretch (widths_in es) start n

  filled : (t width k : ℕ) → t ≡ start + k → width ≡ get_or mine k 0 → k < length mine → Each (λ r. length r ≡ width) (db t)
  filled t width k e w h =
      let long = length-map es (λ (e : BoundEntry). e.width) in
      let many = length_stretch (widths_in es) start n among in
      let lt : k < n = omega (arith, h, many) in
      let there : start + k < length es = omega (arith, lt, long, among) in
      subst (λ (i : ℕ). Each (λ r. length r ≡ width) (db i)) (sym e)
      (subst (λ (i : ℕ). Each (λ r. length r ≡ i) (db (start + k))) (sym (w ∙ at_stretch (widths_in es) 0 start n k lt)) (rows (start + k) there))

  one_wide : (at base k : ℕ) (j : JoinForm) → (join_part es at j).table ≡ start + k → (join_part es at j).width ≡ get_or mine k 0 → k < length mine → IsWide (join_entry db (width_of es) base j)
  one_wide at base k (cross_form t) e w h = filled t (width_of es t) k e w h
  one_wide at base k (inner_form t on) e w h = filled t (width_of es t) k e w h
  one_wide at base k (left_form t width on) e w h = filled t width k e w h

  joins_wide : (at base k : ℕ) (js : List JoinForm) (ps : List Part) → AreCounted start mine k (map (join_part es at) js ++ ps) → AllWide (map (join_entry db (width_of es) base) js)
  joins_wide at base k [] ps h = tt
  joins_wide at base k (j ∷ js) ps h = (one_wide at base k j h.0 h.1 h.2, joins_wide at base (suc k) js ps h.3)

  chains_wide : (at base k : ℕ) (cs : List ChainForm) → AreCounted start mine k (from_parts es at cs) → AllWide (from_entries db (width_of es) base cs)
  chains_wide at base k [] h = tt
  chains_wide at base k (c ∷ cs) h =
      let end = end_after at (chain_parts es at c) in
      let next = base + total_width (chain_entries db (width_of es) base c) in
      let rest = behind start mine k (chain_parts es at c) (from_parts es end cs) h in (
        filled c.first (width_of es c.first) k h.0 h.1 h.2,
        each_both IsWide (map (join_entry db (width_of es) base) c.joins) (from_entries db (width_of es) next cs) (joins_wide at base (suc k) c.joins (from_parts es end cs) h.3) (chains_wide end next rest.0 cs rest.1),
      )

pub wide : CountedIsWide
wide s es rows counts are =
    let f = core_form s in
    chains_wide es counts.first (length (core_numbers f)) counts.among (tables_by es rows) are 0 0 0 f.from (own_counted es f counts)
