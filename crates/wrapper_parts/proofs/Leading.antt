-- What leads a scan.
use Rattle.std.proofs.Common.{◌≡◌, ℕ, Bool, true, false, ◌&&◌, List, [], ◌∷◌, Option, Some, None, IfSome, option_map, slice_get, zero, suc, refl, ap, sym, ◌∙◌}
use Rattle.med_value.specs.Datum.{Datum, Tuple, cell}
use Rattle.med_value.specs.declared.order.Comparison.TheVariants as comparisons
use Rattle.fdw_api.specs.Prelude.{Spec, RestrictionForm, TestForm, Compares, Missing, Present, Given, Slot, meets, meets_exact, checks}
use Rattle.fdw_api.specs.declared.scan.Agree.{Agree}
use Rattle.fdw_api.specs.declared.scan.Agree.TheVariants.{Ignored, Hint, Exact}
use Rattle.wrapper_parts.specs.declared.sought.Sought.{Sought}
use Rattle.wrapper_parts.specs.Places.{equals}
use Rattle.wrapper_parts.specs.Scans.{SoughtForm, form_of, sought, sought_of, sought_by, has_sought, takes, Leads}

first_of : (a b : Bool) → (a && b) ≡ true → a ≡ true
first_of true b e = refl
first_of false b e = absurd cc

second_of : (a b : Bool) → (a && b) ≡ true → b ≡ true
second_of true b e = e
second_of false b e = absurd cc

-- what is looked for first
pub first_leads : (spec : Spec) (s : SoughtForm) → sought spec.offered ≡ Some s → Leads spec s
first_leads spec s e params cells h =
    sym (ap (λ (o : Option SoughtForm). has_sought o params cells) e) ∙ first_of (has_sought (sought spec.offered) params cells) _ h

same_form : (s z : SoughtForm) → Some s ≡ Some z → s ≡ z
same_form s z e = cc

tested : (column : ℕ) (test : TestForm) (s : SoughtForm) (params cells : Tuple) → sought_of column test ≡ Some s
    → checks params test (cell cells column) ≡ true → equals (cell params s.parameter) (cell cells s.column) ≡ true
tested column (Compares comparisons.Equal (Slot at)) s params cells e h =
    ap (λ (z : SoughtForm). equals (cell params z.parameter) (cell cells z.column)) (sym (same_form _ s e)) ∙ h
tested column (Compares comparisons.Equal (Given v)) s params cells e h = absurd cc
tested column (Compares comparisons.Apart o) s params cells e h = absurd cc
tested column (Compares comparisons.Below o) s params cells e h = absurd cc
tested column (Compares comparisons.AtMost o) s params cells e h = absurd cc
tested column (Compares comparisons.Above o) s params cells e h = absurd cc
tested column (Compares comparisons.AtLeast o) s params cells e h = absurd cc
tested column Missing s params cells e h = absurd cc
tested column Present s params cells e h = absurd cc

-- each restriction that was answered Exact is met
met_at : (fs : List RestrictionForm) (answers : List Agree) (at : ℕ) (f : RestrictionForm) (params cells : Tuple) → slice_get fs at ≡ Some f
    → slice_get answers at ≡ Some Exact → meets_exact fs answers params cells ≡ true → meets params cells f ≡ true
met_at [] answers at f params cells is exact h = absurd cc
met_at (g ∷ fs) [] at f params cells is exact h = absurd cc
met_at (g ∷ fs) (Exact ∷ answers) zero f params cells is exact h =
    let same : g ≡ f = cc in ap (meets params cells) (sym same) ∙ first_of (meets params cells g) _ h
met_at (g ∷ fs) (Ignored ∷ answers) zero f params cells is exact h = absurd cc
met_at (g ∷ fs) (Hint ∷ answers) zero f params cells is exact h = absurd cc
met_at (g ∷ fs) (Exact ∷ answers) (suc at) f params cells is exact h = met_at fs answers at f params cells is exact (second_of (meets params cells g) _ h)
met_at (g ∷ fs) (Ignored ∷ answers) (suc at) f params cells is exact h = met_at fs answers at f params cells is exact h
met_at (g ∷ fs) (Hint ∷ answers) (suc at) f params cells is exact h = met_at fs answers at f params cells is exact h

-- what a restriction looks for that was answered Exact
pub exact_leads : (spec : Spec) (at : ℕ) (f : RestrictionForm) (s : SoughtForm) → slice_get spec.offered at ≡ Some f
    → slice_get spec.answers at ≡ Some Exact → sought_by f ≡ Some s → Leads spec s
exact_leads spec at f s is exact e params cells h =
    tested f.column f.test s params cells e
    (met_at spec.offered spec.answers at f params cells is exact (second_of (has_sought (sought spec.offered) params cells) _ h))

pub some_leads : (spec : Spec) (at : ℕ) (f : RestrictionForm) (o : Option Sought) → slice_get spec.offered at ≡ Some f
    → slice_get spec.answers at ≡ Some Exact → option_map form_of o ≡ sought_by f → IfSome o (λ s. Leads spec (form_of s))
some_leads spec at f None is exact e = tt
some_leads spec at f (Some s) is exact e = exact_leads spec at f (form_of s) is exact (sym e)

-- a row without what leads a scan is not taken
pub leads_needs : (spec : Spec) (params cells : Tuple) (s : SoughtForm) → Leads spec s
    → equals (cell params s.parameter) (cell cells s.column) ≡ false → takes spec params cells ≡ false
leads_needs spec params cells s leads lacks = tell (takes spec params cells) refl
  where
    tell : (b : Bool) → takes spec params cells ≡ b → b ≡ false
    tell false e = refl
    tell true e = sym (leads params cells e) ∙ lacks
