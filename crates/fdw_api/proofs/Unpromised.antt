-- A scan of which no order and no limit is promised: any order will do, and all of it comes. So what a box does of version 1 of the
-- interface serves for version 2, where the box promises nothing.
use Rattle.std.proofs.Common.{◌≡◌, ℕ, true, false, List, [], ◌∷◌, Option, Some, None, IsSorted, refl, ap, sym, ◌∙◌, subst}
use Rattle.med_value.specs.Datum.{Tuple}
use Rattle.fdw_api.specs.Scan.{Spec, KeyForm, TableRow, spec_of, row_cmp, first_of}
use Rattle.fdw_api.specs.State.{BoxState}
use Rattle.fdw_api.specs.Calls.{CanBegin, Begins}
use Rattle.fdw_api.specs.Wishes.{CanBegin2, spec2_of, is_unpromised}
use Rattle.fdw_api.specs.declared.wishes.ScanSpec2.{ScanSpec2}

-- any list is in no order, and the first of it are all of it where no limit is
pub any_order : (order : List KeyForm) → order ≡ [] → (rows : List TableRow) → IsSorted (row_cmp order) rows
any_order order e rows = subst (λ (o : List KeyForm). IsSorted (row_cmp o) rows) (sym e) (λ k d low high. refl)

pub all_first : {X : Type 0} (limit : Option ℕ) → limit ≡ None → (xs : List X) → first_of limit xs ≡ xs
all_first limit e xs = ap (λ (o : Option ℕ). first_of o xs) e

none_of : (s : Spec) (order : List KeyForm) (limit : Option ℕ) → is_unpromised (record s { order = order; limit = limit }) ≡ true → (order ≡ []) × (limit ≡ None)
none_of s [] None e = (refl, refl)
none_of s [] (Some n) e = absurd cc
none_of s (k ∷ ks) limit e = absurd cc

pub promises_none : (s : Spec) → is_unpromised s ≡ true → (s.order ≡ []) × (s.limit ≡ None)
promises_none s e = none_of s s.order s.limit e

-- what is asked of version 2 is then what is asked of version 1
pub version_1 : (s : ScanSpec2) → is_unpromised (spec2_of s) ≡ true → spec2_of s ≡ spec_of s.base
version_1 s e =
    let w = promises_none (spec2_of s) e in
    ap (λ (o : List KeyForm). record (spec2_of s) { order = o }) w.0 ∙ ap (λ (l : Option ℕ). record (spec_of s.base) { limit = l }) w.1

pub can_begin : (s : BoxState) (t : ℕ) (spec : ScanSpec2) (params : Tuple) → s.nature.promises ≡ false → CanBegin2 s t spec params → CanBegin s t spec.base params
can_begin s t spec params e c = record {
  bound = c.bound;
  is = c.is;
  allowed = subst (λ (x : Spec). c.bound.allows x ≡ true) (version_1 spec (c.may e)) c.allowed;
  typed = c.typed;
}

pub begins : (s t : BoxState) (n : ℕ) (spec : ScanSpec2) (params : Tuple) (q : ℕ) → s.nature.promises ≡ false → CanBegin2 s n spec params → Begins s n (spec_of spec.base) params q t → Begins s n (spec2_of spec) params q t
begins s t n spec params q e c b = subst (λ (x : Spec). Begins s n x params q t) (sym (version_1 spec (c.may e))) b
