-- Orders of a scan against those that ORDER BY asks for.
use Rattle.std.proofs.Common.{◌≡◌, ℕ, zero, suc, ◌+◌, ◌<◌, ◌≤◌, List, [], ◌∷◌, map, length, drop, get_or, Option, None, Some, refl, sym, ap, ◌∙◌, subst, arith, add-one}
use Rattle.std.proofs.lemmas.List.{length-map}
use Rattle.std.proofs.Math.Seq.{drop-cons}
use Rattle.tri_expr.specs.declared.expr.Expr.{Expr}
use Rattle.tri_expr.specs.Tree.{Tree, tree}
use Rattle.med_query.specs.Prelude.{Direction, direction_of}
use Rattle.med_query.specs.declared.select.SortDirection.{SortDirection}
use Rattle.fdw_api.specs.Prelude.{KeyForm, key_form}
use Rattle.fdw_api.specs.declared.wishes.OrderKey.{OrderKey}
use Rattle.scan_loops.specs.Ordered.{key_column, with_key, order_of}
use Rattle.scan_loops.proofs.InOrder.{has_key}

-- ---- one key after another

first_same : {X : Type 0} (x y : X) (xs ys : List X) → x ∷ xs ≡ y ∷ ys → x ≡ y
first_same x y xs ys e = cc

rest_same : {X : Type 0} (x y : X) (xs ys : List X) → x ∷ xs ≡ y ∷ ys → xs ≡ ys
rest_same x y xs ys e = cc

module _ (d : Direction) (o : Option ℕ) (k : KeyForm) where
  key_alone : (q : Option (List KeyForm)) (ks : List KeyForm) → with_key d o q ≡ Some (k ∷ ks) → with_key d o (Some []) ≡ Some (k ∷ [])
  key_alone q ks e =
      let h = has_key d o q (k ∷ ks) e in
      ap (λ (p : Option ℕ). with_key d p (Some [])) h.is_at ∙ ap (λ (z : KeyForm). Some (z ∷ [])) (sym (first_same k _ ks h.more h.is))

  key_behind : (q : Option (List KeyForm)) (ks : List KeyForm) → with_key d o q ≡ Some (k ∷ ks) → q ≡ Some ks
  key_behind q ks e =
      let h = has_key d o q (k ∷ ks) e in
      h.is_more ∙ ap (λ (zs : List KeyForm). Some zs) (sym (rest_same k _ ks h.more h.is))

  key_before : (ks : List KeyForm) → with_key d o (Some []) ≡ Some (k ∷ []) → with_key d o (Some ks) ≡ Some (k ∷ ks)
  key_before ks e =
      let h = has_key d o (Some []) (k ∷ []) e in
      ap (λ (p : Option ℕ). with_key d p (Some ks)) h.is_at ∙ ap (λ (z : KeyForm). Some (z ∷ ks)) (sym (first_same k _ [] h.more h.is))

-- ---- over the lists of a program

abbrev pub IsOrder : List SortDirection → List Expr → List OrderKey → Type 0
IsOrder ds es ps = order_of (map direction_of ds) (map tree es) ≡ Some (map key_form ps)

abbrev pub IsKey : SortDirection → Expr → OrderKey → Type 0
IsKey d e p = IsOrder (d ∷ []) (e ∷ []) (p ∷ [])

-- whether the lists agree is told by what stands from this place on
pub record FromHere (ds : List SortDirection) (es : List Expr) (ps : List OrderKey) (at : ℕ) : Type 0 where
  pub to : IsOrder (drop at ds) (drop at es) (drop at ps) → IsOrder ds es ps
  pub from : IsOrder ds es ps → IsOrder (drop at ds) (drop at es) (drop at ps)

pub all_from_here : (ds : List SortDirection) (es : List Expr) (ps : List OrderKey) → FromHere ds es ps 0
all_from_here ds es ps = record { to = λ h. h; from = λ h. h }

dropped : {X : Type 0} (xs : List X) (at : ℕ) (x : X) → at < length xs → x ≡ get_or xs at x → drop at xs ≡ x ∷ drop (at + 1) xs
dropped xs at x lt is = drop-cons xs at x lt ∙ ap (λ (y : _). y ∷ drop (suc at) xs) (sym is) ∙ ap (λ (n : ℕ). x ∷ drop n xs) (sym (add-one at))

module _ (ds : List SortDirection) (es : List Expr) (ps : List OrderKey) (at : ℕ) (d : SortDirection) (e : Expr) (p : OrderKey) (dl : at < length ds) (el : at < length es) (pl : at < length ps)
    (di : d ≡ get_or ds at d) (ei : e ≡ get_or es at e) (pi : p ≡ get_or ps at p) where
  here : (P : List SortDirection → List Expr → List OrderKey → Type 0) → P (drop at ds) (drop at es) (drop at ps) → P (d ∷ drop (at + 1) ds) (e ∷ drop (at + 1) es) (p ∷ drop (at + 1) ps)
  here P h =
      subst (λ (l : List OrderKey). P (d ∷ drop (at + 1) ds) (e ∷ drop (at + 1) es) l) (dropped ps at p pl pi)
      (subst (λ (l : List Expr). P (d ∷ drop (at + 1) ds) l (drop at ps)) (dropped es at e el ei)
      (subst (λ (l : List SortDirection). P l (drop at es) (drop at ps)) (dropped ds at d dl di) h))

  -- the whole agrees no further than its keys do
  pub key_agrees : FromHere ds es ps at → IsOrder ds es ps → IsKey d e p
  key_agrees f h = key_alone (direction_of d) (key_column (tree e)) (key_form p) (order_of (map direction_of (drop (at + 1) ds)) (map tree (drop (at + 1) es))) (map key_form (drop (at + 1) ps)) (here IsOrder (f.from h))

  pub from_next : FromHere ds es ps at → IsKey d e p → FromHere ds es ps (at + 1)
  from_next f k = record {
    to = λ h. f.to (back (ap (with_key (direction_of d) (key_column (tree e))) h ∙ key_before (direction_of d) (key_column (tree e)) (key_form p) (map key_form (drop (at + 1) ps)) k));
    from = λ h. key_behind (direction_of d) (key_column (tree e)) (key_form p) (order_of (map direction_of (drop (at + 1) ds)) (map tree (drop (at + 1) es))) (map key_form (drop (at + 1) ps)) (here IsOrder (f.from h));
  }
    where
      back : IsOrder (d ∷ drop (at + 1) ds) (e ∷ drop (at + 1) es) (p ∷ drop (at + 1) ps) → IsOrder (drop at ds) (drop at es) (drop at ps)
      back h =
          subst (λ (l : List SortDirection). IsOrder l (drop at es) (drop at ps)) (sym (dropped ds at d dl di))
          (subst (λ (l : List Expr). IsOrder (d ∷ drop (at + 1) ds) l (drop at ps)) (sym (dropped es at e el ei))
          (subst (λ (l : List OrderKey). IsOrder (d ∷ drop (at + 1) ds) (e ∷ drop (at + 1) es) l) (sym (dropped ps at p pl pi)) h))

-- at their end nothing is left to agree
none_left : {X : Type 0} (xs : List X) (at : ℕ) → length xs ≤ at → drop at xs ≡ []
none_left [] zero le = refl
none_left [] (suc at) le = refl
none_left (x ∷ xs) zero le = absurd (omega (arith, le))
none_left (x ∷ xs) (suc at) le = none_left xs at (omega (arith, le))

pub all_agree : (ds : List SortDirection) (es : List Expr) (ps : List OrderKey) (at : ℕ) → length ds ≤ at → length es ≤ at → length ps ≤ at → FromHere ds es ps at → IsOrder ds es ps
all_agree ds es ps at dl el pl f =
    f.to (subst (λ (l : List SortDirection). IsOrder l (drop at es) (drop at ps)) (sym (none_left ds at dl))
    (subst (λ (l : List Expr). IsOrder [] l (drop at ps)) (sym (none_left es at el))
    (subst (λ (l : List OrderKey). IsOrder [] [] l) (sym (none_left ps at pl)) refl)))

-- lists that agree are as long as one another
none_not_some : (ks : List KeyForm) → None ≡ Some ks → ⊥
none_not_some ks e = cc

same_lengths : (ds : List Direction) (ts : List Tree) (ks : List KeyForm) → order_of ds ts ≡ Some ks → (length ds ≡ length ks) × (length ts ≡ length ks)
same_lengths [] [] [] e = (refl, refl)
same_lengths [] [] (k ∷ ks) e = absurd (no e)
  where
    no : Some [] ≡ Some (k ∷ ks) → ⊥
    no e = cc
same_lengths [] (t ∷ ts) ks e = absurd (none_not_some ks e)
same_lengths (d ∷ ds) [] ks e = absurd (none_not_some ks e)
same_lengths (d ∷ ds) (t ∷ ts) ks e =
    let h = has_key d (key_column t) (order_of ds ts) ks e in
    let i = same_lengths ds ts h.more h.is_more in
    let l : length ks ≡ suc (length h.more) = ap (λ (l : List KeyForm). length l) h.is in
    (ap suc i.0 ∙ sym l, ap suc i.1 ∙ sym l)

pub as_long : (ds : List SortDirection) (es : List Expr) (ps : List OrderKey) → IsOrder ds es ps → (length ds ≡ length ps) × (length es ≡ length ps)
as_long ds es ps h =
    let s = same_lengths (map direction_of ds) (map tree es) (map key_form ps) h in
    (sym (length-map ds direction_of) ∙ s.0 ∙ length-map ps key_form, sym (length-map es tree) ∙ s.1 ∙ length-map ps key_form)

-- ---- a plan of one core over one level

pub alone : {X : Type 0} (xs : List X) (x : X) → length xs ≡ 1 → x ≡ get_or xs 0 x → xs ≡ x ∷ []
alone [] x n is = absurd (omega (arith, n))
alone (y ∷ []) x n is = ap (λ (z : _). z ∷ []) (sym is)
alone (y ∷ z ∷ xs) x n is = absurd (omega (arith, n))

pub alone_same : {X : Type 0} (x y : X) → x ∷ [] ≡ y ∷ [] → x ≡ y
alone_same x y e = first_same x y [] [] e
