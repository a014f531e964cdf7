-- Rows of a scan that are checked again are the rows of which all restrictions are true, whatever the wrapper agreed to.
use Rattle.std.proofs.Common.{◌≡◌, ◌≢◌, ℕ, ◌⊎◌, zero, suc, eqb, nat_eq, Bool, true, false, cond, not, ◌&&◌, ◌||◌, if◌then◌else◌, List, [], ◌∷◌, ◌++◌, map, filter, refl, ap, sym, ◌∙◌, subst, append_assoc, inl, inr, None}
use Rattle.std.specs.List.{All, list_any}
use Rattle.std.specs.List.Sorted.{IsPermutation}
use Rattle.std.proofs.lemmas.Bool.Decides.{eqb_tells}
use Rattle.std.proofs.lemmas.List.Sorted.{IsPermutation-filter_both, IsPermutation-append_left, IsPermutation-trans}
use Rattle.std.proofs.lemmas.List.Elements.{filter_passes, All-weaker, All-append, All-head, All-tail}
use Rattle.std.proofs.lemmas.Bool.{and_parts, not-true}
use Rattle.med_value.specs.Datum.{Tuple, cell}
use Rattle.fdw_api.specs.Scan.{Spec, RestrictionForm, GivenRow, TableRow, IsComing, checks, pick, meets, meets_all, meets_exact, given_row, shown_cells}
use Rattle.fdw_api.specs.declared.scan.Agree.{Agree}
use Rattle.fdw_api.specs.declared.scan.Agree.TheVariants.{Ignored, Hint, Exact}
use Rattle.med_write.specs.Making.{cells_of}
use Rattle.fdw_api.proofs.Unpromised.{all_first}
use Rattle.med_exec.specs.Restricted.{ShowsAll, place_in, place_shown, all_wanted, meets_shown, meets_rest, checked, AreRestricted}

-- a wanted cell is where its column stands among the wanted ones
picked : (whole : Tuple) (ws : List ℕ) (c : ℕ) → list_any (λ w. nat_eq w c) ws ≡ true → cell (pick ws whole) (place_in ws c) ≡ cell whole c
picked whole [] c e = absurd cc
picked whole (w ∷ ws) c e = at (eqb_tells w c) (picked whole ws c)
  where
    later : (b : Bool) → b ≡ false → (b || list_any (λ v. nat_eq v c) ws) ≡ true → list_any (λ v. nat_eq v c) ws ≡ true
    later true f e = absurd cc
    later false f e = e

    at : ((eqb w c ≡ true) × (w ≡ c)) ⊎ ((eqb w c ≡ false) × (w ≢ c)) → (list_any (λ v. nat_eq v c) ws ≡ true → cell (pick ws whole) (place_in ws c) ≡ cell whole c) → cell (cell whole w ∷ pick ws whole) (if nat_eq w c then zero else suc (place_in ws c)) ≡ cell whole c
    at (inl s) rest = rw s.0 (ap (cell whole) s.1)
    at (inr s) rest = rw s.0 (rest (later (nat_eq w c) s.0 e))

seen_cell : (spec : Spec) (whole : Tuple) (c : ℕ) → (spec.narrow ≡ true → list_any (λ w. nat_eq w c) spec.wanted ≡ true) → cell (shown_cells spec whole) (place_shown spec c) ≡ cell whole c
seen_cell spec whole c h = go spec.narrow h
  where
    go : (b : Bool) → (b ≡ true → list_any (λ w. nat_eq w c) spec.wanted ≡ true) → cell (if b then pick spec.wanted whole else whole) (if b then place_in spec.wanted c else c) ≡ cell whole c
    go true h = picked whole spec.wanted c (h refl)
    go false h = refl

meets_same : (spec : Spec) (params whole : Tuple) (f : RestrictionForm) (fs : List RestrictionForm) → ShowsAll spec (f ∷ fs) → meets_shown spec params (shown_cells spec whole) f ≡ meets params whole f
meets_same spec params whole f fs seen = ap (checks params f.test) (seen_cell spec whole f.column (λ n. (and_parts (list_any (λ w. nat_eq w f.column) spec.wanted) (all_wanted spec.wanted fs) (seen n)).0))

seen_rest : (spec : Spec) (f : RestrictionForm) (fs : List RestrictionForm) → ShowsAll spec (f ∷ fs) → ShowsAll spec fs
seen_rest spec f fs seen n = (and_parts (list_any (λ w. nat_eq w f.column) spec.wanted) (all_wanted spec.wanted fs) (seen n)).1

both_same : (a b c d : Bool) → a ≡ b → c ≡ d → (a && c) ≡ (b && d)
both_same a b c d e f = rw (e, f) refl

-- where the Exact ones hold, the rest decides
rest_decides : (spec : Spec) (params whole : Tuple) (fs : List RestrictionForm) (answers : List Agree) → ShowsAll spec fs → meets_exact fs answers params whole ≡ true → meets_rest spec params (shown_cells spec whole) fs answers ≡ meets_all fs params whole
rest_decides spec params whole [] answers seen e = refl
rest_decides spec params whole (f ∷ fs) [] seen e = both_same _ _ _ _ (meets_same spec params whole f fs seen) (rest_decides spec params whole fs [] (seen_rest spec f fs seen) (none fs))
  where
    none : (gs : List RestrictionForm) → meets_exact gs [] params whole ≡ true
    none [] = refl
    none (g ∷ gs) = refl
rest_decides spec params whole (f ∷ fs) (Exact ∷ answers) seen e =
    let w = and_parts (meets params whole f) (meets_exact fs answers params whole) e in
    rest_decides spec params whole fs answers (seen_rest spec f fs seen) w.1 ∙ sym (ap (λ b. b && meets_all fs params whole) w.0)
rest_decides spec params whole (f ∷ fs) (Ignored ∷ answers) seen e = both_same _ _ _ _ (meets_same spec params whole f fs seen) (rest_decides spec params whole fs answers (seen_rest spec f fs seen) e)
rest_decides spec params whole (f ∷ fs) (Hint ∷ answers) seen e = both_same _ _ _ _ (meets_same spec params whole f fs seen) (rest_decides spec params whole fs answers (seen_rest spec f fs seen) e)

abbrev all_of : Spec → Tuple → TableRow → Bool
all_of spec params r = meets_all spec.offered params r.cells

abbrev shows : Spec → TableRow → Tuple
shows spec r = shown_cells spec r.cells

one : {X Y : Type 0} (f : X → Y) (b c : Bool) (x : X) (xs : List X) (ys : List Y) → b ≡ c → ys ≡ map f xs → cond b (f x ∷ ys) ys ≡ map f (cond c (x ∷ xs) xs)
one f true true x xs ys e i = ap (λ l. f x ∷ l) i
one f false false x xs ys e i = i
one f true false x xs ys e i = absurd cc
one f false true x xs ys e i = absurd cc

-- what is left of the rows given after they were checked again
left_over : (spec : Spec) (params : Tuple) (taken : List TableRow) → ShowsAll spec spec.offered → All (λ r. meets_exact spec.offered spec.answers params r.cells ≡ true) taken → filter (checked spec params) (cells_of (map (given_row spec) taken)) ≡ map (shows spec) (filter (all_of spec params) taken)
left_over spec params [] seen exact = refl
left_over spec params (r ∷ rs) seen exact =
    one (shows spec) (checked spec params (shows spec r)) (all_of spec params r) r _ _
    (rest_decides spec params r.cells spec.offered spec.answers seen (All-head (λ x. meets_exact spec.offered spec.answers params x.cells ≡ true) r rs exact))
    (left_over spec params rs seen (All-tail (λ x. meets_exact spec.offered spec.answers params x.cells ≡ true) r rs exact))

-- exactly the rows of which all restrictions are true, up to order
pub checked_again : (rows : List TableRow) (spec : Spec) (params : Tuple) (coming : List GivenRow) → ShowsAll spec spec.offered → spec.limit ≡ None → IsComing rows spec params coming → AreRestricted rows spec params coming
checked_again rows spec params coming seen all c =
    let passed = filter (all_of spec params) c.taken in
    let failed = filter (λ r. not (all_of spec params r)) c.taken in
    record {
      selected = passed;
      selects = record {
        others = failed ++ c.left_out;
        parts =
            IsPermutation-trans rows (c.taken ++ c.left_out) (passed ++ (failed ++ c.left_out)) c.parts
            (subst (λ l. IsPermutation (c.taken ++ c.left_out) l) (append_assoc passed failed c.left_out)
            (IsPermutation-append_left c.left_out c.taken (passed ++ failed) (IsPermutation-filter_both (all_of spec params) (λ r. not (all_of spec params r)) (λ r. refl) c.taken)));
        passing = filter_passes (all_of spec params) c.taken;
        failing = All-append (λ r. all_of spec params r ≡ false) failed c.left_out (All-weaker (λ r. not (all_of spec params r) ≡ true) (λ r. all_of spec params r ≡ false) (λ r e. not-true (all_of spec params r) e) failed (filter_passes (λ r. not (all_of spec params r)) c.taken)) c.failing;
      };
      passed = ap (λ l. filter (checked spec params) (cells_of l)) (c.is ∙ ap (map (given_row spec)) (all_first spec.limit all c.taken)) ∙ left_over spec params c.taken seen c.exact;
    }
