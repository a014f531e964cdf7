-- The rows of a key range are rows that a scan may give.
use Rattle.std.proofs.Common.{
  ◌≡◌,
  ℤ,
  pos,
  ◌+ℤ◌,
  ◌≤ℤ◌,
  Bool,
  true,
  false,
  cond,
  not,
  ◌&&◌,
  if◌then◌else◌,
  int_le,
  List,
  [],
  ◌∷◌,
  map,
  filter,
  FitsSigned,
  w64,
  IsTrue,
  IsSorted,
  refl,
  ap,
  sym,
  ◌∙◌,
  subst,
  arith,
}
use Rattle.std.proofs.lemmas.Int.{ints}
use Rattle.std.proofs.lemmas.List.Sorted.{IsPermutation-filter_both}
use Rattle.std.proofs.lemmas.List.Elements.{filter_passes, All-weaker}
use Rattle.sqlite.specs.Order.{Row as SqlRow}
use Rattle.sqlite.specs.View.{IsShaped}
use Rattle.sqlite_trees.specs.declared.store.Shape.TheVariants as shape
use Rattle.sqlite.specs.Tree.{rowid}
use Rattle.sqlite.specs.View.{is_int}
use Rattle.sqlite_tables.specs.Cells.{cells_at}
use Rattle.sqlite_tables.specs.Prelude.{in_range, key_of, range_of, paged, page_cells, places, Layout, row_in, rows_in, least, greatest}
use Rattle.wrapper_parts.specs.declared.ranges.KeyRange.{KeyRange}
use Rattle.wrapper_parts.specs.Ranges.{has_key}
use Rattle.med_value.specs.Datum.{Tuple, Whole}
use Rattle.fdw_api.specs.Scan.{
  Spec,
  RestrictionForm,
  TableRow,
  GivenRow,
  IsComing,
  first_of,
  meets,
  meets_all,
  meets_exact,
  given_row,
  row_cmp,
}
use Rattle.fdw_api.specs.declared.scan.Agree.{Agree}
use Rattle.fdw_api.specs.declared.scan.Agree.TheVariants.{Ignored, Hint, Exact}
use Rattle.sqlite_wrapper.specs.Boxes.{given_of, is_by_key}
use Rattle.sqlite_tables.proofs.PagesJoin.{Ints, between}
use Rattle.sqlite_wrapper.proofs.Keys.{HasKeyFirst, key_then}
use Rattle.sqlite_wrapper.proofs.Rising.{first_map, rows_rise}

both_fail : (b x y : Bool) → (not x ≡ true → y ≡ false) → not (b && x) ≡ true → (b && y) ≡ false
both_fail true x y f e = f e
both_fail false x y f e = refl

one_fails : (b y : Bool) → y ≡ false → (b && y) ≡ false
one_fails true y e = e
one_fails false y e = refl

-- what an Exact restriction refuses does not meet all
exact_fails : (fs : List RestrictionForm) (answers : List Agree) (params cells : Tuple) → not (meets_exact fs answers params cells) ≡ true
    → meets_all fs params cells ≡ false
exact_fails [] answers params cells e = absurd cc
exact_fails (f ∷ fs) [] params cells e = absurd cc
exact_fails (f ∷ fs) (Exact ∷ answers) params cells e = both_fail (meets params cells f) (meets_exact fs answers params cells) _
    (exact_fails fs answers params cells) e
exact_fails (f ∷ fs) (Ignored ∷ answers) params cells e = one_fails (meets params cells f) _ (exact_fails fs answers params cells e)
exact_fails (f ∷ fs) (Hint ∷ answers) params cells e = one_fails (meets params cells f) _ (exact_fails fs answers params cells e)

key_fits : (k : ℤ) → between least greatest k ≡ true → FitsSigned w64 k
key_fits k e =
    let low : least ≤ℤ k = grind (arith, ints) in
    let high : k ≤ℤ greatest = grind (arith, ints) in
    omega (arith, ints)

not_outside : (low high k : ℤ) → least ≤ℤ low → high ≤ℤ greatest → between least greatest k ≡ false → between low high k ≡ false
not_outside low high k from to e = grind (arith, ints)

-- a scan that is open has the keys of its range, and one that is not has none
pub span_is : (r : KeyRange) (k : ℤ) (o : Bool) → o ≡ (r.open && int_le r.low r.high)
    → between (if o then r.low else r.high +ℤ pos 1) r.high k ≡ has_key r k
span_is r k true e = grind (arith, ints)
span_is r k false e = grind (arith, ints)

module _ (l : Layout) (first : HasKeyFirst l) (spec : Spec) (by_key : is_by_key spec.order ≡ true) (params : Tuple) (low high : ℤ)
    (from : least ≤ℤ low) (to : high ≤ℤ greatest)
    (keys : (k : ℤ) (rest : Tuple) → FitsSigned w64 k → between low high k
    ≡ meets_exact spec.offered spec.answers params (Whole k ∷ rest)) where
  abbrev pub passes : TableRow → Bool
  passes r = meets_exact spec.offered spec.answers params r.cells

  abbrev kept : List SqlRow → List TableRow
  kept entries = map (row_in l) (range_of (places l) low high entries)

  one : (r : SqlRow) (x : TableRow) (ys zs : List TableRow) → filter passes ys ≡ zs → (c d : Bool) → d ≡ c
      → cond d (x ∷ filter passes ys) (filter passes ys) ≡ cond c (x ∷ zs) zs
  one r x ys zs ih true d e = rw (e, ih) refl
  one r x ys zs ih false d e = rw (e, ih) refl

  into : (c : Bool) (r : SqlRow) (rs : List SqlRow) → map (row_in l) (map (paged (places l)) (cond c (r ∷ rs) rs))
      ≡ cond c (row_in l (paged (places l) r) ∷ map (row_in l) (map (paged (places l)) rs)) (map (row_in l) (map (paged (places l)) rs))
  into true r rs = refl
  into false r rs = refl

  -- a row that a page shows meets what is answered Exact where its key is in the range
  meets_by_key : (r : SqlRow) → IsTrue (is_int (rowid r)) → in_range least greatest r ≡ true
      → passes (row_in l (paged (places l) r)) ≡ in_range low high r
  meets_by_key r int e =
      ap (meets_exact spec.offered spec.answers params) (key_then l first r int)
      ∙ sym (keys (key_of r) (cells_at first.0 (paged (places l) r)) (key_fits (key_of r) e))

  more : (r : SqlRow) (rs zs : List SqlRow) → IsTrue (is_int (rowid r))
      → filter passes (map (row_in l) (map (paged (places l)) rs)) ≡ map (row_in l) (map (paged (places l)) zs)
      → (b : Bool) → in_range least greatest r ≡ b
      → filter passes (map (row_in l) (map (paged (places l)) (cond b (r ∷ rs) rs)))
      ≡ map (row_in l) (map (paged (places l)) (cond (in_range low high r) (r ∷ zs) zs))
  more r rs zs int ih true e =
      one r (row_in l (paged (places l) r)) (map (row_in l) (map (paged (places l)) rs)) (map (row_in l) (map (paged (places l)) zs)) ih
      (in_range low high r) (passes (row_in l (paged (places l) r))) (meets_by_key r int e)
      ∙ sym (into (in_range low high r) r zs)
  more r rs zs int ih false e = rw (not_outside low high (key_of r) from to e) ih

  pub same : (entries : List SqlRow) → Ints entries → filter passes (rows_in l entries) ≡ kept entries
  same [] ints_are = refl
  same (r ∷ rs) ints_are =
      more r (filter (in_range least greatest) rs) (filter (in_range low high) rs) ints_are.0 (same rs ints_are.1)
      (in_range least greatest r) refl

  pub shows : (xs : List SqlRow) → map (given_of spec l) xs ≡ map (given_row spec) (map (row_in l) xs)
  shows [] = refl
  shows (x ∷ xs) = ap (λ (gs : List GivenRow). given_of spec l x ∷ gs) (shows xs)

  pub comes : (entries : List SqlRow) → IsShaped shape.Table entries
      → IsComing (rows_in l entries) spec params (first_of spec.limit (map (given_of spec l) (range_of (places l) low high entries)))
  comes entries shaped = record {
    taken = filter passes (rows_in l entries);
    left_out = filter (λ r. not (passes r)) (rows_in l entries);
    parts = IsPermutation-filter_both passes (λ r. not (passes r)) (λ r. refl) (rows_in l entries);
    failing = All-weaker _ _ (λ r e. exact_fails spec.offered spec.answers params r.cells e) _
        (filter_passes (λ r. not (passes r)) (rows_in l entries));
    exact = filter_passes passes (rows_in l entries);
    sorted = subst (IsSorted (row_cmp spec.order)) (sym (same entries shaped.1))
        (rows_rise l first spec.order by_key low high entries shaped);
    is =
        ap (first_of spec.limit) (shows (range_of (places l) low high entries))
        ∙ first_map (given_row spec) spec.limit (map (row_in l) (range_of (places l) low high entries))
        ∙ ap (λ (rs : List TableRow). map (given_row spec) (first_of spec.limit rs)) (sym (same entries shaped.1));
  }
