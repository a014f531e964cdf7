-- The rows that a scan leaves out which is offered the WHERE of a write are out, whatever else WHERE says of them.
use Rattle.std.proofs.Common.{◌≡◌, ℕ, ◌<◌, ◌-◌, Bool, true, false, not, ◌&&◌, ◌||◌, cond, nat_lt, List, [], ◌∷◌, ◌++◌, map, Option, Some, None, All, IsPermutation, refl, sym, ap, ◌∙◌, subst, arith}
use Rattle.std.specs.List.{list_any}
use Rattle.std.proofs.lemmas.Bool.Decides.{Decides-ltb}
use Rattle.std.proofs.lemmas.List.{append-nil, map-append}
use Rattle.std.proofs.lemmas.List.Elements.{All-nil, All-map, All-weaker, All-from_get_or}
use Rattle.std.proofs.lemmas.Option.{same_Some}
use Rattle.med_value.specs.Prelude.{Datum, NoValue, Whole, Chars, Logic, Tuple, cell, is_missing, compares_true}
use Rattle.med_value.specs.declared.value.ColType.{ColType}
use Rattle.med_value.specs.declared.order.Comparison.{Comparison}
use Rattle.med_value.specs.declared.operators.Status.TheVariants as statuses
use Rattle.tri_expr.specs.Prelude.{Tree, column, literal, compare, asks, bare, Outcome, Is, Fails, compared, tested, OnClass, tree_meaning, means, HasValue, is_met, is_refusal}
use Rattle.med_query.specs.Query.{on_row}
use Rattle.fdw_api.specs.Prelude.{RestrictionForm, Spec, TableRow, GivenRow, IsComing, plain_spec, given_row, meets, meets_all, pick, test_fits, params_fit, spec_of, spec_by, BoxState, Allows, CanBegin}
use Rattle.fdw_api.specs.declared.scan.Agreement.{Agreement}
use Rattle.fdw_api.specs.declared.scan.ScanSpec.{ScanSpec}
use Rattle.fdw_api.proofs.Unpromised.{any_order, all_first}
use Rattle.pushdown.specs.Tests.{TestOf, with_literal, with_earlier, asks_null, passes, mirrored, in_entry, either, where_in, with_other, offered_test}
use Rattle.pushdown.specs.Offers.{form_by, next_by, tests_of, forms_from, is_true}
use Rattle.pushdown.specs.Laws.{TestsDecide}
use Rattle.med_write.specs.Laws.{is_out}
use Rattle.med_exec.specs.WriteReading.{OffersWhere}

abbrev pub Bares : Type 0
Bares = (params : Tuple) (t : Tree) → tree_meaning params (bare t) ≡ tree_meaning params t

-- ---- one test

-- a value that is not true is a refusal
refused : (o : Outcome) → HasValue o → is_met o ≡ false → is_refusal o ≡ true
refused (Is NoValue) h e = refl
refused (Is (Whole n)) h e = refl
refused (Is (Chars t)) h e = refl
refused (Is (Logic b)) h e = ap not e
refused (Fails c) h e = absurd h

compared_value : (op : Comparison) (u v : Datum) → HasValue (compared op (Is u) (Is v))
compared_value op NoValue v = tt
compared_value op (Whole m) NoValue = tt
compared_value op (Whole m) (Whole n) = tt
compared_value op (Whole m) (Chars t) = tt
compared_value op (Whole m) (Logic b) = tt
compared_value op (Chars s) NoValue = tt
compared_value op (Chars s) (Whole n) = tt
compared_value op (Chars s) (Chars t) = tt
compared_value op (Chars s) (Logic b) = tt
compared_value op (Logic p) NoValue = tt
compared_value op (Logic p) (Whole n) = tt
compared_value op (Logic p) (Chars t) = tt
compared_value op (Logic p) (Logic b) = tt

inside : (b : Bool) (t o : TestOf) → cond b (Some t) None ≡ Some o → t ≡ o
inside true t o e = same_Some t o e
inside false t o e = absurd cc

none_below : (b : ℕ) → nat_lt b 0 ≡ false
none_below b = split (nat_lt b 0) refl
  where
    split : (p : Bool) → nat_lt b 0 ≡ p → p ≡ false
    split false e = refl
    split true e = absurd (let low : b < 0 = (Decides-ltb b 0).0 e in omega (arith, low))

no_other : (width a : ℕ) (op : Comparison) (b : ℕ) → with_other 0 width a op b ≡ None
no_other width a op b = ap (λ (p : Bool). cond p (where_in 0 width a (with_earlier (a - 0) op b)) None) (none_below b)

sub_zero : (a : ℕ) → a ≡ a - 0
sub_zero a = omega arith

-- a conjunct that is offered: it has a value on each row, which the restriction tells; and it reads no parameter
record IsTest (t : Tree) (o : TestOf) : Type 0 where
  value : (r : Tuple) → HasValue (tree_meaning [] t (r ∷ []))
  tells : (k : ℕ) (r : Tuple) → meets [] r (form_by k o) ≡ is_met (tree_meaning [] t (r ∷ []))
  fits : (k : ℕ) (kinds : List ColType) → test_fits kinds [] (form_by k o).column (form_by k o).test ≡ true

module _ (law : TestsDecide) where
  right_met : (op : Comparison) (u v : Datum) → is_met (compared op (Is u) (Is v)) ≡ compares_true op u v
  right_met op u v = law 0 1 (compare op (column 0) (literal v)) (with_literal 0 op v) refl [] (u ∷ []) refl refl

  left_met : (op : Comparison) (u v : Datum) → is_met (compared op (Is v) (Is u)) ≡ compares_true (mirrored op) u v
  left_met op u v = law 0 1 (compare op (literal v) (column 0)) (with_literal 0 (mirrored op) v) refl [] (u ∷ []) refl refl

  null_met : (negative : Bool) (u : Datum) → is_met (tested statuses.Null negative (Is u)) ≡ cond negative (not (is_missing u)) (is_missing u)
  null_met negative u = law 0 1 (asks statuses.Null negative (column 0)) (asks_null 0 negative) refl [] (u ∷ []) refl refl

  null_tells : (k at : ℕ) (negative : Bool) (r : Tuple) → meets [] r (form_by k (asks_null at negative)) ≡ is_met (tested statuses.Null negative (Is (cell r at)))
  null_tells k at true r = sym (null_met true (cell r at))
  null_tells k at false r = sym (null_met false (cell r at))

  null_fits : (k at : ℕ) (negative : Bool) (kinds : List ColType) → test_fits kinds [] (form_by k (asks_null at negative)).column (form_by k (asks_null at negative)).test ≡ true
  null_fits k at true kinds = refl
  null_fits k at false kinds = refl

  is_test : (width : ℕ) (t : Tree) (o : TestOf) → offered_test 0 width t ≡ Some o → IsTest t o
  is_test width (compare op (column a) (literal v)) o e =
      subst (IsTest (compare op (column a) (literal v))) (ap (λ (at : ℕ). with_literal at op v) (sub_zero a) ∙ inside (in_entry 0 width a) (with_literal (a - 0) op v) o e)
      (record { value = λ r. compared_value op (cell r a) v; tells = λ k r. sym (right_met op (cell r a) v); fits = λ k kinds. refl })
  is_test width (compare op (literal v) (column a)) o e =
      subst (IsTest (compare op (literal v) (column a))) (ap (λ (at : ℕ). with_literal at (mirrored op) v) (sub_zero a) ∙ inside (in_entry 0 width a) (with_literal (a - 0) (mirrored op) v) o e)
      (record { value = λ r. compared_value op v (cell r a); tells = λ k r. sym (left_met op (cell r a) v); fits = λ k kinds. refl })
  is_test width (compare op (column a) (column b)) o e = absurd (let f : None ≡ Some o = sym (both width a op b) ∙ e in cc)
    where
      both : (width a : ℕ) (op : Comparison) (b : ℕ) → either (with_other 0 width a op b) (with_other 0 width b (mirrored op) a) ≡ None
      both width a op b = ap (λ (x : Option TestOf). either x (with_other 0 width b (mirrored op) a)) (no_other width a op b) ∙ no_other width b (mirrored op) a
  is_test width (asks statuses.Null negative (column a)) o e =
      subst (IsTest (asks statuses.Null negative (column a))) (ap (λ (at : ℕ). asks_null at negative) (sub_zero a) ∙ inside (in_entry 0 width a) (asks_null (a - 0) negative) o e)
      (record { value = λ r. tt; tells = λ k r. null_tells k a negative r; fits = λ k kinds. null_fits k a negative kinds })
  is_test width t o e = absurd cc

-- ---- all of them

or_true : (a b : Bool) → a ≡ true → (a || b) ≡ true
or_true true b e = refl
or_true false b e = absurd cc

or_later : (a b : Bool) → b ≡ true → (a || b) ≡ true
or_later true b e = refl
or_later false b e = e

one_false : (a b c d : Bool) → (a ≡ false → c ≡ true) → (b ≡ false → d ≡ true) → (a && b) ≡ false → (c || d) ≡ true
one_false true b c d first later e = or_later c d (later e)
one_false false b c d first later e = or_true c d (first refl)

module _ (law : TestsDecide) (same : Bares) (width : ℕ) where
  -- a conjunct as it is written, by what stands in its parentheses
  own : (t : Tree) (o : TestOf) → offered_test 0 width (bare t) ≡ Some o → IsTest t o
  own t o e = record {
    value = λ r. subst (λ (f : OnClass). HasValue (f (r ∷ []))) (same [] t) (w.value r);
    tells = λ k r. w.tells k r ∙ ap (λ (f : OnClass). is_met (f (r ∷ []))) (same [] t);
    fits = w.fits;
  }
    where
      w : IsTest (bare t) o
      w = is_test law width (bare t) o e

  left_step : (t : Tree) (ts : List Tree) (r : Tuple) (k : ℕ) (o : Option TestOf) → offered_test 0 width (bare t) ≡ o
      → ((j : ℕ) → meets_all (forms_from j (tests_of 0 width ts)) [] r ≡ false → list_any is_refusal (on_row (means [] ts) r) ≡ true)
      → meets_all (forms_from k (o ∷ tests_of 0 width ts)) [] r ≡ false → list_any is_refusal (on_row (means [] (t ∷ ts)) r) ≡ true
  left_step t ts r k None q ih e = or_later (is_refusal (tree_meaning [] t (r ∷ []))) (list_any is_refusal (on_row (means [] ts) r)) (ih k e)
  left_step t ts r k (Some o) q ih e =
      let w = own t o q in
      one_false (meets [] r (form_by k o)) (meets_all (forms_from (next_by o k) (tests_of 0 width ts)) [] r)
      (is_refusal (tree_meaning [] t (r ∷ []))) (list_any is_refusal (on_row (means [] ts) r))
      (λ f. refused (tree_meaning [] t (r ∷ [])) (w.value r) (sym (w.tells k r) ∙ f)) (ih (next_by o k)) e

  left_out : (ts : List Tree) (r : Tuple) (k : ℕ) → meets_all (forms_from k (tests_of 0 width ts)) [] r ≡ false → list_any is_refusal (on_row (means [] ts) r) ≡ true
  left_out [] r k e = absurd cc
  left_out (t ∷ ts) r k e = left_step t ts r k (offered_test 0 width (bare t)) refl (λ j f. left_out ts r j f) e

  fit_step : (kinds : List ColType) (t : Tree) (ts : List Tree) (k : ℕ) (o : Option TestOf) → offered_test 0 width (bare t) ≡ o
      → ((j : ℕ) → params_fit kinds (forms_from j (tests_of 0 width ts)) [] ≡ true) → params_fit kinds (forms_from k (o ∷ tests_of 0 width ts)) [] ≡ true
  fit_step kinds t ts k None q ih = ih k
  fit_step kinds t ts k (Some o) q ih = rw ((own t o q).fits k kinds) (ih (next_by o k))

  -- what is offered reads no parameter
  pub no_params : (kinds : List ColType) (ts : List Tree) (k : ℕ) → params_fit kinds (forms_from k (tests_of 0 width ts)) [] ≡ true
  no_params kinds [] k = refl
  no_params kinds (t ∷ ts) k = fit_step kinds t ts k (offered_test 0 width (bare t)) refl (λ j. no_params kinds ts j)

  module _ (conditions : List Tree) (rows : List TableRow) (spec : Spec) (read : List GivenRow) (offers : OffersWhere width conditions spec) (c : IsComing rows spec [] read) where
    abbrev as_whole : TableRow → GivenRow
    as_whole = given_row (plain_spec [] [])

    abbrev shown_by : Bool → TableRow → GivenRow
    shown_by narrow r = record { id = r.id; cells = cond narrow (pick spec.wanted r.cells) r.cells }

    -- the rows that do not come
    abbrev pub rows_missing : List GivenRow
    rows_missing = map as_whole c.left_out

    pub missing_out : All (λ r. is_out (means [] conditions) r.cells ≡ true) rows_missing
    missing_out =
        All-map (λ r. is_out (means [] conditions) r.cells ≡ true) as_whole c.left_out
        (All-weaker (λ r. meets_all spec.offered [] r.cells ≡ false) (λ r. is_out (means [] conditions) r.cells ≡ true)
        (λ r e. left_out conditions r.cells 0 (subst (λ (fs : List RestrictionForm). meets_all fs [] r.cells ≡ false) offers.offered e)) c.left_out c.failing)

    as_they_are : (rs : List TableRow) → map (given_row spec) rs ≡ map as_whole rs
    as_they_are [] = refl
    as_they_are (r ∷ rs) = ap (λ (b : Bool). shown_by b r ∷ map (given_row spec) rs) offers.whole ∙ ap (λ l. as_whole r ∷ l) (as_they_are rs)

    -- with them, all rows of the table
    pub all_rows : IsComing rows (plain_spec [] []) [] (read ++ rows_missing)
    all_rows = record {
      taken = c.taken ++ c.left_out;
      left_out = [];
      parts = subst (IsPermutation rows) (sym (append-nil (c.taken ++ c.left_out))) c.parts;
      failing = All-nil (λ r. meets_all [] [] r.cells ≡ false);
      exact = All-from_get_or (λ r. true ≡ true) (c.taken ++ c.left_out) (record { id = 0; cells = []; origin = [] }) (λ i lt. refl);
      sorted = any_order [] refl (c.taken ++ c.left_out);
      is =
          ap (λ l. l ++ rows_missing) (c.is ∙ ap (map (given_row spec)) (all_first spec.limit offers.unlimited c.taken) ∙ as_they_are c.taken)
          ∙ sym (map-append as_whole c.taken c.left_out);
    }

-- a scan that is offered WHERE may begin with whole rows, by what the box agreed to
pub begins_whole : TestsDecide → Bares → (width : ℕ) (conditions : List Tree) (s : BoxState) (t : ℕ) (spec : ScanSpec) (agreed : Agreement) → (spec_of spec).offered ≡ forms_from 0 (tests_of 0 width conditions) → spec_of spec ≡ record (spec_by [] (spec_of spec).offered agreed) { narrow = false } → Allows s t (spec_by [] (spec_of spec).offered agreed) → CanBegin s t spec []
begins_whole law same width conditions s t spec agreed offered is a = record {
  bound = a.bound;
  is = a.is;
  allowed = subst (λ (x : Spec). a.bound.allows x ≡ true) (sym is) (a.bound.allows_whole (spec_by [] (spec_of spec).offered agreed) a.allowed);
  typed = subst (λ (fs : List RestrictionForm). params_fit a.bound.kinds fs [] ≡ true) (sym offered) (no_params law same width a.bound.kinds conditions 0);
}
