-- What a record that comes meets, and what one that does not come fails.
use Rattle.std.proofs.Common.{◌≡◌, ℕ, ℤ, zero, suc, ◌+◌, ◌⊎◌, inl, inr, Bool, true, false, not, ◌&&◌, if◌then◌else◌, nat_eq, List, [], ◌∷◌, length, Option, Some, None, option_map, unwrap_or, refl, ap, sym, ◌∙◌, eqb}
use Rattle.std.specs.List.{list_any, AllByRecursion}
use Rattle.std.specs.Prelude.{All}
use Rattle.std.specs.Str.{is_utf8, bytes_eq}
use Rattle.std.proofs.lemmas.Bool.Decides.{eqb_tells}
use Rattle.std.proofs.lemmas.List.Elements.{All-weaker, All-from_recursion}
use Rattle.std.proofs.lemmas.Map.Text.{is_eq-slice_cmp}
use lib.Pointwise.{bytes_decides}
use Rattle.med_value.specs.Prelude.{Datum, NoValue, Whole, Chars, Logic, Tuple, cell, compares_true}
use Rattle.med_value.specs.declared.order.Comparison.TheVariants as comparisons
use Rattle.med_value.specs.declared.value.ColType.{ColType}
use Rattle.med_value.specs.declared.value.ColType.TheVariants as types
use Rattle.fdw_api.specs.Scan.{Spec, RestrictionForm, TestForm, Compares, Missing, Present, operand_value as operand_of, TableRow, checks, meets, meets_all, meets_exact}
use Rattle.fdw_api.specs.declared.scan.Agree.{Agree}
use Rattle.fdw_api.specs.declared.scan.Agree.TheVariants.{Ignored, Hint, Exact}
use Rattle.csv_tables.specs.Cells.{cell_of, record_cells, field_value, integer_of, truth_of, without_spaces}
use Rattle.csv_tables.specs.CsvRecords.{Record}
use Rattle.csv_tables.specs.Shapes.{Shape}
use Rattle.csv_tables.specs.Tables.{numbered, field_size}
use Rattle.csv_tables.specs.Scans.{comes, may_equal, may_meet}

-- a cell that is a text is its field
typed_chars : (kind : ColType) (f s : List ℕ) → unwrap_or (field_value kind f) NoValue ≡ Chars s → f ≡ s
typed_chars types.Text f s e = at (list_any (nat_eq 0) f) e
  where
    at : (b : Bool) → unwrap_or (if b then None else Some (Chars f)) NoValue ≡ Chars s → f ≡ s
    at true h = absurd cc
    at false h = cc
typed_chars types.Int [] s e = absurd cc
typed_chars types.Int (c ∷ cs) s e = at (integer_of (without_spaces (c ∷ cs))) e
  where
    at : (o : Option ℤ) → unwrap_or (option_map Whole o) NoValue ≡ Chars s → c ∷ cs ≡ s
    at None h = absurd cc
    at (Some n) h = absurd cc
typed_chars types.Bool [] s e = absurd cc
typed_chars types.Bool (c ∷ cs) s e = at (truth_of (c ∷ cs)) e
  where
    at : (o : Option Bool) → unwrap_or (option_map Logic o) NoValue ≡ Chars s → c ∷ cs ≡ s
    at None h = absurd cc
    at (Some b) h = absurd cc

value_chars : (null : List ℕ) (kind : ColType) (f s : List ℕ) → unwrap_or (cell_of null kind f) NoValue ≡ Chars s → f ≡ s
value_chars null kind f s e = at (is_utf8 f) (bytes_eq f null) e
  where
    at : (u b : Bool) → unwrap_or (if u then (if b then Some NoValue else field_value kind f) else None) NoValue ≡ Chars s → f ≡ s
    at false b h = absurd cc
    at true true h = absurd cc
    at true false h = typed_chars kind f s h

no_chars : (c : ℕ) (s : List ℕ) → cell [] c ≡ Chars s → ⊥
no_chars zero s e = cc
no_chars (suc c) s e = cc

cell_chars : (null : List ℕ) (ks : List ColType) (r : Record) (c : ℕ) (s : List ℕ) → cell (record_cells null ks r) c ≡ Chars s → field_size r c ≡ length s
cell_chars null [] r c s e = absurd (no_chars c s e)
cell_chars null (k ∷ ks) [] zero s e = absurd cc
cell_chars null (k ∷ ks) [] (suc c) s e = cell_chars null ks [] c s e
cell_chars null (k ∷ ks) (f ∷ fs) zero s e = ap length (value_chars null k f s e)
cell_chars null (k ∷ ks) (f ∷ fs) (suc c) s e = cell_chars null ks fs c s e

-- texts of two lengths are not equal
not_equal : (v : Datum) (t : List ℕ) → ((s : List ℕ) → v ≡ Chars s → nat_eq (length s) (length t) ≡ false) → compares_true comparisons.Equal v (Chars t) ≡ false
not_equal NoValue t h = refl
not_equal (Whole n) t h = refl
not_equal (Logic b) t h = refl
not_equal (Chars s) t h = is_eq-slice_cmp s t ∙ by (bytes_eq s t) refl
  where
    by : (b : Bool) → bytes_eq s t ≡ b → bytes_eq s t ≡ false
    by false e = e
    by true e = absurd (let same : s ≡ t = (bytes_decides s t).0 e in let d = h s refl in let f : nat_eq (length t) (length t) ≡ false = rw same at d in no_self (length t) f)
      where
        no_self : (n : ℕ) → nat_eq n n ≡ false → ⊥
        no_self n e = go (eqb_tells n n)
          where
            go : ((eqb n n ≡ true) × (n ≡ n)) ⊎ ((eqb n n ≡ false) × (n ≡ n → ⊥)) → ⊥
            go (inl w) = let d = w.0 in cc
            go (inr w) = w.1 refl

missing_false : (v : Datum) → compares_true comparisons.Equal v NoValue ≡ false
missing_false NoValue = refl
missing_false (Whole n) = refl
missing_false (Chars s) = refl
missing_false (Logic b) = refl

equal_fails : (size : ℕ) (v w : Datum) → ((s : List ℕ) → v ≡ Chars s → size ≡ length s) → may_equal size w ≡ false → compares_true comparisons.Equal v w ≡ false
equal_fails size v NoValue h e = missing_false v
equal_fails size v (Chars t) h e = not_equal v t (λ s q. rw (h s q) at e)
equal_fails size v (Whole n) h e = absurd cc
equal_fails size v (Logic b) h e = absurd cc

check_fails : (params : Tuple) (size : ℕ) (check : TestForm) (v : Datum) → ((s : List ℕ) → v ≡ Chars s → size ≡ length s) → may_meet params size check ≡ false → checks params check v ≡ false
check_fails params size (Compares comparisons.Equal o) v h e = equal_fails size v (operand_of params o) h e
check_fails params size (Compares comparisons.Apart o) v h e = absurd cc
check_fails params size (Compares comparisons.Below o) v h e = absurd cc
check_fails params size (Compares comparisons.AtMost o) v h e = absurd cc
check_fails params size (Compares comparisons.Above o) v h e = absurd cc
check_fails params size (Compares comparisons.AtLeast o) v h e = absurd cc
check_fails params size Missing v h e = absurd cc
check_fails params size Present v h e = absurd cc

-- a record that a hint leaves out does not meet its restriction
hint_fails : (null : List ℕ) (ks : List ColType) (r : Record) (params : Tuple) (f : RestrictionForm) → may_meet params (field_size r f.column) f.test ≡ false → meets params (record_cells null ks r) f ≡ false
hint_fails null ks r params f e = check_fails params (field_size r f.column) f.test (cell (record_cells null ks r) f.column) (λ s q. cell_chars null ks r f.column s q) e

both_fail : (b x y : Bool) → (not x ≡ true → y ≡ false) → not (b && x) ≡ true → (b && y) ≡ false
both_fail true x y f e = f e
both_fail false x y f e = refl

one_fails : (b y : Bool) → y ≡ false → (b && y) ≡ false
one_fails true y e = e
one_fails false y e = refl

either_fails : (b x m y : Bool) → (b ≡ false → m ≡ false) → (not x ≡ true → y ≡ false) → not (b && x) ≡ true → (m && y) ≡ false
either_fails true x m y h g e = one_fails m y (g e)
either_fails false x m y h g e = rw (h refl) refl

-- a record that does not come does not meet all restrictions
left_out_fails : (null : List ℕ) (ks : List ColType) (r : Record) (fs : List RestrictionForm) (answers : List Agree) (params : Tuple) → not (comes fs answers params (record_cells null ks r) r) ≡ true → meets_all fs params (record_cells null ks r) ≡ false
left_out_fails null ks r [] answers params e = absurd cc
left_out_fails null ks r (f ∷ fs) [] params e = absurd cc
left_out_fails null ks r (f ∷ fs) (Exact ∷ answers) params e = both_fail (meets params (record_cells null ks r) f) (comes fs answers params (record_cells null ks r) r) _ (left_out_fails null ks r fs answers params) e
left_out_fails null ks r (f ∷ fs) (Ignored ∷ answers) params e = one_fails (meets params (record_cells null ks r) f) _ (left_out_fails null ks r fs answers params e)
left_out_fails null ks r (f ∷ fs) (Hint ∷ answers) params e = either_fails (may_meet params (field_size r f.column) f.test) (comes fs answers params (record_cells null ks r) r) (meets params (record_cells null ks r) f) _ (hint_fails null ks r params f) (left_out_fails null ks r fs answers params) e

-- a record that comes meets what is answered Exact
pub taken_meets : (cells : Tuple) (r : Record) (fs : List RestrictionForm) (answers : List Agree) (params : Tuple) → comes fs answers params cells r ≡ true → meets_exact fs answers params cells ≡ true
taken_meets cells r [] answers params e = refl
taken_meets cells r (f ∷ fs) [] params e = refl
taken_meets cells r (f ∷ fs) (Exact ∷ answers) params e = keep (meets params cells f) (comes fs answers params cells r) (meets_exact fs answers params cells) (taken_meets cells r fs answers params) e
  where
    keep : (b x y : Bool) → (x ≡ true → y ≡ true) → (b && x) ≡ true → (b && y) ≡ true
    keep true x y h g = h g
    keep false x y h g = g
taken_meets cells r (f ∷ fs) (Ignored ∷ answers) params e = taken_meets cells r fs answers params e
taken_meets cells r (f ∷ fs) (Hint ∷ answers) params e = taken_meets cells r fs answers params (second (may_meet params (field_size r f.column) f.test) (comes fs answers params cells r) e)
  where
    second : (b x : Bool) → (b && x) ≡ true → x ≡ true
    second true x g = g
    second false x g = absurd cc

-- each row has the cells of its record
abbrev Decoded : Shape → TableRow → Type 0
Decoded shape r = r.cells ≡ record_cells shape.null shape.kinds r.origin

all_decoded : (shape : Shape) (n : ℕ) (rs : List Record) → AllByRecursion (Decoded shape) (numbered shape n rs)
all_decoded shape n [] = tt
all_decoded shape n (r ∷ rs) = (refl, all_decoded shape (n + 1) rs)

-- a row of a table that does not come does not meet all restrictions
abbrev Sound : Spec → Tuple → TableRow → Type 0
Sound spec params r = comes spec.offered spec.answers params r.cells r.origin ≡ false → meets_all spec.offered params r.cells ≡ false

row_sound : (shape : Shape) (spec : Spec) (params : Tuple) (r : TableRow) → Decoded shape r → Sound spec params r
row_sound shape spec params r d e =
    ap (meets_all spec.offered params) d
    ∙ left_out_fails shape.null shape.kinds r.origin spec.offered spec.answers params (ap (λ (cells : Tuple). not (comes spec.offered spec.answers params cells r.origin)) (sym d) ∙ ap not e)

pub rows_sound : (shape : Shape) (rs : List Record) (spec : Spec) (params : Tuple)
    → All (λ r. comes spec.offered spec.answers params r.cells r.origin ≡ false → meets_all spec.offered params r.cells ≡ false) (numbered shape 0 rs)
rows_sound shape rs spec params =
    All-weaker (Decoded shape) (Sound spec params) (row_sound shape spec params) (numbered shape 0 rs)
    (All-from_recursion (Decoded shape) (numbered shape 0 rs) (all_decoded shape 0 rs))

-- a cell whose field is of another length than a text is not equal to it
pub lengths_apart : (null : List ℕ) (ks : List ColType) (r : Record) (column : ℕ) (v : Datum) → may_equal (field_size r column) v ≡ false
    → compares_true comparisons.Equal (cell (record_cells null ks r) column) v ≡ false
lengths_apart null ks r column v e = equal_fails (field_size r column) (cell (record_cells null ks r) column) v (λ s q. cell_chars null ks r column s q) e
