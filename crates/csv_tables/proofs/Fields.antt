-- What a field means, by cases on what it is.
use Rattle.std.proofs.Common.{◌≡◌, ℕ, ◌<◌, Bool, true, false, not, if◌then◌else◌, nat_eq, List, [], ◌∷◌, length, Option, Some, None, option_map, is_some, refl, ap, sym, ◌∙◌, arith}
use Rattle.std.specs.List.{list_any}
use Rattle.std.specs.Str.{IsUtf8, bytes_eq}
use Rattle.std.proofs.lemmas.Str.{is_utf8-from_IsUtf8}
use Rattle.std.proofs.lemmas.Bool.Decides.{nat_tests}
use Rattle.med_value.specs.Datum.{NoValue, Whole, Chars, Logic}
use Rattle.med_value.specs.declared.value.ColType.{ColType}
use Rattle.med_value.specs.declared.value.ColType.TheVariants as types
use Rattle.csv_tables.specs.Cells.{cell_of, field_value, integer_of, truth_of, without_spaces}

-- the null text is NULL
pub cell_null : (null : List ℕ) (kind : ColType) (f : List ℕ) → IsUtf8 f → bytes_eq f null ≡ true → cell_of null kind f ≡ Some NoValue
cell_null null kind f u e = rw (is_utf8-from_IsUtf8 f u, e) refl

-- another field has a value by its column's type
pub cell_typed : (null : List ℕ) (kind : ColType) (f : List ℕ) → IsUtf8 f → bytes_eq f null ≡ false → cell_of null kind f ≡ field_value kind f
cell_typed null kind f u e = rw (is_utf8-from_IsUtf8 f u, e) refl

sym_eq : (a b : ℕ) → nat_eq a b ≡ nat_eq b a
sym_eq a b = grind (arith, nat_tests)

any_zero : (f : List ℕ) → list_any (λ y. nat_eq y 0) f ≡ list_any (nat_eq 0) f
any_zero [] = refl
any_zero (c ∷ cs) = rw (sym_eq c 0, any_zero cs) refl

value_text : (f : List ℕ) (b : Bool) → list_any (λ y. nat_eq y 0) f ≡ b → field_value types.Text f ≡ (if b then None else Some (Chars f))
value_text f b e = rw (sym (any_zero f) ∙ e) refl

none_left : (f : List ℕ) → length f ≡ 0 → f ≡ []
none_left [] e = refl
none_left (c ∷ cs) e = absurd (omega arith)

value_int_empty : (f : List ℕ) → length f ≡ 0 → field_value types.Int f ≡ Some NoValue
value_int_empty f e = ap (field_value types.Int) (none_left f e)

value_bool_empty : (f : List ℕ) → length f ≡ 0 → field_value types.Bool f ≡ Some NoValue
value_bool_empty f e = ap (field_value types.Bool) (none_left f e)

value_int : (f : List ℕ) → 0 < length f → field_value types.Int f ≡ option_map Whole (integer_of (without_spaces f))
value_int [] lt = absurd (omega arith)
value_int (c ∷ cs) lt = refl

value_bool : (f : List ℕ) → 0 < length f → field_value types.Bool f ≡ option_map Logic (truth_of f)
value_bool [] lt = absurd (omega arith)
value_bool (c ∷ cs) lt = refl

pub text_cell : (null : List ℕ) (kind : ColType) (f : List ℕ) (b : Bool) → kind ≡ types.Text → IsUtf8 f → bytes_eq f null ≡ false → list_any (λ y. nat_eq y 0) f ≡ b → cell_of null kind f ≡ (if b then None else Some (Chars f))
text_cell null kind f b k u e z = cell_typed null kind f u e ∙ ap (λ (k : ColType). field_value k f) k ∙ value_text f b z

pub int_null : (null : List ℕ) (kind : ColType) (f : List ℕ) → kind ≡ types.Int → IsUtf8 f → bytes_eq f null ≡ false → length f ≡ 0 → cell_of null kind f ≡ Some NoValue
int_null null kind f k u e z = cell_typed null kind f u e ∙ ap (λ (k : ColType). field_value k f) k ∙ value_int_empty f z

pub int_cell : (null : List ℕ) (kind : ColType) (f : List ℕ) → kind ≡ types.Int → IsUtf8 f → bytes_eq f null ≡ false → 0 < length f → cell_of null kind f ≡ option_map Whole (integer_of (without_spaces f))
int_cell null kind f k u e z = cell_typed null kind f u e ∙ ap (λ (k : ColType). field_value k f) k ∙ value_int f z

pub bool_null : (null : List ℕ) (kind : ColType) (f : List ℕ) → kind ≡ types.Bool → IsUtf8 f → bytes_eq f null ≡ false → length f ≡ 0 → cell_of null kind f ≡ Some NoValue
bool_null null kind f k u e z = cell_typed null kind f u e ∙ ap (λ (k : ColType). field_value k f) k ∙ value_bool_empty f z

pub bool_cell : (null : List ℕ) (kind : ColType) (f : List ℕ) → kind ≡ types.Bool → IsUtf8 f → bytes_eq f null ≡ false → 0 < length f → cell_of null kind f ≡ option_map Logic (truth_of f)
bool_cell null kind f k u e z = cell_typed null kind f u e ∙ ap (λ (k : ColType). field_value k f) k ∙ value_bool f z

pub some_mapped : {X Y : Type 0} (f : X → Y) (o : Option X) → is_some (option_map f o) ≡ is_some o
some_mapped f None = refl
some_mapped f (Some x) = refl

pub some_unless : {X : Type 0} (b : Bool) (x : X) → is_some (if b then None else Some x) ≡ not b
some_unless true x = refl
some_unless false x = refl
