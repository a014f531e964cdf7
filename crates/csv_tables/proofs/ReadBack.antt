-- A written row is read again as it is.
use Rattle.std.proofs.Common.{◌≡◌, ◌≢◌, ℕ, ℤ, pos, negsuc, zero, suc, ◌-◌, ◌^◌, ◌<◌, ◌≤◌, ◌⊎◌, inl, inr, Bool, true, false, not, ◌&&◌, ◌||◌, if◌then◌else◌, nat_eq, nat_lt, nat_le, List, [], ◌∷◌, ◌++◌, length, map, get_or, reverse, codes, Option, Some, None, option_map, unwrap_or, Contains, refl, ap, sym, ◌∙◌, arith, lit<, eqb}
use Rattle.std.specs.List.{list_all, list_any}
use Rattle.std.specs.Fmt.{decimal, signed_decimal}
use Rattle.std.specs.Str.{IsAscii, IsUtf8, is_utf8, bytes_eq, all_ascii_digits}
use Rattle.std.specs.Str.Parse.{AllDigits, digits_value}
use Rattle.std.proofs.Math.IntN.{neg_ℤ}
use Rattle.std.proofs.lemmas.Bool.Decides.{eqb_tells, nat_tests}
use Rattle.std.proofs.lemmas.List.{reverse-append, reverse-reverse}
use lib.Pointwise.{bytes_decides}
use Rattle.std.proofs.lemmas.Str.{IsUtf8-from_ascii, IsUtf8-from_is_utf8}
use Rattle.std.proofs.lemmas.Str.Parse.{IsNumeralModel, numerals_by_value, tells_all_ascii_digits, digit_from_value}
use Rattle.std.proofs.lemmas.Fmt.{decimal_is_IsNumeral, IsAscii-signed}
use Rattle.med_value.specs.Datum.{Datum, NoValue, Whole, Chars, Logic, Tuple, datum}
use Rattle.med_value.specs.declared.value.Value.{Value}
use Rattle.med_value.specs.declared.value.ColType.{ColType}
use Rattle.med_value.specs.declared.value.ColType.TheVariants as types
use Rattle.med_value.specs.declared.cause.Cause.{Cause}
use Rattle.fdw_api.specs.Scan.{row_fits, has_kind, is_clean}
use Rattle.csv_tables.specs.Cells.{cell_of, field_value, integer_of, skip_spaces, without_spaces, record_cells, field_of, line_of, reads_as_null}
use Rattle.csv_tables.specs.Shapes.{unless}
use Rattle.csv_tables.specs.Rewriting.{is_i64, is_storable}
use Rattle.csv_tables.proofs.Fields.{cell_typed, int_cell, bool_cell}

both : (a b : Bool) → (a && b) ≡ true → (a ≡ true) × (b ≡ true)
both true b e = (refl, e)
both false b e = absurd cc

abbrev AreDigits : List ℕ → Type 0
AreDigits ds = all_ascii_digits ds ≡ true

own : IsNumeralModel AreDigits (digits_value 10)
own = numerals_by_value AreDigits tells_all_ascii_digits

digit_head : (ds : List ℕ) → AllDigits 10 ds → 0 < length ds → 48 ≤ get_or ds 0 0
digit_head [] d lt = absurd (omega arith)
digit_head (c ∷ cs) d lt = omega (arith, digit_from_value c d.0)

no_sign : (ds : List ℕ) (c : ℕ) → c < 48 → AllDigits 10 ds → 0 < length ds → eqb (get_or ds 0 0) c ≡ false
no_sign ds c low d lt = at (eqb_tells (get_or ds 0 0) c)
  where
    at : ((eqb (get_or ds 0 0) c ≡ true) × (get_or ds 0 0 ≡ c)) ⊎ ((eqb (get_or ds 0 0) c ≡ false) × (get_or ds 0 0 ≢ c)) → eqb (get_or ds 0 0) c ≡ false
    at (inl w) = absurd (let h = digit_head ds d lt in let e = w.1 in omega arith)
    at (inr w) = w.0

true_lt : (m n : ℕ) → m < n → nat_lt m n ≡ true
true_lt m n e = grind (arith, nat_tests)

lt_true : (m n : ℕ) → nat_lt m n ≡ true → m < n
lt_true m n e = grind (arith, nat_tests)

true_le : (m n : ℕ) → m ≤ n → nat_le m n ≡ true
true_le m n e = grind (arith, nat_tests)

all_three : (a b c : Bool) → a ≡ true → b ≡ true → c ≡ true → (a && b && c) ≡ true
all_three a b c p q r = rw (p, q, r) refl

chosen : (test : Bool) (x y : ℤ) → test ≡ true → x ≡ y → (if test then Some x else None) ≡ Some y
chosen test x y t e = rw (t, e) refl

-- an integer in its range is read from its decimal digits
integer_back : (z : ℤ) → is_i64 z ≡ true → integer_of (signed_decimal z) ≡ Some z
integer_back (pos n) r =
    let small = lt_true n (2 ^ 63) r in
    let k = decimal_is_IsNumeral n (omega arith) in
    let minus = no_sign (decimal n) 45 (lit< tt) k.0.1 k.0.0 in
    let plus = no_sign (decimal n) 43 (lit< tt) k.0.1 k.0.0 in
    let v = k.1 in
    rw (minus, plus)
    (chosen _ _ _ (all_three (nat_lt 0 (length (decimal n))) (all_ascii_digits (decimal n)) (nat_le (digits_value 10 (decimal n)) (2 ^ 63 - 1)) (true_lt 0 (length (decimal n)) k.0.0) (own.from (decimal n) k.0.1) (true_le (digits_value 10 (decimal n)) (2 ^ 63 - 1) (omega arith)))
    (ap (λ (m : ℕ). pos m) v))
integer_back (negsuc n) r =
    let small = lt_true n (2 ^ 63) r in
    let k = decimal_is_IsNumeral (suc n) (omega arith) in
    let v = k.1 in
    chosen _ _ _ (all_three (nat_lt 0 (length (decimal (suc n)))) (all_ascii_digits (decimal (suc n))) (nat_le (digits_value 10 (decimal (suc n))) (2 ^ 63)) (true_lt 0 (length (decimal (suc n))) k.0.0) (own.from (decimal (suc n)) k.0.1) (true_le (digits_value 10 (decimal (suc n))) (2 ^ 63) (omega arith)))
    (ap (λ (m : ℕ). neg_ℤ (pos m)) v)

-- digits have no space
abbrev no_space : List ℕ → Bool
no_space [] = true
no_space (c ∷ cs) = not (nat_eq c 32) && no_space cs

no_space_more : (xs ys : List ℕ) → no_space xs ≡ true → no_space ys ≡ true → no_space (xs ++ ys) ≡ true
no_space_more [] ys h g = g
no_space_more (x ∷ xs) ys h g = at (not (nat_eq x 32)) (no_space xs) (no_space (xs ++ ys)) h (λ e. no_space_more xs ys e g)
  where
    at : (a b d : Bool) → (a && b) ≡ true → (b ≡ true → d ≡ true) → (a && d) ≡ true
    at true b d p f = f p
    at false b d p f = absurd cc

no_space_digits : (ds : List ℕ) → AllDigits 10 ds → no_space ds ≡ true
no_space_digits [] d = refl
no_space_digits (c ∷ cs) d = let h = digit_from_value c d.0 in rw (apart c (omega arith)) (no_space_digits cs d.1)
  where
    apart : (n : ℕ) → 32 < n → nat_eq n 32 ≡ false
    apart n lt = grind (arith, nat_tests)

skip_none : (t : List ℕ) → no_space t ≡ true → skip_spaces t ≡ t
skip_none [] h = refl
skip_none (c ∷ cs) h = at (nat_eq c 32) h
  where
    at : (b : Bool) → (not b && no_space cs) ≡ true → (if b then skip_spaces cs else c ∷ cs) ≡ c ∷ cs
    at true p = absurd cc
    at false p = refl

no_space_back : (t : List ℕ) → no_space t ≡ true → no_space (reverse t) ≡ true
no_space_back [] h = refl
no_space_back (c ∷ cs) h =
    let w = both (not (nat_eq c 32)) (no_space cs) h in
    ap no_space (reverse-append (c ∷ []) cs) ∙ no_space_more (reverse cs) (c ∷ []) (no_space_back cs w.1) (rw w.0 refl)

spaces_none : (t : List ℕ) → no_space t ≡ true → without_spaces t ≡ t
spaces_none t h = rw (skip_none t h, skip_none (reverse t) (no_space_back t h)) (reverse-reverse t)

decimal_spaces : (z : ℤ) → is_i64 z ≡ true → no_space (signed_decimal z) ≡ true
decimal_spaces (pos n) r = let small = lt_true n (2 ^ 63) r in no_space_digits (decimal n) (decimal_is_IsNumeral n (omega arith)).0.1
decimal_spaces (negsuc n) r = let small = lt_true n (2 ^ 63) r in no_space_digits (decimal (suc n)) (decimal_is_IsNumeral (suc n) (omega arith)).0.1

decimal_some : (z : ℤ) → is_i64 z ≡ true → 0 < length (signed_decimal z)
decimal_some (pos n) r = let small = lt_true n (2 ^ 63) r in (decimal_is_IsNumeral n (omega arith)).0.0
decimal_some (negsuc n) r = omega arith

pub decimal_utf8 : (z : ℤ) → is_i64 z ≡ true → IsUtf8 (signed_decimal z)
decimal_utf8 (pos n) r = let small = lt_true n (2 ^ 63) r in IsUtf8-from_ascii (signed_decimal (pos n)) (IsAscii-signed (pos n) small)
decimal_utf8 (negsuc n) r = let small = lt_true n (2 ^ 63) r in IsUtf8-from_ascii (signed_decimal (negsuc n)) (IsAscii-signed (negsuc n) small)

pub one_ascii : (c : ℕ) → c < 128 → IsAscii (c ∷ [])
one_ascii c lt zero = lt
one_ascii c lt (suc zero) = lit< tt
one_ascii c lt (suc (suc i)) = lit< tt

not_true : (b : Bool) → not b ≡ true → b ≡ false
not_true true e = absurd cc
not_true false e = refl

neither : (a b : Bool) → (a || b) ≡ false → (a ≡ false) × (b ≡ false)
neither true b e = absurd cc
neither false b e = (refl, e)

no_value : (u b : Bool) (o : Option Datum) → b ≡ true → unwrap_or (if u then (if b then Some NoValue else o) else None) NoValue ≡ NoValue
no_value false b o e = refl
no_value true b o e = rw e refl

same_bytes : (t : List ℕ) → bytes_eq t t ≡ true
same_bytes t = (bytes_decides t t).1 refl

-- a value is read again from its field
pub cell_back : (null : List ℕ) (kind : ColType) (v : Datum) → (has_kind kind v && is_clean v) ≡ true → reads_as_null null v ≡ false → is_storable v ≡ true → unwrap_or (cell_of null kind (field_of null v)) NoValue ≡ v
cell_back null kind NoValue fits clear held = no_value (is_utf8 null) (bytes_eq null null) (field_value kind null) (same_bytes null)
cell_back null types.Int (Whole z) fits clear held =
    ap (λ (o : Option Datum). unwrap_or o NoValue)
    (int_cell null types.Int (signed_decimal z) refl (decimal_utf8 z held) clear (decimal_some z held)
    ∙ ap (λ (t : List ℕ). option_map Whole (integer_of t)) (spaces_none (signed_decimal z) (decimal_spaces z held)) ∙ ap (option_map Whole) (integer_back z held))
cell_back null types.Int (Chars t) fits clear held = absurd cc
cell_back null types.Int (Logic b) fits clear held = absurd cc
cell_back null types.Text (Whole z) fits clear held = absurd cc
cell_back null types.Text (Chars t) fits clear held =
    ap (λ (o : Option Datum). unwrap_or o NoValue)
    (cell_typed null types.Text t (IsUtf8-from_is_utf8 t held) clear ∙ ap (λ (b : Bool). if b then None else Some (Chars t)) (not_true (list_any (nat_eq 0) t) fits))
cell_back null types.Text (Logic b) fits clear held = absurd cc
cell_back null types.Bool (Whole z) fits clear held = absurd cc
cell_back null types.Bool (Chars t) fits clear held = absurd cc
cell_back null types.Bool (Logic true) fits clear held = ap (λ (o : Option Datum). unwrap_or o NoValue) (bool_cell null types.Bool (codes "t") refl (IsUtf8-from_ascii (codes "t") (one_ascii 116 (lit< tt))) clear (lit< tt))
cell_back null types.Bool (Logic false) fits clear held = ap (λ (o : Option Datum). unwrap_or o NoValue) (bool_cell null types.Bool (codes "f") refl (IsUtf8-from_ascii (codes "f") (one_ascii 102 (lit< tt))) clear (lit< tt))

pub row_back : (null : List ℕ) (kinds : List ColType) (vs : Tuple) → row_fits kinds vs ≡ true → list_any (reads_as_null null) vs ≡ false → list_all is_storable vs ≡ true → record_cells null kinds (line_of null vs) ≡ vs
row_back null [] [] fits clear held = refl
row_back null [] (v ∷ vs) fits clear held = absurd cc
row_back null (k ∷ ks) [] fits clear held = absurd cc
row_back null (k ∷ ks) (v ∷ vs) fits clear held =
    let f = both (has_kind k v && is_clean v) (row_fits ks vs) fits in
    let c = neither (reads_as_null null v) (list_any (reads_as_null null) vs) clear in
    let h = both (is_storable v) (list_all is_storable vs) held in
    ap (λ (d : Datum). d ∷ record_cells null ks (line_of null vs)) (cell_back null k v f.0 c.0 h.0) ∙ ap (λ (l : Tuple). v ∷ l) (row_back null ks vs f.1 c.1 h.1)

-- a line is as wide as the columns
pub line_width : (null : List ℕ) (kinds : List ColType) (vs : Tuple) → row_fits kinds vs ≡ true → length (line_of null vs) ≡ length kinds
line_width null [] [] fits = refl
line_width null [] (v ∷ vs) fits = absurd cc
line_width null (k ∷ ks) [] fits = absurd cc
line_width null (k ∷ ks) (v ∷ vs) fits = ap suc (line_width null ks vs (both (has_kind k v && is_clean v) (row_fits ks vs) fits).1)

-- a value that would be read as NULL
pub any_here : (p : Datum → Bool) (xs : List Value) (i : ℕ) (v : Value) → i < length xs → v ≡ get_or xs i v → p (datum v) ≡ true → list_any p (map datum xs) ≡ true
any_here p [] i v lt e q = absurd (omega arith)
any_here p (x ∷ xs) zero v lt e q = rw (sym (ap (λ (w : Value). p (datum w)) e) ∙ q) refl
any_here p (x ∷ xs) (suc i) v lt e q = at (p (datum x)) (list_any p (map datum xs)) (any_here p xs i v (omega arith) e q)
  where
    at : (a b : Bool) → b ≡ true → (a || b) ≡ true
    at true b h = refl
    at false b h = h

-- the one cause, where a test fails
pub told_one : (test : Bool) (c : Cause) → test ≡ true → Contains (unless (not test) c []) c
told_one test c e = rw e (0, omega arith, refl)
