-- What a field of a CSV record means in a column, and the field as which a value is written.
use Rattle.std.specs.Prelude.{◌-◌, ◌^◌, ℕ, ℤ, Bool, true, false, ◌&&◌, if◌then◌else◌, List, [], ◌∷◌, length, map, codes, Option, Some, None, option_map, is_some, unwrap_or, reverse, nat_eq, nat_lt, nat_le}
use Rattle.std.specs.List.{list_any}
use Rattle.std.specs.Fmt.{signed_decimal}
use Rattle.std.specs.Str.{is_utf8, bytes_eq, all_ascii_digits, str_to_ascii_lowercase}
use Rattle.std.specs.Str.Parse.{starts_with_minus, without_leading_sign, digits_value, signed_digits_value}
use Rattle.med_value.specs.Datum.{Datum, NoValue, Whole, Chars, Logic, Tuple}
use Rattle.med_value.specs.declared.value.ColType.{ColType}
use Rattle.med_value.specs.declared.value.ColType.TheVariants as types

-- a text without the spaces (U+0020) at its start, and at both ends
abbrev pub skip_spaces : List ℕ → List ℕ
skip_spaces [] = []
skip_spaces (c ∷ cs) = if nat_eq c 32 then skip_spaces cs else c ∷ cs

abbrev pub without_spaces : List ℕ → List ℕ
without_spaces text = reverse (skip_spaces (reverse (skip_spaces text)))

-- the greatest number that digits behind this sign may stand for
abbrev pub greatest : Bool → ℕ
greatest minus = if minus then 2 ^ 63 else 2 ^ 63 - 1

-- a sign, which may be left out, and at least one digit, of a number from -2^63 to 2^63 - 1
abbrev pub is_integer : List ℕ → Bool
is_integer text =
    nat_lt 0 (length (without_leading_sign text)) && all_ascii_digits (without_leading_sign text)
    && nat_le (digits_value 10 (without_leading_sign text)) (greatest (starts_with_minus text))

-- the number that at least one digit and nothing else writes, where it is at most this one
abbrev pub number_up_to : ℕ → List ℕ → Option ℕ
number_up_to most text =
    if nat_lt 0 (length text) && all_ascii_digits text && nat_le (digits_value 10 text) most then Some (digits_value 10 text) else None

abbrev pub integer_of : List ℕ → Option ℤ
integer_of text = if is_integer text then Some (signed_digits_value 10 text) else None

-- the words of a truth value, compared without ASCII case
abbrev pub is_among : List (List ℕ) → List ℕ → Bool
is_among words text = list_any (bytes_eq (str_to_ascii_lowercase text)) words

abbrev pub true_words : List (List ℕ)
true_words = codes "t" ∷ codes "true" ∷ codes "y" ∷ codes "yes" ∷ codes "on" ∷ codes "1" ∷ []

abbrev pub false_words : List (List ℕ)
false_words = codes "f" ∷ codes "false" ∷ codes "n" ∷ codes "no" ∷ codes "off" ∷ codes "0" ∷ []

abbrev pub truth_of : List ℕ → Option Bool
truth_of text = if is_among true_words text then Some true else (if is_among false_words text then Some false else None)

-- a text that is not the null text, in a column of this type: no value where it is not of the type. A text has no U+0000; an empty
-- field is NULL in columns of integers and truth values
abbrev pub field_value : ColType → List ℕ → Option Datum
field_value types.Text text = if list_any (nat_eq 0) text then None else Some (Chars text)
field_value types.Int [] = Some NoValue
field_value types.Int (c ∷ cs) = option_map Whole (integer_of (without_spaces (c ∷ cs)))
field_value types.Bool [] = Some NoValue
field_value types.Bool (c ∷ cs) = option_map Logic (truth_of (c ∷ cs))

-- a field in a column of this type: NULL where it is the null text; nothing where it is no UTF-8
abbrev pub cell_of : List ℕ → ColType → List ℕ → Option Datum
cell_of null kind field = if is_utf8 field then (if bytes_eq field null then Some NoValue else field_value kind field) else None

-- each field of a record is of its column's type
abbrev pub is_readable : List ℕ → List ColType → List (List ℕ) → Bool
is_readable null [] fields = true
is_readable null (k ∷ ks) [] = true
is_readable null (k ∷ ks) (f ∷ fs) = is_some (cell_of null k f) && is_readable null ks fs

-- the cells of a record, one for each column. A field that is not there or not of its column's type gives none
abbrev pub record_cells : List ℕ → List ColType → List (List ℕ) → Tuple
record_cells null [] fields = []
record_cells null (k ∷ ks) [] = NoValue ∷ record_cells null ks []
record_cells null (k ∷ ks) (f ∷ fs) = unwrap_or (cell_of null k f) NoValue ∷ record_cells null ks fs

-- the field as which a value is written, and the fields of a row
abbrev pub field_of : List ℕ → Datum → List ℕ
field_of null NoValue = null
field_of null (Whole n) = signed_decimal n
field_of null (Chars text) = text
field_of null (Logic true) = codes "t"
field_of null (Logic false) = codes "f"

abbrev pub line_of : List ℕ → Tuple → List (List ℕ)
line_of null cells = map (field_of null) cells

-- a value other than NULL whose field would be read as NULL
abbrev pub reads_as_null : List ℕ → Datum → Bool
reads_as_null null NoValue = false
reads_as_null null (Whole n) = bytes_eq (signed_decimal n) null
reads_as_null null (Chars text) = bytes_eq text null
reads_as_null null (Logic b) = bytes_eq (field_of null (Logic b)) null
