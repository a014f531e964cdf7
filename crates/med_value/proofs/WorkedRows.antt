-- The definitions at worked rows: each line is proved by computing both sides.
use Rattle.std.proofs.Common.{◌≡◌, pos, negsuc, true, false, [], ◌∷◌, ◌++◌, codes, refl, Some, None}
use Rattle.std.specs.Fmt.{digits}
use Rattle.std.specs.declared.cmp.Ordering.TheVariants.{Less, Equal, Greater}
use Rattle.med_value.specs.Datum.{NoValue, Whole, Chars, Logic}
use Rattle.med_value.specs.Order.{datum_cmp, key_cmp, nulls_first_by_default}
use Rattle.med_value.specs.Text.{escaped_text, row_text}
use Rattle.med_value.specs.Causes.{code_of, name_of, phase_of}
use Rattle.med_value.specs.declared.cause.Cause.TheVariants.{Syntax, OutOfRange, OutOfMemory}

-- 1 TAB \N TAB t
one_missing_true : row_text (Whole (pos 1) ∷ NoValue ∷ Logic true ∷ []) ≡ codes "1\t\\N\tt"
unfolding digits
one_missing_true = refl

one_field : row_text (Logic false ∷ []) ≡ codes "f"
one_field = refl

least_whole : row_text (Whole (negsuc 9223372036854775807) ∷ Chars [] ∷ []) ≡ codes "-9223372036854775808\t"
unfolding digits
least_whole = refl

backslash_doubled : escaped_text (codes "a\\b") ≡ codes "a\\\\b"
backslash_doubled = refl

white_escaped : escaped_text (9 ∷ 10 ∷ 13 ∷ 32 ∷ []) ≡ codes "\\t\\n\\r "
white_escaped = refl

-- the text \N is not NULL's
null_as_text : row_text (Chars (codes "\\N") ∷ []) ≡ codes "\\\\N"
null_as_text = refl

ascending_puts_null_last : key_cmp false (nulls_first_by_default false) (Whole (pos 1)) NoValue ≡ Less
ascending_puts_null_last = refl

descending_puts_null_first : key_cmp true (nulls_first_by_default true) (Whole (pos 1)) NoValue ≡ Greater
descending_puts_null_first = refl

descending_nulls_last : key_cmp true false (Whole (pos 1)) NoValue ≡ Less
descending_nulls_last = refl

descending_turns : key_cmp true true (Whole (pos 1)) (Whole (negsuc 0)) ≡ Less
descending_turns = refl

nulls_are_equal : key_cmp false false NoValue NoValue ≡ Equal
nulls_are_equal = refl

texts_by_bytes : datum_cmp (Chars (codes "Z")) (Chars (codes "a")) ≡ Less
texts_by_bytes = refl

shorter_first : datum_cmp (Chars (codes "ab")) (Chars (codes "a")) ≡ Greater
shorter_first = refl

false_before_true : datum_cmp (Logic false) (Logic true) ≡ Less
false_before_true = refl

code_of_syntax : code_of Syntax ++ 32 ∷ name_of Syntax ≡ codes "42601 syntax_error"
code_of_syntax = refl

phase_of_range : phase_of OutOfRange ≡ Some 6
phase_of_range = refl

memory_has_no_phase : phase_of OutOfMemory ≡ None
memory_has_no_phase = refl
