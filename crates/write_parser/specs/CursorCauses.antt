-- What stands against the tokens of a statement on cursors, as far as its tree says it.
use Rattle.std.specs.Prelude.{◌<◌, ◌⊎◌, Bool, true, false, ◌==◌, List, count_by}
use Rattle.med_value.specs.Limits.{height_limit}
use Rattle.med_lexer.specs.Lexemes.{Shape}
use Rattle.med_syntax.specs.Prelude.{deepens, count_in_range, statement_in_range, CountTree, some_rows, all_rows, CursorTree, declare, fetch, close, cursor_height}
use Rattle.med_syntax.specs.declared.refusal.ReadFault.{ReadFault}
use Rattle.med_syntax.specs.declared.refusal.ReadFault.TheVariants as faults
use Rattle.med_syntax.specs.declared.refusal.Refusal.TheVariants.{Syntax, TooHigh}
use Rattle.write_parser.specs.CursorGrammar.{IsCursor}

-- ---- each number is at most 2^63 - 1, and directly behind a unary minus at most 2^63

abbrev pub fetched_in_range : CountTree → Bool
fetched_in_range (some_rows n) = count_in_range n
fetched_in_range all_rows = true

abbrev pub cursor_in_range : CursorTree → Bool
cursor_in_range (declare n q) = statement_in_range q
cursor_in_range (fetch c n) = fetched_in_range c
cursor_in_range (close n) = true

-- ---- FETCH 0, which this profile does not have: 0A000

abbrev pub is_zero : CountTree → Bool
is_zero (some_rows n) = n == 0
is_zero all_rows = false

abbrev pub is_fetch_zero : CursorTree → Bool
is_fetch_zero (fetch c n) = is_zero c
is_fetch_zero _ = false

-- ---- why tokens are refused

-- Syntax: they are no such statement. TooHigh: they are one whose query has an expression higher than 64, or they are none, and over 64
-- of them can deepen an expression.
abbrev pub Refuses : List Shape → ReadFault → Type 0
Refuses ss faults.NoMemory = Unit {0}
Refuses ss (faults.Refused Syntax) = (c : CursorTree) → IsCursor ss c → ⊥
Refuses ss (faults.Refused TooHigh) =
    ((c : CursorTree) × IsCursor ss c × (height_limit < cursor_height c))
    ⊎ (((c : CursorTree) → IsCursor ss c → ⊥) × (height_limit < count_by deepens ss))
