-- What stands against the tokens of a statement that writes rows, as far as its tree says it.
use Rattle.std.specs.Prelude.{◌<◌, ◌⊎◌, Bool, ◌&&◌, List, count_by}
use Rattle.med_value.specs.Limits.{height_limit}
use Rattle.med_lexer.specs.Lexemes.{Shape}
use Rattle.med_syntax.specs.Prelude.{ExprTree, deepens, in_range, all_in_range, perhaps_in_range, select_in_range, GivenTree, values, rows_of, SetTree, UpdateTree, DeleteTree, WriteTree, insert, update, delete, write_height}
use Rattle.med_syntax.specs.declared.refusal.ReadFault.{ReadFault}
use Rattle.med_syntax.specs.declared.refusal.ReadFault.TheVariants as faults
use Rattle.med_syntax.specs.declared.refusal.Refusal.TheVariants.{Syntax, TooHigh}
use Rattle.write_parser.specs.WriteGrammar.{IsWrite}

-- ---- each number is at most 2^63 - 1, and directly behind a unary minus at most 2^63

abbrev pub row_in_range : List ExprTree → Bool
row_in_range = all_in_range in_range

abbrev pub given_in_range : GivenTree → Bool
given_in_range (values rows) = all_in_range row_in_range rows
given_in_range (rows_of q) = select_in_range q

abbrev pub set_in_range : SetTree → Bool
set_in_range s = in_range s.value

abbrev pub update_in_range : UpdateTree → Bool
update_in_range u = all_in_range set_in_range u.sets && perhaps_in_range in_range u.condition

abbrev pub delete_in_range : DeleteTree → Bool
delete_in_range d = perhaps_in_range in_range d.condition

abbrev pub write_in_range : WriteTree → Bool
write_in_range (insert i) = given_in_range i.given
write_in_range (update u) = update_in_range u
write_in_range (delete d) = delete_in_range d

-- ---- why tokens are refused

-- Syntax: they are no such statement. TooHigh: they are one with an expression higher than 64, or they are none, and over 64 of them can
-- deepen an expression.
abbrev pub Refuses : List Shape → ReadFault → Type 0
Refuses ss faults.NoMemory = Unit {0}
Refuses ss (faults.Refused Syntax) = (w : WriteTree) → IsWrite ss w → ⊥
Refuses ss (faults.Refused TooHigh) =
    ((w : WriteTree) × IsWrite ss w × (height_limit < write_height w))
    ⊎ (((w : WriteTree) → IsWrite ss w → ⊥) × (height_limit < count_by deepens ss))
