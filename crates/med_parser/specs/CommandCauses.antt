-- The causes of the phase of syntax, and the texts for which each stands.
use Rattle.std.specs.Prelude.{◌≡◌, ℕ, ◌<◌, ◌⊎◌, Bool, true, false, List, Any, count_by}
use Rattle.med_value.specs.declared.cause.Cause.{Cause}
use Rattle.med_value.specs.declared.cause.Cause.TheVariants as causes
use Rattle.med_value.specs.Limits.{height_limit}
use Rattle.med_lexer.specs.Lexemes.{Shape, Lexeme, Lexes}
use Rattle.med_syntax.specs.Prelude.{shapes, IsLongName, deepens, IsHuge, statement_in_range}
use Rattle.med_parser.specs.CommandTree.{CommandTree, on_data, on_rows, on_cursors, on_objects, command_height}
use Rattle.write_parser.specs.WriteCauses.{write_in_range}
use Rattle.write_parser.specs.CursorCauses.{cursor_in_range, is_fetch_zero}
use Rattle.med_parser.specs.CommandGrammar.{IsCommand, HasCommand}

-- each number is at most 2^63 - 1, and directly behind a unary minus at most 2^63; a statement on objects has none
abbrev pub command_in_range : CommandTree → Bool
command_in_range (on_data s) = statement_in_range s
command_in_range (on_rows w) = write_in_range w
command_in_range (on_cursors x) = cursor_in_range x
command_in_range (on_objects d) = true

-- FETCH 0, which this profile does not have
abbrev pub is_fetch_zero_command : CommandTree → Bool
is_fetch_zero_command (on_cursors x) = is_fetch_zero x
is_fetch_zero_command _ = false

-- The causes that stand for the tokens of a text:
-- 42601 Syntax: they are no command, names and numbers taken at any length.
-- 42622 NameTooLong: among them is a name over 63 bytes.
-- 22003 LiteralOutOfRange: among them is a number over 2^63, or they are a command with a number out of range.
-- 54000 TooDeep: they are a command with an expression higher than 64, or they are no command, and over 64 of them can deepen an
-- expression.
-- 0A000 FetchZero: they are FETCH 0.
-- No other cause stands for them.
abbrev pub TokenCauses : List Shape → Cause → Type 0
TokenCauses ts causes.Syntax = (c : CommandTree) → IsCommand ts c → ⊥
TokenCauses ts causes.NameTooLong = Any IsLongName ts
TokenCauses ts causes.LiteralOutOfRange = Any IsHuge ts ⊎ ((c : CommandTree) × IsCommand ts c × (command_in_range c ≡ false))
TokenCauses ts causes.TooDeep =
    ((c : CommandTree) × IsCommand ts c × (height_limit < command_height c))
    ⊎ (((c : CommandTree) → IsCommand ts c → ⊥) × (height_limit < count_by deepens ts))
TokenCauses ts causes.FetchZero = (c : CommandTree) × IsCommand ts c × (is_fetch_zero_command c ≡ true)
TokenCauses ts _ = ⊥

-- The causes that stand for a text: 42601 where it has no tree, and so where it has no tokens, and the others for its tokens.
abbrev pub SyntaxCauses : List ℕ → Cause → Type 0
SyntaxCauses text causes.Syntax = (c : CommandTree) → HasCommand text c → ⊥
SyntaxCauses text c = (ts : List Lexeme) × Lexes 0 text ts × TokenCauses (shapes ts) c
