-- Which texts are expressions, and the causes of the phase of syntax for a text that is to be one.
use Rattle.std.specs.Prelude.{◌≡◌, ℕ, ◌<◌, ◌⊎◌, Bool, true, false, nat_le, ◌&&◌, List, Any, count_by}
use Rattle.std.specs.Str.Parse.{digits_value}
use Rattle.med_value.specs.declared.cause.Cause.{Cause}
use Rattle.med_value.specs.declared.cause.Cause.TheVariants as causes
use Rattle.med_value.specs.Limits.{height_limit}
use Rattle.med_lexer.specs.Lexemes.{Shape, number, Lexeme, Lexes}
use Rattle.med_syntax.specs.Shapes.{IsLongName, deepens, shapes}
use Rattle.med_syntax.specs.Terminal.{AreTerminals}
use Rattle.med_syntax.specs.ExprTree.{ExprTree, ExprTrees, num, negative, call, paren, minus, binary, between, among, like, compare, tested, negation, chain, none, more, Fits, spelling, height}

-- the tokens are an expression with this tree
abbrev pub IsExpression : List Shape → ExprTree → Type 0
IsExpression ts e = Fits e × AreTerminals ts (spelling e)

-- The text has this tree: its one list of longest tokens is an expression with this tree.
abbrev pub HasExpr : List ℕ → ExprTree → Type 0
HasExpr text e = (ts : List Lexeme) × Lexes 0 text ts × IsExpression (shapes ts) e

-- A number is at most 2^63 - 1, and directly behind a unary minus at most 2^63.
abbrev mutual
  pub in_range : ExprTree → Bool
  in_range (num n) = nat_le n 9223372036854775807
  in_range (negative n) = nat_le n 9223372036854775808
  in_range (call f parts) = are_in_range parts
  in_range (paren e) = in_range e
  in_range (minus e) = in_range e
  in_range (binary op a b) = in_range a && in_range b
  in_range (between neg e low high) = in_range e && (in_range low && in_range high)
  in_range (among neg e first others) = in_range e && (in_range first && are_in_range others)
  in_range (like neg e x) = in_range e
  in_range (compare op a b) = in_range a && in_range b
  in_range (tested neg e s) = in_range e
  in_range (negation e) = in_range e
  in_range (chain joint first others) = in_range first && are_in_range others
  in_range _ = true

  pub are_in_range : ExprTrees → Bool
  are_in_range none = true
  are_in_range (more e es) = in_range e && are_in_range es

-- a number that is out of range behind a minus too
abbrev pub IsHuge : Shape → Type 0
IsHuge (number d) = 9223372036854775808 < digits_value 10 d
IsHuge _ = ⊥

-- The causes that stand for the tokens of a text:
-- 42601 Syntax: they are no expression, names and numbers taken at any length.
-- 42622 NameTooLong: among them is a name over 63 bytes.
-- 22003 LiteralOutOfRange: among them is a number over 2^63, or they are an expression with a number out of range.
-- 54000 TooDeep: they are an expression higher than 64, or they are no expression, and over 64 of them can deepen one.
-- No other cause stands for them.
abbrev pub TokenCauses : List Shape → Cause → Type 0
TokenCauses ts causes.Syntax = (e : ExprTree) → IsExpression ts e → ⊥
TokenCauses ts causes.NameTooLong = Any IsLongName ts
TokenCauses ts causes.LiteralOutOfRange = Any IsHuge ts ⊎ ((e : ExprTree) × IsExpression ts e × (in_range e ≡ false))
TokenCauses ts causes.TooDeep =
    ((e : ExprTree) × IsExpression ts e × (height_limit < height e))
    ⊎ (((e : ExprTree) → IsExpression ts e → ⊥) × (height_limit < count_by deepens ts))
TokenCauses ts _ = ⊥

-- The causes that stand for a text: 42601 where it has no tree, and so where it has no tokens, and the others for its tokens.
abbrev pub ExprCauses : List ℕ → Cause → Type 0
ExprCauses text causes.Syntax = (e : ExprTree) → HasExpr text e → ⊥
ExprCauses text c = (ts : List Lexeme) × Lexes 0 text ts × TokenCauses (shapes ts) c
