-- Expressions written out: keywords in upper case, every name in double quotes, and one space between tokens.
use Rattle.std.specs.Prelude.{◌≡◌, ℕ, true, false, List, ◌++◌, map, codes, Result, IfOk, String}
use Rattle.std.specs.String.{string_bytes}
use Rattle.std.specs.Fmt.{decimal}
use Rattle.med_lexer.specs.declared.Mark.{Mark}
use Rattle.med_lexer.specs.declared.Mark.TheVariants as marks
use Rattle.med_lexer.specs.Lexemes.{Shape, word, quoted, literal, number, mark}
use Rattle.med_lexer.specs.Printing.{behind_spaces, printed}
use Rattle.med_value.specs.declared.operators.Operation.{Operation}
use Rattle.med_value.specs.declared.operators.Operation.TheVariants.{Add, Subtract, Multiply, Divide, Remainder}
use Rattle.med_value.specs.declared.order.Comparison.{Comparison}
use Rattle.med_value.specs.declared.order.Comparison.TheVariants.{Equal, Apart, Below, AtMost, Above, AtLeast}
use Rattle.med_syntax.specs.declared.expr.Joint.TheVariants.{Or, And}
use Rattle.med_syntax.specs.Prelude.{Terminal, ExprTree, status_terminal, spelling}
use Rattle.med_syntax.specs.Terminal as t
use Rattle.expr_writer.specs.declared.writer.Fixed.{Fixed}
use Rattle.expr_writer.specs.declared.writer.Fixed.TheVariants as f

abbrev pub binary_mark : Operation → Mark
binary_mark Add = marks.Plus
binary_mark Subtract = marks.Minus
binary_mark Multiply = marks.Star
binary_mark Divide = marks.Slash
binary_mark Remainder = marks.Percent

abbrev pub compare_mark : Comparison → Mark
compare_mark Equal = marks.Equal
compare_mark Apart = marks.Apart
compare_mark Below = marks.Below
compare_mark AtMost = marks.AtMost
compare_mark Above = marks.Above
compare_mark AtLeast = marks.AtLeast

-- the token that a terminal is written as
abbrev pub shape_for : Terminal → Shape
shape_for t.LeftParen = mark marks.LeftParen
shape_for t.RightParen = mark marks.RightParen
shape_for t.Comma = mark marks.Comma
shape_for t.Dot = mark marks.Dot
shape_for t.Semicolon = mark marks.Semicolon
shape_for (t.Binary op) = mark (binary_mark op)
shape_for (t.Compare op) = mark (compare_mark op)
shape_for (t.Joined Or) = word (codes "or")
shape_for (t.Joined And) = word (codes "and")
shape_for t.Not = word (codes "not")
shape_for t.Between = word (codes "between")
shape_for t.In = word (codes "in")
shape_for t.Is = word (codes "is")
shape_for t.Like = word (codes "like")
shape_for t.Null = word (codes "null")
shape_for (t.Truth true) = word (codes "true")
shape_for (t.Truth false) = word (codes "false")
shape_for t.Unknown = word (codes "unknown")
shape_for (t.Num n) = number (decimal n)
shape_for (t.Text x) = literal x
shape_for (t.Name n) = quoted n
-- which no expression has
shape_for (t.Reserved w) = word w

abbrev pub shapes_for : List Terminal → List Shape
shapes_for = map shape_for

-- what the code writes always the same
abbrev pub fixed_terminal : Fixed → Terminal
fixed_terminal f.LeftParen = t.LeftParen
fixed_terminal f.RightParen = t.RightParen
fixed_terminal f.Comma = t.Comma
fixed_terminal f.Dot = t.Dot
fixed_terminal (f.Binary op) = t.Binary op
fixed_terminal (f.Compare op) = t.Compare op
fixed_terminal (f.Joint j) = t.Joined j
fixed_terminal f.Not = t.Not
fixed_terminal f.Between = t.Between
fixed_terminal f.In = t.In
fixed_terminal f.Is = t.Is
fixed_terminal f.Like = t.Like
fixed_terminal (f.Status s) = status_terminal s

abbrev pub printed_expr : ExprTree → List ℕ
printed_expr e = printed (shapes_for (spelling e))

-- behind the text these terminals were written, each behind a space
pub record Wrote (before after : List ℕ) (us : List Terminal) : Type 0 where
  pub is : after ≡ before ++ behind_spaces (shapes_for us)

-- what is told of a writer: where memory was not refused, these terminals were written behind the old text
abbrev pub Writes : {U E A : Type 0} → Result U E → String A → String A → List Terminal → Type 0
Writes result old new us = IfOk result (λ _. Wrote (string_bytes old) (string_bytes new) us)
