-- The terminal symbols of the grammar of expressions, and the tokens that are each of them.
use Rattle.std.specs.Prelude.{◌≡◌, ℕ, Bool, true, false, cond, List, [], ◌∷◌, ◌⊎◌, codes}
use Rattle.std.specs.Str.{bytes_eq}
use Rattle.std.specs.Str.Parse.{digits_value}
use Rattle.med_lexer.specs.declared.Mark.{Mark}
use Rattle.med_lexer.specs.declared.Mark.TheVariants as marks
use Rattle.med_lexer.specs.Lexemes.{Shape, word, quoted, literal, number, mark}
use Rattle.med_value.specs.declared.operators.Operation.{Operation}
use Rattle.med_value.specs.declared.operators.Operation.TheVariants.{Add, Subtract, Multiply, Divide, Remainder}
use Rattle.med_value.specs.declared.order.Comparison.{Comparison}
use Rattle.med_value.specs.declared.order.Comparison.TheVariants.{Equal, Apart, Below, AtMost, Above, AtLeast}
use Rattle.med_syntax.specs.declared.expr.Joint.{Joint}
use Rattle.med_syntax.specs.declared.expr.Joint.TheVariants.{Or, And}
use Rattle.med_syntax.specs.Words.{is_reserved}

pub data Terminal : Type 0 where
  LeftParen : Terminal
  RightParen : Terminal
  Comma : Terminal
  Dot : Terminal
  Semicolon : Terminal
  Binary : Operation → Terminal
  Compare : Comparison → Terminal
  Joined : Joint → Terminal
  Not : Terminal
  Between : Terminal
  In : Terminal
  Is : Terminal
  Like : Terminal
  Null : Terminal
  Truth : Bool → Terminal
  Unknown : Terminal
  -- the value of the digits, of any length
  Num : ℕ → Terminal
  Text : List ℕ → Terminal
  Name : List ℕ → Terminal
  -- a reserved word that no expression has
  Reserved : List ℕ → Terminal

abbrev pub mark_terminal : Mark → Terminal
mark_terminal marks.LeftParen = LeftParen
mark_terminal marks.RightParen = RightParen
mark_terminal marks.Comma = Comma
mark_terminal marks.Dot = Dot
mark_terminal marks.Semicolon = Semicolon
mark_terminal marks.Star = Binary Multiply
mark_terminal marks.Plus = Binary Add
mark_terminal marks.Minus = Binary Subtract
mark_terminal marks.Slash = Binary Divide
mark_terminal marks.Percent = Binary Remainder
mark_terminal marks.Equal = Compare Equal
mark_terminal marks.Apart = Compare Apart
mark_terminal marks.Below = Compare Below
mark_terminal marks.AtMost = Compare AtMost
mark_terminal marks.Above = Compare Above
mark_terminal marks.AtLeast = Compare AtLeast

-- a word that is no keyword of expressions: a name, unless it is reserved
abbrev pub plain_word : List ℕ → Terminal
plain_word w = cond (is_reserved w) (Reserved w) (Name w)

abbrev pub word_terminal : List ℕ → Terminal
word_terminal w =
    cond (bytes_eq w (codes "and")) (Joined And) (cond (bytes_eq w (codes "or")) (Joined Or) (cond (bytes_eq w (codes "not")) Not
    (cond (bytes_eq w (codes "between")) Between (cond (bytes_eq w (codes "in")) In (cond (bytes_eq w (codes "is")) Is
    (cond (bytes_eq w (codes "like")) Like (cond (bytes_eq w (codes "null")) Null (cond (bytes_eq w (codes "true")) (Truth true)
    (cond (bytes_eq w (codes "false")) (Truth false) (plain_word w))))))))))

-- what a token is, apart from UNKNOWN
abbrev pub terminal_of : Shape → Terminal
terminal_of (word w) = word_terminal w
terminal_of (quoted q) = Name q
terminal_of (literal x) = Text x
terminal_of (number d) = Num (digits_value 10 d)
terminal_of (mark m) = mark_terminal m

-- The token is this terminal. UNKNOWN is a keyword that is not reserved: the word is a name too.
abbrev pub IsTerminal : Shape → Terminal → Type 0
IsTerminal s u = (u ≡ terminal_of s) ⊎ ((s ≡ word (codes "unknown")) × (u ≡ Unknown))

-- the tokens are these terminals, one by one
abbrev pub AreTerminals : List Shape → List Terminal → Type 0
AreTerminals [] [] = Unit {0}
AreTerminals (s ∷ ss) (u ∷ us) = IsTerminal s u × AreTerminals ss us
AreTerminals _ _ = ⊥
