-- The terminals that tokens are in an expression.
use Rattle.std.specs.Prelude.{◌≤◌, Bool, true, false, ◌&&◌, cond, List, [], ◌∷◌, codes}
use Rattle.std.specs.Str.{bytes_eq}
use Rattle.std.specs.Str.Parse.{digits_value}
use Rattle.med_lexer.specs.Lexemes.{Shape, word, number, IsDigits}
use Rattle.med_syntax.specs.Terminal.{Terminal, terminal_of, word_terminal}
use Rattle.med_syntax.specs.Terminal as t

-- Whether UNKNOWN is the keyword behind this terminal: behind IS and IS NOT. Before it the answer was the given one.
abbrev pub follows : Bool → Terminal → Bool
follows b t.Is = true
follows b t.Not = b
follows b u = false

abbrev pub terminal_at : Bool → Shape → Terminal
terminal_at b (word w) = cond (b && bytes_eq w (codes "unknown")) t.Unknown (word_terminal w)
terminal_at b s = terminal_of s

abbrev pub terminals_at : Bool → List Shape → List Terminal
terminals_at b [] = []
terminals_at b (s ∷ ss) = terminal_at b s ∷ terminals_at (follows b (terminal_at b s)) ss

-- a number is written by digits, and at most 2^63
abbrev pub IsReadable : Shape → Type 0
IsReadable (number d) = IsDigits d × (digits_value 10 d ≤ 9223372036854775808)
IsReadable s = Unit {0}

abbrev pub AreReadable : List Shape → Type 0
AreReadable [] = Unit {0}
AreReadable (s ∷ ss) = IsReadable s × AreReadable ss
