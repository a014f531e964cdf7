-- Symbols without where they lie in memory.
use Rattle.std.specs.Prelude.{List, map}
use Rattle.med_syntax.specs.declared.symbols.Symbol.{Symbol}
use Rattle.med_syntax.specs.declared.symbols.Symbol.TheVariants as s
use Rattle.med_syntax.specs.Terminal.{Terminal}
use Rattle.med_syntax.specs.Terminal as t

abbrev pub terminal_of_symbol : Symbol → Terminal
terminal_of_symbol s.LeftParen = t.LeftParen
terminal_of_symbol s.RightParen = t.RightParen
terminal_of_symbol s.Comma = t.Comma
terminal_of_symbol s.Dot = t.Dot
terminal_of_symbol s.Semicolon = t.Semicolon
terminal_of_symbol (s.Binary op) = t.Binary op
terminal_of_symbol (s.Compare op) = t.Compare op
terminal_of_symbol (s.Joint j) = t.Joined j
terminal_of_symbol s.Not = t.Not
terminal_of_symbol s.Between = t.Between
terminal_of_symbol s.In = t.In
terminal_of_symbol s.Is = t.Is
terminal_of_symbol s.Like = t.Like
terminal_of_symbol s.Null = t.Null
terminal_of_symbol (s.Truth b) = t.Truth b
terminal_of_symbol s.Unknown = t.Unknown
terminal_of_symbol (s.Number n) = t.Num n
terminal_of_symbol (s.Text x) = t.Text x.now
terminal_of_symbol (s.Name x) = t.Name x.now
terminal_of_symbol (s.Reserved x) = t.Reserved x.now

abbrev pub terminals_of : List Symbol → List Terminal
terminals_of = map terminal_of_symbol
