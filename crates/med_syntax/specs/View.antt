-- Tokens without where they lie in memory, and what the functions of the crate answer.
use Rattle.std.specs.Prelude.{◌≡◌, ℕ, List, map, Vec, Result, Ok, Err}
use Rattle.med_lexer.specs.declared.Token.{Token}
use Rattle.med_lexer.specs.Lexemes.{Shape, Lexeme, Lexes}
use Rattle.med_lexer.specs.View.{shape_of, views}
use Rattle.med_value.specs.declared.cause.Cause.{Cause}
use Rattle.med_value.specs.declared.cause.Cause.TheVariants as causes
use Rattle.med_syntax.specs.declared.fault.ParseFault.{ParseFault}
use Rattle.med_syntax.specs.declared.fault.ParseFault.TheVariants as faults

abbrev pub shapes_of : List Token → List Shape
shapes_of = map (λ (t : Token). shape_of t.kind)

abbrev pub cause_of : ParseFault → Cause
cause_of faults.NoMemory = causes.OutOfMemory
cause_of faults.Syntax = causes.Syntax

-- what was returned are the text's tokens, and it has no others; Syntax says that it has none
abbrev pub LexesOnly : {A : Type 0} → Result (Vec Token A) ParseFault → List ℕ → Type 0
LexesOnly (Ok v) text = Lexes 0 text (views v.items) × ((ts : List Lexeme) → Lexes 0 text ts → ts ≡ views v.items)
LexesOnly (Err faults.NoMemory) text = Unit {0}
LexesOnly (Err faults.Syntax) text = (ts : List Lexeme) → Lexes 0 text ts → ⊥
