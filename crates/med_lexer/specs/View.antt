-- A token without where its text lies in memory, and what `tokens` answers.
use Rattle.std.specs.Prelude.{ℕ, List, map, Result, Ok, Err, Vec}
use Rattle.std.specs.Cow.{cow_str_bytes}
use Rattle.med_lexer.specs.declared.TokenKind.{TokenKind}
use Rattle.med_lexer.specs.declared.TokenKind.TheVariants as k
use Rattle.med_lexer.specs.declared.Token.{Token}
use Rattle.med_lexer.specs.declared.error.LexFault.{LexFault}
use Rattle.med_lexer.specs.declared.error.LexFault.TheVariants.{NoMemory, BadToken}
use Rattle.med_lexer.specs.Lexemes.{Shape, word, quoted, literal, number, mark, Lexeme, Lexes}

abbrev pub shape_of : TokenKind → Shape
shape_of (k.Word s) = word (cow_str_bytes s)
shape_of (k.Quoted s) = quoted (cow_str_bytes s)
shape_of (k.Literal s) = literal (cow_str_bytes s)
shape_of (k.Number s) = number s.now
shape_of (k.Mark m) = mark m

abbrev pub view : Token → Lexeme
view t = record { shape = shape_of t.kind; start = t.start; end = t.end }

abbrev pub views : List Token → List Lexeme
views = map view

-- the tokens of the text, or that it has none, or that memory ran out
abbrev pub Tokens : {A : Type 0} → Result (Vec Token A) LexFault → List ℕ → Type 0
Tokens (Ok v) text = Lexes 0 text (views v.items)
Tokens (Err NoMemory) text = Unit {0}
Tokens (Err BadToken) text = (ts : List Lexeme) → Lexes 0 text ts → ⊥
