-- Cutting a text into tokens, on lists.
use Rattle.std.specs.Prelude.{ℕ, zero, suc, ◌+◌, ◌-◌, ◌<◌, Bool, ◌==◌, ◌&&◌, not, cond, List, [], ◌∷◌, ◌++◌, length, map, Option, Some, None, option_map}
use Rattle.std.specs.Char.{is_ascii_digit, to_ascii_lowercase}
use Rattle.med_lexer.specs.declared.Mark.{Mark}
use Rattle.med_lexer.specs.declared.Mark.TheVariants as marks
use Rattle.med_lexer.specs.declared.bytes.Class.{Class}
use Rattle.med_lexer.specs.declared.bytes.Class.TheVariants as c
use Rattle.med_lexer.specs.Lexemes.{is_blank, is_start, is_part, is_text, Shape, word, quoted, literal, number, mark, Lexeme}

pub data Next : Type 0 where
  done : Next
  blank : List ℕ → Next
  token : Shape → List ℕ → Next
  bad : Next

abbrev pub in_class : Class → ℕ → Bool
in_class c.Part b = is_part b
in_class c.Digit b = is_ascii_digit b
in_class c.Text b = is_text b
in_class (c.Plain q) b = is_text b && not (b == q)

-- the quote is ASCII
abbrev pub IsAscii : Class → Type 0
IsAscii (c.Plain q) = q < 128
IsAscii _ = Unit {0}

abbrev pub strip_of : ℕ → List ℕ → Option (List ℕ × List ℕ)
strip_of q [] = None
strip_of q (b ∷ bs) = cond (b == q) (Some (b ∷ [], bs)) None

-- the longest run at the front, and the rest
abbrev pub run : (ℕ → Bool) → List ℕ → List ℕ × List ℕ
run p [] = ([], [])
run p (b ∷ bs) = cond (p b) (b ∷ (run p bs).0, (run p bs).1) ([], b ∷ bs)

abbrev pub ahead : List ℕ → Option (List ℕ × List ℕ) → Option (List ℕ × List ℕ)
ahead w None = None
ahead w (Some x) = Some (w ++ x.0, x.1)

-- behind the opening quote
abbrev pub quote : ℕ → List ℕ → Option (List ℕ × List ℕ)
quote q [] = None
quote q (b ∷ []) = cond (b == q) (Some ([], [])) None
quote q (b ∷ c ∷ cs) =
    cond (b == q) (cond (c == q) (ahead (q ∷ []) (quote q cs)) (Some ([], c ∷ cs)))
    (cond (is_text b) (ahead (b ∷ []) (quote q (c ∷ cs))) None)

abbrev pub word_next : List ℕ × List ℕ → Next
word_next x = token (word (map to_ascii_lowercase x.0)) x.1

abbrev pub number_as : List ℕ → List ℕ → Next
number_as d [] = token (number d) []
number_as d (b ∷ bs) = cond (is_start b) bad (token (number d) (b ∷ bs))

abbrev pub number_next : List ℕ × List ℕ → Next
number_next x = number_as x.0 x.1

abbrev pub name_as : List ℕ → List ℕ → Next
name_as [] rest = bad
name_as (b ∷ bs) rest = token (quoted (b ∷ bs)) rest

abbrev pub name_next : Option (List ℕ × List ℕ) → Next
name_next None = bad
name_next (Some x) = name_as x.0 x.1

abbrev pub literal_next : Option (List ℕ × List ℕ) → Next
literal_next None = bad
literal_next (Some x) = token (literal x.0) x.1

abbrev pub ended : List ℕ → Next
ended [] = done
ended (b ∷ bs) = bad

abbrev pub comment_next : List ℕ × List ℕ → Next
comment_next x = ended x.1

-- 0, which stands in no token, where there is none
abbrev pub first : List ℕ → ℕ
first [] = 0
first (b ∷ bs) = b

abbrev pub behind : List ℕ → List ℕ
behind [] = []
behind (b ∷ bs) = bs

abbrev pub single : ℕ → Option Mark
single b =
    cond (b == 40) (Some marks.LeftParen) (cond (b == 41) (Some marks.RightParen) (cond (b == 44) (Some marks.Comma)
    (cond (b == 46) (Some marks.Dot) (cond (b == 59) (Some marks.Semicolon) (cond (b == 42) (Some marks.Star)
    (cond (b == 43) (Some marks.Plus) (cond (b == 45) (Some marks.Minus) (cond (b == 47) (Some marks.Slash)
    (cond (b == 37) (Some marks.Percent) (cond (b == 61) (Some marks.Equal) (cond (b == 60) (Some marks.Below)
    (cond (b == 62) (Some marks.Above) None))))))))))))

abbrev pub double : ℕ → ℕ → Option Mark
double b c =
    cond (b == 60 && c == 62) (Some marks.Apart) (cond (b == 60 && c == 61) (Some marks.AtMost)
    (cond (b == 62 && c == 61) (Some marks.AtLeast) (cond (b == 33 && c == 61) (Some marks.Apart) None)))

abbrev pub single_next : Option Mark → List ℕ → Next
single_next None rest = bad
single_next (Some m) rest = token (mark m) rest

abbrev pub mark_next : Option Mark → Option Mark → List ℕ → Next
mark_next None one rest = single_next one rest
mark_next (Some m) one rest = token (mark m) (behind rest)

unfoldable pub next : List ℕ → Next
next [] = done
next (b ∷ bs) =
    cond (is_blank b) (blank bs)
    (cond (is_start b) (word_next (run is_part (b ∷ bs)))
    (cond (is_ascii_digit b) (number_next (run is_ascii_digit (b ∷ bs)))
    (cond (b == 34) (name_next (quote 34 bs))
    (cond (b == 39) (literal_next (quote 39 bs))
    (cond (b == 45 && first bs == 45) (comment_next (run is_text (b ∷ bs)))
    (mark_next (double b (first bs)) (single b) bs))))))

abbrev pub continued : ℕ → List ℕ → (ℕ → List ℕ → Option (List Lexeme)) → Next → Option (List Lexeme)
continued at text go done = Some []
continued at text go (blank rest) = go (at + 1) rest
continued at text go (token s rest) =
    let end = at + (length text - length rest) in option_map (λ ts. record { shape = s; start = at; end = end } ∷ ts) (go end rest)
continued at text go bad = None

-- bounded by the bytes that are left
unfoldable pub lex : ℕ → ℕ → List ℕ → Option (List Lexeme)
lex zero at text = None
lex (suc k) at text = continued at text (lex k) (next text)
