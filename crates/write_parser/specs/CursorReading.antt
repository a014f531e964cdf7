-- Reading the statements on cursors by recursive descent, on lists of tokens; the query of a cursor is read by the reader of queries.
use Rattle.std.specs.Prelude.{false, cond, List, [], ◌∷◌, codes, Result, Ok, Err}
use Rattle.std.specs.Str.Parse.{digits_value}
use Rattle.med_lexer.specs.Lexemes.{Shape, number}
use Rattle.med_syntax.specs.declared.refusal.Refusal.{Refusal}
use Rattle.med_syntax.specs.declared.refusal.Refusal.TheVariants.{Syntax}
use Rattle.med_syntax.specs.Prelude.{choose, Name, words_at, CountTree, some_rows, all_rows, CursorTree, declare, fetch, close}
use Rattle.med_syntax.specs.ExprReading.{◌>>=◌}
use Rattle.med_syntax.specs.declared.query_symbols.Place.TheVariants.{Before}
use Rattle.query_reader.specs.QueryReading.{bounded_line}
use Rattle.ddl_parser.specs.DdlReading.{Parser, seq, behind_word, expect, words_if, name_of, is_end}

-- CURSOR [WITH HOLD] FOR
unfoldable pub held_of : Parser (Unit {0})
held_of = seq (expect (codes "cursor" ∷ [])) (λ at. seq (words_if (codes "with" ∷ codes "hold" ∷ [])) (λ hold. expect (codes "for" ∷ [])))

-- [INSENSITIVE] [NO SCROLL] CURSOR [WITH HOLD] FOR
unfoldable pub properties_of : Parser (Unit {0})
properties_of =
    seq (words_if (codes "insensitive" ∷ [])) (λ insensitive. seq (words_if (codes "no" ∷ codes "scroll" ∷ [])) (λ scroll. held_of))

-- DECLARE name .. FOR
unfoldable pub declared_of : Parser Name
declared_of = seq (expect (codes "declare" ∷ [])) (λ at. seq name_of (λ name. seq properties_of (λ asked ts. Ok (name, ts))))

-- behind NEXT, which is a name where nothing stands behind it
unfoldable pub next_of : Parser CountTree
next_of ts = choose (behind_word (codes "next") ts) (Ok (some_rows 1, ts)) (λ after. Ok (some_rows 1, cond (is_end after) ts after))

unfoldable pub word_count_of : Parser CountTree
word_count_of ts = choose (behind_word (codes "all") ts) (next_of ts) (λ after. Ok (all_rows, after))

-- [NEXT | num | ALL]
abbrev pub count_of : Parser CountTree
count_of (number d ∷ ts) = Ok (some_rows (digits_value 10 d), ts)
count_of ts = word_count_of ts

-- [FROM | IN]
unfoldable pub from_of : Parser (Unit {0})
from_of ts =
    choose (behind_word (codes "from") ts)
    (choose (behind_word (codes "in") ts) (Ok (tt, ts)) (λ after. Ok (tt, after))) (λ after. Ok (tt, after))

-- behind FETCH
unfoldable pub fetch_of : Parser CursorTree
fetch_of = seq count_of (λ count. seq from_of (λ from. seq name_of (λ name ts. Ok (fetch count name, ts))))

-- behind CLOSE
unfoldable pub close_of : Parser CursorTree
close_of = seq name_of (λ name ts. Ok (close name, ts))

-- a statement without a query
unfoldable pub plain_of : Parser CursorTree
plain_of ts = choose (behind_word (codes "fetch") ts) (choose (behind_word (codes "close") ts) (Err Syntax) close_of) fetch_of

-- what was read, where nothing stands behind it
abbrev pub ended : Result (CursorTree × List Shape) Refusal → Result CursorTree Refusal
ended (Ok x) = cond (is_end x.1) (Ok x.0) (Err Syntax)
ended (Err e) = Err Syntax

unfoldable pub plain_line : List Shape → Result CursorTree Refusal
plain_line ts = ended (plain_of ts)

-- the cursor's query
unfoldable pub query_of : Name → List Shape → Result CursorTree Refusal
query_of name ts = bounded_line (words_at (Before false) false ts) >>= λ q. Ok (declare name q)

-- what is read where the tokens begin with a declaration, or else
abbrev pub line_behind : Result (Name × List Shape) Refusal → Result CursorTree Refusal → Result CursorTree Refusal
line_behind (Ok x) other = query_of x.0 x.1
line_behind (Err e) other = other

unfoldable pub line_of : List Shape → Result CursorTree Refusal
line_of ts = line_behind (declared_of ts) (plain_line ts)
