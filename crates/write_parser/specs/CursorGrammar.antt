-- The grammar of the statements on cursors: which tokens spell which tree. In SQL's notation,
--     declare = DECLARE name [INSENSITIVE] [NO SCROLL] CURSOR [WITH HOLD] FOR select
--     fetch   = FETCH [NEXT | num | ALL] [FROM | IN] name
--     close   = CLOSE name
-- and behind each perhaps a semicolon. A keyword is an unquoted word; those that are not reserved are names too. So FETCH NEXT with
-- nothing behind it names a cursor, since a name has to stand behind the keyword. FETCH without a number, and FETCH NEXT, are FETCH 1.
use Rattle.std.specs.Prelude.{◌≡◌, ℕ, ◌⊎◌, List, [], ◌∷◌, codes}
use Rattle.std.specs.Str.Parse.{digits_value}
use Rattle.med_lexer.specs.Lexemes.{Shape, number, Lexeme, Lexes}
use Rattle.med_syntax.specs.Prelude.{shapes, Name, StatementTree, IsStatement, CountTree, some_rows, all_rows, CursorTree, declare, fetch, close}
use Rattle.ddl_parser.specs.DdlGrammar.{Form, ◌⋯◌, Nothing, Words, WordsOrNot, NameIs, IsEnd}

-- [INSENSITIVE] [NO SCROLL] CURSOR [WITH HOLD] FOR (SQL:2016, <cursor properties>)
abbrev pub Properties : Form
Properties =
    WordsOrNot (codes "insensitive" ∷ []) ⋯ (WordsOrNot (codes "no" ∷ codes "scroll" ∷ []) ⋯ (Words (codes "cursor" ∷ [])
    ⋯ (WordsOrNot (codes "with" ∷ codes "hold" ∷ []) ⋯ Words (codes "for" ∷ []))))

-- DECLARE name [INSENSITIVE] [NO SCROLL] CURSOR [WITH HOLD] FOR (SQL:2016, <declare cursor>)
abbrev pub Declaring : Name → Form
Declaring n = Words (codes "declare" ∷ []) ⋯ (NameIs n ⋯ Properties)

-- The query of a cursor is a line of its own (SQL:2016, <cursor specification>).
abbrev pub QueryIs : StatementTree → Form
QueryIs q ts = IsStatement ts q

-- a number of any length
abbrev pub NumberIs : ℕ → Form
NumberIs n ts = (d : List ℕ) × (ts ≡ number d ∷ []) × (n ≡ digits_value 10 d)

-- [NEXT]
abbrev pub NextIs : ℕ → Form
NextIs n ts = WordsOrNot (codes "next" ∷ []) ts × (n ≡ 1)

-- [NEXT | num | ALL] (SQL:2016, <fetch orientation>)
abbrev pub CountIs : CountTree → Form
CountIs (some_rows n) ts = NextIs n ts ⊎ NumberIs n ts
CountIs all_rows ts = Words (codes "all" ∷ []) ts

-- [FROM | IN]
abbrev pub FromOrIn : Form
FromOrIn ts = Nothing ts ⊎ Words (codes "from" ∷ []) ts ⊎ Words (codes "in" ∷ []) ts

-- FETCH [NEXT | num | ALL] [FROM | IN] name (SQL:2016, <fetch statement>)
abbrev pub Fetching : CountTree → Name → Form
Fetching c n = Words (codes "fetch" ∷ []) ⋯ (CountIs c ⋯ (FromOrIn ⋯ NameIs n))

-- CLOSE name (SQL:2016, <close statement>)
abbrev pub Closing : Name → Form
Closing n = Words (codes "close" ∷ []) ⋯ NameIs n

-- The tokens are a line of the grammar with this tree: a statement, and perhaps a semicolon.
abbrev pub IsCursor : List Shape → CursorTree → Type 0
IsCursor ts (declare n q) = (Declaring n ⋯ QueryIs q) ts
IsCursor ts (fetch c n) = (Fetching c n ⋯ IsEnd) ts
IsCursor ts (close n) = (Closing n ⋯ IsEnd) ts

-- The text has this tree: its one list of longest tokens is a line of the grammar with this tree.
abbrev pub HasCursor : List ℕ → CursorTree → Type 0
HasCursor text c = (ts : List Lexeme) × Lexes 0 text ts × IsCursor (shapes ts) c
