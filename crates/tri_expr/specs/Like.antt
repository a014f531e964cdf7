-- LIKE over characters, not bytes (SQL standard, 8.5 <like predicate>).
use Rattle.std.specs.Prelude.{ℕ, Bool, true, false, ◌||◌, ◌&&◌, ◌==◌, if◌then◌else◌, List, [], ◌∷◌}
use Rattle.std.specs.Str.{chars}
use Rattle.tri_expr.specs.declared.like.Piece.{Piece}
use Rattle.tri_expr.specs.declared.like.Piece.TheVariants.{Run, One, This}

-- what a pattern asks for in turn: `%` (37) any run, `_` (95) one character, a backslash (92) and a character that
-- character, any other character itself; a lone backslash at the end stands for itself
abbrev pub pieces : List ℕ → List Piece
pieces [] = []
pieces (c ∷ []) = if c == 37 then Run ∷ [] else (if c == 95 then One ∷ [] else This c ∷ [])
pieces (c ∷ d ∷ cs) =
    if c == 92 then This d ∷ pieces cs
    else (if c == 37 then Run ∷ pieces (d ∷ cs) else (if c == 95 then One ∷ pieces (d ∷ cs) else This c ∷ pieces (d ∷ cs)))

-- the text behind some run of its characters, also the empty one
abbrev pub some_rest : (List ℕ → Bool) → List ℕ → Bool
some_rest p [] = p []
some_rest p (c ∷ cs) = p (c ∷ cs) || some_rest p cs

-- whether pieces fit a whole text
abbrev pub fits : List Piece → List ℕ → Bool
fits [] [] = true
fits [] (c ∷ cs) = false
fits (Run ∷ ps) cs = some_rest (fits ps) cs
fits (One ∷ ps) [] = false
fits (One ∷ ps) (c ∷ cs) = fits ps cs
fits (This d ∷ ps) [] = false
fits (This d ∷ ps) (c ∷ cs) = (c == d) && fits ps cs

-- text LIKE pattern, of the bytes of both
abbrev pub is_like : List ℕ → List ℕ → Bool
is_like pattern text = fits (pieces (chars pattern)) (chars text)
