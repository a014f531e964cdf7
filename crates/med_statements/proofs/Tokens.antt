-- The tokens of a text, and the terminals that they are: no literal among them has U+0000.
use Rattle.std.proofs.Common.{◌≡◌, ℕ, zero, suc, Bool, true, false, cond, not, ◌||◌, arith, List, [], ◌∷◌, ◌++◌, inl, inr, refl, sym, subst, codes, nat_eq, bytes_eq}
use Rattle.std.specs.List.{list_any}
use Rattle.std.proofs.lemmas.Bool.Decides.{nat_tests}
use Rattle.med_value.specs.Datum.{Chars}
use Rattle.med_lexer.specs.declared.Mark.{Mark}
use Rattle.med_lexer.specs.declared.Mark.TheVariants as marks
use Rattle.med_lexer.specs.Lexemes.{is_text, Every, Shape, word, quoted, literal, number, mark, Spells, Lexeme, Lexes}
use Rattle.med_syntax.specs.Prelude.{Terminal, mark_terminal, plain_word, word_terminal, terminal_of, IsTerminal, AreTerminals, shapes, IsWord, AreWords}
use Rattle.med_syntax.specs.Words.{is_reserved}
use Rattle.med_syntax.specs.Terminal as t
use Rattle.fdw_api.specs.Scan.{is_clean}

abbrev pub IsCleanText : List ℕ → Type 0
IsCleanText x = is_clean (Chars x) ≡ true

abbrev pub IsCleanShape : Shape → Type 0
IsCleanShape (literal x) = IsCleanText x
IsCleanShape _ = Unit {0}

abbrev pub AreCleanShapes : List Shape → Type 0
AreCleanShapes [] = Unit {0}
AreCleanShapes (s ∷ ss) = IsCleanShape s × AreCleanShapes ss

abbrev pub IsCleanTerminal : Terminal → Type 0
IsCleanTerminal (t.Text x) = IsCleanText x
IsCleanTerminal _ = Unit {0}

abbrev pub AreClean : List Terminal → Type 0
AreClean [] = Unit {0}
AreClean (u ∷ us) = IsCleanTerminal u × AreClean us

-- ---- parts

pub clean_left : (us vs : List Terminal) → AreClean (us ++ vs) → AreClean us
clean_left [] vs h = tt
clean_left (u ∷ us) vs h = (h.0, clean_left us vs h.1)

pub clean_right : (us vs : List Terminal) → AreClean (us ++ vs) → AreClean vs
clean_right [] vs h = h
clean_right (u ∷ us) vs h = clean_right us vs h.1

pub shapes_right : (ss zs : List Shape) → AreCleanShapes (ss ++ zs) → AreCleanShapes zs
shapes_right [] zs h = h
shapes_right (s ∷ ss) zs h = shapes_right ss zs h.1

-- ---- tokens

not_zero : (b : ℕ) → is_text b ≡ true → nat_eq 0 b ≡ false
not_zero zero h = absurd cc
not_zero (suc b) h = grind (arith, nat_tests)

text_clean : (x : List ℕ) → Every is_text x → IsCleanText x
text_clean [] h = refl
text_clean (b ∷ bs) h = subst (λ (z : Bool). not (z || list_any (nat_eq 0) bs) ≡ true) (sym (not_zero b h.0)) (text_clean bs h.1)

shape_clean : (s : Shape) (raw : List ℕ) → Spells s raw → IsCleanShape s
shape_clean (word w) raw h = tt
shape_clean (quoted q) raw h = tt
shape_clean (literal x) raw h = text_clean x h.1
shape_clean (number d) raw h = tt
shape_clean (mark m) raw h = tt

pub lexed_clean : (at : ℕ) (text : List ℕ) (ts : List Lexeme) → Lexes at text ts → AreCleanShapes (shapes ts)
lexed_clean at text [] h = tt
lexed_clean at text (l ∷ ls) (rest, begins, others) = (shape_clean l.shape begins.raw begins.spelled, lexed_clean l.end rest ls others)

-- ---- terminals

either_clean : (b : Bool) (u v : Terminal) → IsCleanTerminal u → IsCleanTerminal v → IsCleanTerminal (cond b u v)
either_clean true u v h k = h
either_clean false u v h k = k

plain_clean : (w : List ℕ) → IsCleanTerminal (plain_word w)
plain_clean w = either_clean (is_reserved w) (t.Reserved w) (t.Name w) tt tt

word_clean : (w : List ℕ) → IsCleanTerminal (word_terminal w)
word_clean w =
    either_clean (bytes_eq w (codes "and")) _ _ tt (either_clean (bytes_eq w (codes "or")) _ _ tt (either_clean (bytes_eq w (codes "not")) _ _ tt
    (either_clean (bytes_eq w (codes "between")) _ _ tt (either_clean (bytes_eq w (codes "in")) _ _ tt (either_clean (bytes_eq w (codes "is")) _ _ tt
    (either_clean (bytes_eq w (codes "like")) _ _ tt (either_clean (bytes_eq w (codes "null")) _ _ tt (either_clean (bytes_eq w (codes "true")) _ _ tt
    (either_clean (bytes_eq w (codes "false")) _ _ tt (plain_clean w))))))))))

mark_clean : (m : Mark) → IsCleanTerminal (mark_terminal m)
mark_clean marks.LeftParen = tt
mark_clean marks.RightParen = tt
mark_clean marks.Comma = tt
mark_clean marks.Dot = tt
mark_clean marks.Semicolon = tt
mark_clean marks.Star = tt
mark_clean marks.Plus = tt
mark_clean marks.Minus = tt
mark_clean marks.Slash = tt
mark_clean marks.Percent = tt
mark_clean marks.Equal = tt
mark_clean marks.Apart = tt
mark_clean marks.Below = tt
mark_clean marks.AtMost = tt
mark_clean marks.Above = tt
mark_clean marks.AtLeast = tt

of_shape : (s : Shape) → IsCleanShape s → IsCleanTerminal (terminal_of s)
of_shape (word w) h = word_clean w
of_shape (quoted q) h = tt
of_shape (literal x) h = h
of_shape (number d) h = tt
of_shape (mark m) h = mark_clean m

terminal_clean : (s : Shape) (u : Terminal) → IsCleanShape s → IsTerminal s u → IsCleanTerminal u
terminal_clean s u h (inl e) = subst IsCleanTerminal (sym e) (of_shape s h)
terminal_clean s u h (inr (e, is)) = subst IsCleanTerminal (sym is) tt

pub terminals_clean : (ss : List Shape) (us : List Terminal) → AreCleanShapes ss → AreTerminals ss us → AreClean us
terminals_clean [] [] h k = tt
terminals_clean [] (u ∷ us) h k = absurd k
terminals_clean (s ∷ ss) [] h k = absurd k
terminals_clean (s ∷ ss) (u ∷ us) h k = (terminal_clean s u h.0 k.0, terminals_clean ss us h.1 k.1)

word_is_clean : (s : Shape) (u : Terminal) → IsCleanShape s → IsWord s u → IsCleanTerminal u
word_is_clean s u h (inl k) = terminal_clean s u h k
word_is_clean s u h (inr (w, is, free, e)) = subst IsCleanTerminal (sym e) tt

pub words_clean : (ss : List Shape) (us : List Terminal) → AreCleanShapes ss → AreWords ss us → AreClean us
words_clean [] [] h k = tt
words_clean [] (u ∷ us) h k = absurd k
words_clean (s ∷ ss) [] h k = absurd k
words_clean (s ∷ ss) (u ∷ us) h k = (word_is_clean s u h.0 k.0, words_clean ss us h.1 k.1)
