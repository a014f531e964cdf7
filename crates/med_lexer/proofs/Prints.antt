-- What is printed has the tokens that it was printed from.
use Rattle.std.proofs.Common.{◌≡◌, ℕ, ◌+◌, inl, List, [], ◌∷◌, ◌++◌, length, sym, refl, ap, ◌∙◌, subst, arith}
use Rattle.std.specs.Prelude.{true, map}
use Rattle.std.specs.Char.{to_ascii_lowercase, to_ascii_uppercase}
use Rattle.std.specs.Str.{str_to_ascii_lowercase, str_to_ascii_uppercase}
use Rattle.std.proofs.lemmas.Bool.Decides.{nat_tests}
use Rattle.std.proofs.lemmas.Str.Ascii.{lowercase-uppercase, lowercase-lowercase}
use Rattle.med_lexer.specs.declared.Mark.{Mark}
use Rattle.med_lexer.specs.declared.Mark.TheVariants as marks
use Rattle.med_lexer.specs.Lexemes.{is_start, is_part, Every, Without, Shape, word, quoted, literal, number, mark, Spells, Lexeme, Lexes}
use Rattle.med_lexer.specs.Printing.{raw_of, AreShapes, behind_spaces, printed}
use Rattle.med_lexer.proofs.Cuts.{joins, Ends, Cuts}
use Rattle.med_lexer.proofs.Maximal.{lexes_of_cuts}

start_again : (b : ℕ) → is_start b ≡ true → is_start (to_ascii_uppercase (to_ascii_lowercase b)) ≡ true
start_again b h = grind (arith, nat_tests)

part_again : (b : ℕ) → is_part b ≡ true → is_part (to_ascii_uppercase (to_ascii_lowercase b)) ≡ true
part_again b h = grind (arith, nat_tests)

parts_again : (bs : List ℕ) → Every is_part bs → Every is_part (str_to_ascii_uppercase (str_to_ascii_lowercase bs))
parts_again [] h = tt
parts_again (b ∷ bs) h = (part_again b h.0, parts_again bs h.1)

fold_again : (bs : List ℕ) → str_to_ascii_lowercase bs ≡ str_to_ascii_lowercase (str_to_ascii_uppercase (str_to_ascii_lowercase bs))
fold_again [] = refl
fold_again (b ∷ bs) = (λ i. sym (lowercase-uppercase (to_ascii_lowercase b) ∙ lowercase-lowercase b) i ∷ fold_again bs i)

-- what some bytes spell is spelled by what is written for it
spells : (s : Shape) (raw : List ℕ) → Spells s raw → Spells s (raw_of s)
spells (word w) [] h = absurd h
spells (word w) (b ∷ bs) h =
    let again : Spells (word (str_to_ascii_lowercase (b ∷ bs))) (raw_of (word (str_to_ascii_lowercase (b ∷ bs)))) = (start_again b h.0, parts_again bs h.1, fold_again (b ∷ bs)) in
    subst (λ v. Spells (word v) (raw_of (word v))) (sym h.2) again
spells (quoted q) raw h = (refl, h.1, h.2)
spells (literal q) raw h = (refl, h.1)
spells (number d) raw h = (refl, h.1)
spells (mark m) raw h = inl refl

no_joint : (m : Mark) (rest : List ℕ) → Without (joins m) (32 ∷ rest)
no_joint marks.LeftParen rest = refl
no_joint marks.RightParen rest = refl
no_joint marks.Comma rest = refl
no_joint marks.Dot rest = refl
no_joint marks.Semicolon rest = refl
no_joint marks.Star rest = refl
no_joint marks.Plus rest = refl
no_joint marks.Minus rest = refl
no_joint marks.Slash rest = refl
no_joint marks.Percent rest = refl
no_joint marks.Equal rest = refl
no_joint marks.Apart rest = refl
no_joint marks.Below rest = refl
no_joint marks.AtMost rest = refl
no_joint marks.Above rest = refl
no_joint marks.AtLeast rest = refl

ends_space : (s : Shape) (rest : List ℕ) → Ends s (32 ∷ rest)
ends_space (word w) rest = refl
ends_space (quoted q) rest = refl
ends_space (literal q) rest = refl
ends_space (number d) rest = refl
ends_space (mark m) rest = no_joint m rest

ends_nothing : (s : Shape) → Ends s []
ends_nothing (word w) = tt
ends_nothing (quoted q) = tt
ends_nothing (literal q) = tt
ends_nothing (number d) = tt
ends_nothing (mark m) = tt

ends_before : (s : Shape) (ss : List Shape) → Ends s (behind_spaces ss)
ends_before s [] = ends_nothing s
ends_before s (u ∷ ss) = ends_space s (raw_of u ++ behind_spaces ss)

abbrev pub shapes : List Lexeme → List Shape
shapes = map (λ t. t.shape)

behind : (ss : List Shape) (at : ℕ) → AreShapes ss → (ts : List Lexeme) × Cuts at (behind_spaces ss) ts × (shapes ts ≡ ss)
behind [] at h = ([], ([], [], tt, refl, tt), refl)
behind (s ∷ ss) at h =
    let end : ℕ = (at + 1) + length (raw_of s) in
    let r = behind ss end h.1 in
    let t : Lexeme = record { shape = s; start = at + 1; end = end } in
    (t ∷ r.0, (32 ∷ [], raw_of s, behind_spaces ss, (refl, tt), refl, spells s (h.0).0 (h.0).1, ends_before s ss, refl, refl, r.1), ap (λ y. s ∷ y) r.2)

cuts : (ss : List Shape) → AreShapes ss → (ts : List Lexeme) × Cuts 0 (printed ss) ts × (shapes ts ≡ ss)
cuts [] h = ([], ([], [], tt, refl, tt), refl)
cuts (s ∷ ss) h =
    let end : ℕ = length (raw_of s) in
    let r = behind ss end h.1 in
    let t : Lexeme = record { shape = s; start = 0; end = end } in
    let e : end ≡ 0 + length (raw_of s) = omega arith in
    (t ∷ r.0, ([], raw_of s, behind_spaces ss, tt, refl, spells s (h.0).0 (h.0).1, ends_before s ss, refl, e, r.1), ap (λ y. s ∷ y) r.2)

pub prints : (ss : List Shape) → AreShapes ss → (ts : List Lexeme) × Lexes 0 (printed ss) ts × (shapes ts ≡ ss)
prints ss h = let r = cuts ss h in (r.0, lexes_of_cuts r.0 0 (printed ss) r.1, r.2)
