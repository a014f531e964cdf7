-- Which numbers of tokens can be read.
use Rattle.std.proofs.Common.{◌≡◌, ℕ, zero, suc, ◌<◌, inl, inr, arith, List, [], ◌∷◌, length, refl, sym, subst}
use Rattle.std.specs.Prelude.{Any}
use Rattle.std.specs.List.{slice_index_or}
use Rattle.std.specs.Str.Parse.{digits_value}
use Rattle.med_lexer.specs.declared.Token.{Token}
use Rattle.med_lexer.specs.Lexemes.{Shape, word, quoted, literal, number, mark}
use Rattle.med_lexer.specs.Printing.{AreShapes}
use Rattle.med_lexer.specs.View.{shape_of}
use Rattle.med_syntax.specs.View.{shapes_of}
use Rattle.med_syntax.specs.ExprTerminals.{IsReadable, AreReadable}
use Rattle.med_syntax.specs.ExprGrammar.{IsHuge}
use Rattle.med_syntax.proofs.ExprChains.{low_or_high}

abbrev pub IsUnreadable : Token → Type 0
IsUnreadable t = IsReadable (shape_of t.kind) → ⊥

any_tail : {X : Type 0} (P : X → Type 0) (x : X) (xs : List X) → Any P xs → Any P (x ∷ xs)
any_tail P x xs h = (suc h.0, h.1, omega (arith, h.2), h.3, h.4)

shape_readable : (s : Shape) → AreShapes (s ∷ []) → ((IsReadable s → ⊥) → ⊥) → IsReadable s
shape_readable (number d) a h =
    elim (low_or_high (digits_value 10 d) 9223372036854775808) [
      | inl l ↦ (a.0.1.1, l)
      | inr l ↦ absurd (h (λ r. absurd (omega (arith, r.1))))
    ]
shape_readable (word w) a h = tt
shape_readable (quoted q) a h = tt
shape_readable (literal x) a h = tt
shape_readable (mark m) a h = tt

pub readable : (ts : List Token) → AreShapes (shapes_of ts) → (Any IsUnreadable ts → ⊥) → AreReadable (shapes_of ts)
readable [] a h = tt
readable (t ∷ ts) a h = (shape_readable (shape_of t.kind) (a.0, tt) (λ n. h (zero, t, omega arith, refl, n)), readable ts a.1 (λ x. h (any_tail IsUnreadable t ts x)))

shape_huge : (s : Shape) → AreShapes (s ∷ []) → (IsReadable s → ⊥) → IsHuge s
shape_huge (number d) a h =
    elim (low_or_high (digits_value 10 d) 9223372036854775808) [
      | inl l ↦ absurd (h (a.0.1.1, l))
      | inr l ↦ l
    ]
shape_huge (word w) a h = h tt
shape_huge (quoted q) a h = h tt
shape_huge (literal x) a h = h tt
shape_huge (mark m) a h = h tt

huge_at : (ts : List Token) (k : ℕ) (y : Token) → AreShapes (shapes_of ts) → k < length ts → slice_index_or ts k y ≡ y → IsUnreadable y → Any IsHuge (shapes_of ts)
huge_at [] k y a l e p = absurd (omega arith)
huge_at (t ∷ ts) zero y a l e p = (zero, shape_of t.kind, omega arith, refl, shape_huge (shape_of t.kind) (a.0, tt) (subst IsUnreadable (sym e) p))
huge_at (t ∷ ts) (suc k) y a l e p = any_tail IsHuge (shape_of t.kind) (shapes_of ts) (huge_at ts k y a.1 (omega arith) e p)

pub huge : (ts : List Token) → AreShapes (shapes_of ts) → Any IsUnreadable ts → Any IsHuge (shapes_of ts)
huge ts a h = huge_at ts h.0 h.1 a h.2 h.3 h.4

shape_small : (s : Shape) → IsReadable s → IsHuge s → ⊥
shape_small (number d) r h = absurd (omega (arith, r.1, h))
shape_small s r h = h

pub small_at : (ss : List Shape) (k : ℕ) (y : Shape) → AreReadable ss → k < length ss → slice_index_or ss k y ≡ y → IsHuge y → ⊥
small_at [] k y r l e p = absurd (omega arith)
small_at (s ∷ ss) zero y r l e p = shape_small s r.0 (subst IsHuge (sym e) p)
small_at (s ∷ ss) (suc k) y r l e p = small_at ss k y r.1 (omega arith) e p
