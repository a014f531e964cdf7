-- What the tokens of a text say.
use Rattle.std.proofs.Common.{◌≡◌, ℕ, zero, suc, ◌<◌, arith, List, [], ◌∷◌, length, refl, sym, ◌∙◌, ap, subst}
use Rattle.std.specs.Prelude.{map, Any}
use Rattle.std.proofs.Math.ListN.{get_or-map}
use Rattle.std.proofs.lemmas.List.{length-map}
use Rattle.std.specs.List.{slice_index_or}
use Rattle.med_lexer.specs.declared.Token.{Token}
use Rattle.med_lexer.specs.Lexemes.{Shape, Lexeme, Lexes}
use Rattle.med_lexer.specs.View.{views, shape_of}
use Rattle.med_lexer.specs.Printing.{AreShapes}
use Rattle.med_syntax.specs.Shapes.{shapes, IsLongName}
use Rattle.med_syntax.specs.View.{shapes_of}

abbrev pub OneList : List ℕ → List Lexeme → Type 0
OneList text ts = (us : List Lexeme) → Lexes 0 text us → us ≡ ts

pub shapes_are : (ts : List Token) → shapes (views ts) ≡ shapes_of ts
shapes_are [] = refl
shapes_are (t ∷ ts) = ap (λ ss. shape_of t.kind ∷ ss) (shapes_are ts)

any_map : {X Y : Type 0} (P : Y → Type 0) (f : X → Y) (xs : List X) (k : ℕ) (y : Y) → k < length (map f xs) → slice_index_or (map f xs) k y ≡ y → P y → Any (λ x. P (f x)) xs
any_map P f [] k y l e p = absurd (omega arith)
any_map P f (x ∷ xs) zero y l e p = (zero, x, omega arith, refl, subst P (sym e) p)
any_map P f (x ∷ xs) (suc k) y l e p =
    let a = any_map P f xs k y (omega arith) e p in
    (suc a.0, a.1, omega (arith, a.2), a.3, a.4)

pub short_names : (ts : List Token) → Any IsLongName (shapes_of ts) → Any (λ (t : Token). IsLongName (shape_of t.kind)) ts
short_names ts h = any_map IsLongName (λ (t : Token). shape_of t.kind) ts h.0 h.1 h.2 h.3 h.4

pub long_name : (ts : List Token) → Any (λ (t : Token). IsLongName (shape_of t.kind)) ts → Any IsLongName (shapes_of ts)
long_name ts h =
    let f : Token → Shape = λ t. shape_of t.kind in
    (h.0, f h.1, omega (arith, h.2, length-map ts f), get_or-map f ts h.0 h.1 ∙ ap f h.3, h.4)

pub printable : (ts us : List Token) → us ≡ ts → AreShapes (shapes (views ts)) → AreShapes (shapes_of us)
printable ts us p h = subst (λ xs. AreShapes (shapes_of xs)) (sym p) (subst AreShapes (shapes_are ts) h)
