-- What was written, in the words of the crate of expressions, so that functions can name these lemmas.
use Rattle.std.proofs.Common.{◌≡◌, ℕ, List, [], ◌∷◌, ◌++◌}
use Rattle.std.specs.Prelude.{Result, IfOk}
use Rattle.med_lexer.specs.Printing.{behind_spaces, raw_of}
use Rattle.med_syntax.specs.Terminal.{Terminal}
use Rattle.expr_writer.specs.ExprPrinting.{Wrote, shape_for, shapes_for}
use Rattle.expr_writer.proofs.ExprPrints as printing

pub wrote_none : (a : List ℕ) → Wrote a a []
wrote_none a = printing.wrote_none a

pub wrote_one : (a b : List ℕ) (u : Terminal) → b ≡ (a ++ 32 ∷ []) ++ raw_of (shape_for u) → Wrote a b (u ∷ [])
wrote_one a b u h = printing.wrote_one a b u h

pub wrote_then : (a b c : List ℕ) (xs ys : List Terminal) → Wrote a b xs → Wrote b c ys → Wrote a c (xs ++ ys)
wrote_then a b c xs ys p q = printing.wrote_then a b c xs ys p q

pub wrote_more : (a b c : List ℕ) (u : Terminal) (ys : List Terminal) → Wrote a b (u ∷ []) → Wrote b c ys → Wrote a c (u ∷ ys)
wrote_more a b c u ys p q = printing.wrote_more a b c u ys p q

pub then_if : {U E : Type 0} (r : Result U E) (a b c : List ℕ) (xs ys : List Terminal) → Wrote a b xs → IfOk r (λ u. Wrote b c ys) → IfOk r (λ u. Wrote a c (xs ++ ys))
then_if r a b c xs ys p q = printing.then_if r a b c xs ys p q

pub more_if : {U E : Type 0} (r : Result U E) (a b c : List ℕ) (u : Terminal) (ys : List Terminal) → Wrote a b (u ∷ []) → IfOk r (λ v. Wrote b c ys) → IfOk r (λ v. Wrote a c (u ∷ ys))
more_if r a b c u ys p q = printing.more_if r a b c u ys p q

pub wrote_all : (o a : List ℕ) (us : List Terminal) → a ++ [] ≡ o ++ behind_spaces (shapes_for us) → Wrote o a us
wrote_all o a us h = printing.wrote_all o a us h
