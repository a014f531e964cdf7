-- Which word a terminal is where it stands as a label.
use Rattle.std.proofs.Common.{◌≡◌, ℕ, inl, inr, Bool, true, false, cond, List, refl, sym, ◌∙◌, ap, codes}
use Rattle.std.specs.Prelude.{Some}
use Rattle.std.specs.Str.{bytes_eq}
use Rattle.std.proofs.lemmas.Slice.Eq.{bytes_eq-Decides}
use Rattle.med_syntax.specs.declared.expr.Joint.TheVariants.{Or, And}
use Rattle.med_syntax.specs.Tree.{Name}
use Rattle.med_syntax.specs.Words.{is_reserved}
use Rattle.med_syntax.specs.Terminal.{Terminal, word_terminal}
use Rattle.med_syntax.specs.Terminal as t
use Rattle.med_syntax.specs.QueryTerminals.{label_of}
use Rattle.med_syntax.specs.QueryGrammar.{IsLabel}

word_step : (w v : List ℕ) (u x : Terminal) (b : Bool) → bytes_eq w v ≡ b → label_of u ≡ Some v → label_of x ≡ Some w → label_of (cond b u x) ≡ Some w
word_step w v u x true h p q = p ∙ ap Some (sym ((bytes_eq-Decides w v).0 h))
word_step w v u x false h p q = q

plain_label : (w : List ℕ) (b : Bool) → is_reserved w ≡ b → label_of (cond b (t.Reserved w) (t.Name w)) ≡ Some w
plain_label w true h = rw h refl
plain_label w false h = refl

pub word_label : (w : List ℕ) → label_of (word_terminal w) ≡ Some w
word_label w =
    word_step w (codes "and") (t.Joined And) _ (bytes_eq w (codes "and")) refl refl
    (word_step w (codes "or") (t.Joined Or) _ (bytes_eq w (codes "or")) refl refl
    (word_step w (codes "not") t.Not _ (bytes_eq w (codes "not")) refl refl
    (word_step w (codes "between") t.Between _ (bytes_eq w (codes "between")) refl refl
    (word_step w (codes "in") t.In _ (bytes_eq w (codes "in")) refl refl
    (word_step w (codes "is") t.Is _ (bytes_eq w (codes "is")) refl refl
    (word_step w (codes "like") t.Like _ (bytes_eq w (codes "like")) refl refl
    (word_step w (codes "null") t.Null _ (bytes_eq w (codes "null")) refl refl
    (word_step w (codes "true") (t.Truth true) _ (bytes_eq w (codes "true")) refl refl
    (word_step w (codes "false") (t.Truth false) _ (bytes_eq w (codes "false")) refl refl
    (plain_label w (is_reserved w) refl))))))))))

pub label_is : (n : Name) (u : Terminal) → IsLabel n u → label_of u ≡ Some n
label_is n u (inl h) = ap label_of h
label_is n u (inr (inl h)) = ap label_of h.0 ∙ (rw h.1 refl)
label_is n u (inr (inr h)) = ap label_of h ∙ word_label n
