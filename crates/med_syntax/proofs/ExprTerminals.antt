-- The terminals of tokens that are an expression.
use Rattle.std.proofs.Common.{◌≡◌, ℕ, inl, inr, Bool, true, false, cond, List, [], ◌∷◌, ◌++◌, refl, sym, ◌∙◌, ap, subst, append_assoc, append-nil, codes}
use Rattle.std.specs.Prelude.{Some, None}
use Rattle.std.specs.Str.{bytes_eq}
use Rattle.std.proofs.lemmas.Slice.Eq.{bytes_eq-Decides}
use Rattle.med_lexer.specs.Lexemes.{Shape, word, quoted, literal, number, mark}
use Rattle.med_syntax.specs.declared.expr.Joint.{Joint}
use Rattle.med_syntax.specs.declared.expr.Joint.TheVariants.{And}
use Rattle.med_value.specs.declared.operators.Status.TheVariants as statuses
use Rattle.med_syntax.specs.Terminal.{Terminal, word_terminal, IsTerminal, AreTerminals}
use Rattle.med_syntax.specs.Terminal as t
use Rattle.med_syntax.specs.ExprTerminals.{follows, terminal_at, terminals_at}
use Rattle.med_syntax.specs.ExprTree.{ExprTree, ExprTrees, num, negative, text, truth, null, column, call_all, call, paren, minus, binary, between, among, like, compare, tested, negation, chain, none, more, perhaps_not, spelling, parts_spelling, spellings, IsExpr}
use Rattle.med_syntax.specs.ExprGrammar.{IsExpression}
use Rattle.med_syntax.specs.Words.{is_reserved}

-- ---- tokens are the terminals that they are read as

word_is : (w : List ℕ) (b : Bool) → bytes_eq w (codes "unknown") ≡ b → IsTerminal (word w) (cond b t.Unknown (word_terminal w))
word_is w true h = inr (ap word ((bytes_eq-Decides w (codes "unknown")).0 h), refl)
word_is w false h = inl refl

terminal_is : (b : Bool) (s : Shape) → IsTerminal s (terminal_at b s)
terminal_is true (word w) = word_is w (bytes_eq w (codes "unknown")) refl
terminal_is false (word w) = inl refl
terminal_is b (quoted q) = inl refl
terminal_is b (literal x) = inl refl
terminal_is b (number d) = inl refl
terminal_is b (mark m) = inl refl

pub terminals_are : (b : Bool) (ss : List Shape) → AreTerminals ss (terminals_at b ss)
terminals_are b [] = tt
terminals_are b (s ∷ ss) = (terminal_is b s, terminals_are (follows b (terminal_at b s)) ss)

-- ---- where UNKNOWN is the keyword, no name stands, and elsewhere it is none

abbrev pub Allowed : Bool → Terminal → Type 0
Allowed true (t.Name n) = ⊥
Allowed false t.Unknown = ⊥
Allowed b u = Unit {0}

abbrev pub Good : Bool → List Terminal → Type 0
Good b [] = Unit {0}
Good b (u ∷ us) = Allowed b u × Good (follows b u) us

word_same : (w : List ℕ) (u : Terminal) (b : Bool) → bytes_eq w (codes "unknown") ≡ b → u ≡ word_terminal w → Allowed true u → u ≡ cond b t.Unknown (word_terminal w)
unfolding is_reserved
word_same w u false h p a = p
word_same w u true h p a =
    let e : u ≡ t.Name (codes "unknown") = p ∙ ap word_terminal ((bytes_eq-Decides w (codes "unknown")).0 h) in
    absurd (subst (Allowed true) e a)

unknown_same : (b : Bool) (s : Shape) (u : Terminal) → s ≡ word (codes "unknown") → u ≡ t.Unknown → Allowed b u → u ≡ terminal_at b s
unknown_same true s u p q a = q ∙ ap (terminal_at true) (sym p)
unknown_same false s u p q a = absurd (subst (Allowed false) q a)

same_terminal : (b : Bool) (s : Shape) (u : Terminal) → IsTerminal s u → Allowed b u → u ≡ terminal_at b s
same_terminal b s u (inr h) a = unknown_same b s u h.0 h.1 a
same_terminal true (word w) u (inl h) a = word_same w u (bytes_eq w (codes "unknown")) refl h a
same_terminal false (word w) u (inl h) a = h
same_terminal b (quoted q) u (inl h) a = h
same_terminal b (literal x) u (inl h) a = h
same_terminal b (number d) u (inl h) a = h
same_terminal b (mark m) u (inl h) a = h

consed : (b : Bool) (s : Shape) (ss : List Shape) (u : Terminal) (us : List Terminal) → u ≡ terminal_at b s → us ≡ terminals_at (follows b u) ss → u ∷ us ≡ terminal_at b s ∷ terminals_at (follows b (terminal_at b s)) ss
consed b s ss u us p q = (λ i. p i ∷ (q ∙ ap (λ v. terminals_at (follows b v) ss) p) i)

pub same_terminals : (b : Bool) (ss : List Shape) (us : List Terminal) → AreTerminals ss us → Good b us → us ≡ terminals_at b ss
same_terminals b [] [] h g = refl
same_terminals b [] (u ∷ us) h g = absurd h
same_terminals b (s ∷ ss) [] h g = absurd h
same_terminals b (s ∷ ss) (u ∷ us) h g = consed b s ss u us (same_terminal b s u h.0 g.0) (same_terminals (follows b u) ss us h.1 g.1)

-- ---- expressions

not_good : (neg : Bool) (us : List Terminal) → Good false us → Good false (perhaps_not neg ++ us)
not_good true us g = (tt, g)
not_good false us g = g

mutual
  pub good : (e : ExprTree) (rest : List Terminal) → Good false rest → Good false (spelling e ++ rest)
  good (num n) rest g = (tt, g)
  good (negative n) rest g = (tt, (tt, g))
  good (text x) rest g = (tt, g)
  good (truth b) rest g = (tt, g)
  good null rest g = (tt, g)
  good (column None n) rest g = (tt, g)
  good (column (Some q) n) rest g = (tt, (tt, (tt, g)))
  good (call_all f) rest g = (tt, (tt, (tt, (tt, g))))
  good (call f parts) rest g = (tt, (tt, parts_good parts rest g))
  good (paren e) rest g = rw (append_assoc (spelling e) (t.RightParen ∷ []) rest) (tt, good e (t.RightParen ∷ rest) (tt, g))
  good (minus e) rest g = (tt, good e rest g)
  good (binary op a b) rest g = rw (append_assoc (spelling a) (t.Binary op ∷ spelling b) rest) (good a (t.Binary op ∷ (spelling b ++ rest)) (tt, good b rest g))
  good (between neg e low high) rest g =
      let bounds : List Terminal = spelling low ++ (t.Joined And ∷ (spelling high ++ rest)) in
      let same : spelling (between neg e low high) ++ rest ≡ spelling e ++ (perhaps_not neg ++ t.Between ∷ bounds) = simp append_assoc in
      rw same (good e (perhaps_not neg ++ t.Between ∷ bounds) (not_good neg (t.Between ∷ bounds) (tt, good low (t.Joined And ∷ (spelling high ++ rest)) (tt, good high rest g))))
  good (among neg e first others) rest g =
      let items : List Terminal = spelling first ++ (spellings t.Comma others ++ t.RightParen ∷ rest) in
      let same : spelling (among neg e first others) ++ rest ≡ spelling e ++ (perhaps_not neg ++ t.In ∷ t.LeftParen ∷ items) = simp append_assoc in
      rw same (good e (perhaps_not neg ++ t.In ∷ t.LeftParen ∷ items) (not_good neg (t.In ∷ t.LeftParen ∷ items) (tt, (tt, good first (spellings t.Comma others ++ t.RightParen ∷ rest) (commas_good others (t.RightParen ∷ rest) (tt, g))))))
  good (like neg e x) rest g =
      let same : spelling (like neg e x) ++ rest ≡ spelling e ++ (perhaps_not neg ++ t.Like ∷ t.Text x ∷ rest) = simp append_assoc in
      rw same (good e (perhaps_not neg ++ t.Like ∷ t.Text x ∷ rest) (not_good neg (t.Like ∷ t.Text x ∷ rest) (tt, (tt, g))))
  good (compare op a b) rest g = rw (append_assoc (spelling a) (t.Compare op ∷ spelling b) rest) (good a (t.Compare op ∷ (spelling b ++ rest)) (tt, good b rest g))
  good (tested true e statuses.Null) rest g = rw (append_assoc (spelling e) (t.Is ∷ t.Not ∷ t.Null ∷ []) rest) (good e (t.Is ∷ t.Not ∷ t.Null ∷ rest) (tt, (tt, (tt, g))))
  good (tested true e statuses.True) rest g = rw (append_assoc (spelling e) (t.Is ∷ t.Not ∷ t.Truth true ∷ []) rest) (good e (t.Is ∷ t.Not ∷ t.Truth true ∷ rest) (tt, (tt, (tt, g))))
  good (tested true e statuses.False) rest g = rw (append_assoc (spelling e) (t.Is ∷ t.Not ∷ t.Truth false ∷ []) rest) (good e (t.Is ∷ t.Not ∷ t.Truth false ∷ rest) (tt, (tt, (tt, g))))
  good (tested true e statuses.Unknown) rest g = rw (append_assoc (spelling e) (t.Is ∷ t.Not ∷ t.Unknown ∷ []) rest) (good e (t.Is ∷ t.Not ∷ t.Unknown ∷ rest) (tt, (tt, (tt, g))))
  good (tested false e statuses.Null) rest g = rw (append_assoc (spelling e) (t.Is ∷ t.Null ∷ []) rest) (good e (t.Is ∷ t.Null ∷ rest) (tt, (tt, g)))
  good (tested false e statuses.True) rest g = rw (append_assoc (spelling e) (t.Is ∷ t.Truth true ∷ []) rest) (good e (t.Is ∷ t.Truth true ∷ rest) (tt, (tt, g)))
  good (tested false e statuses.False) rest g = rw (append_assoc (spelling e) (t.Is ∷ t.Truth false ∷ []) rest) (good e (t.Is ∷ t.Truth false ∷ rest) (tt, (tt, g)))
  good (tested false e statuses.Unknown) rest g = rw (append_assoc (spelling e) (t.Is ∷ t.Unknown ∷ []) rest) (good e (t.Is ∷ t.Unknown ∷ rest) (tt, (tt, g)))
  good (negation e) rest g = (tt, good e rest g)
  good (chain j first others) rest g = rw (append_assoc (spelling first) (spellings (t.Joined j) others) rest) (good first (spellings (t.Joined j) others ++ rest) (joints_good j others rest g))

  parts_good : (es : ExprTrees) (rest : List Terminal) → Good false rest → Good false (parts_spelling es ++ rest)
  parts_good none rest g = (tt, g)
  parts_good (more e es) rest g =
      let same : parts_spelling (more e es) ++ rest ≡ spelling e ++ (spellings t.Comma es ++ t.RightParen ∷ rest) = simp append_assoc in
      rw same (good e (spellings t.Comma es ++ t.RightParen ∷ rest) (commas_good es (t.RightParen ∷ rest) (tt, g)))

  commas_good : (es : ExprTrees) (rest : List Terminal) → Good false rest → Good false (spellings t.Comma es ++ rest)
  commas_good none rest g = g
  commas_good (more e es) rest g = rw (append_assoc (spelling e) (spellings t.Comma es) rest) (tt, good e (spellings t.Comma es ++ rest) (commas_good es rest g))

  joints_good : (j : Joint) (es : ExprTrees) (rest : List Terminal) → Good false rest → Good false (spellings (t.Joined j) es ++ rest)
  joints_good j none rest g = g
  joints_good j (more e es) rest g = rw (append_assoc (spelling e) (spellings (t.Joined j) es) rest) (tt, good e (spellings (t.Joined j) es ++ rest) (joints_good j es rest g))

all_good : (e : ExprTree) → Good false (spelling e)
all_good e = subst (Good false) (append-nil (spelling e)) (good e [] tt)

-- tokens are an expression where their terminals are
pub to_terminals : (ss : List Shape) (e : ExprTree) → IsExpression ss e → IsExpr (terminals_at false ss) e
to_terminals ss e x = record { fits = x.0; spelled = sym (same_terminals false ss (spelling e) x.1 (all_good e)) }

pub of_terminals : (ss : List Shape) (e : ExprTree) → IsExpr (terminals_at false ss) e → IsExpression ss e
of_terminals ss e x = (x.fits, subst (AreTerminals ss) x.spelled (terminals_are false ss))
