-- What is written of an expression has that expression.
use Rattle.std.proofs.Common.{◌≡◌, ℕ, ◌≤◌, ◌<◌, ◌^◌, inl, inr, arith, Bool, true, false, cond, List, [], ◌∷◌, ◌++◌, length, refl, sym, ◌∙◌, ap, subst, append_assoc, append-nil, rules, codes}
use Rattle.std.specs.Prelude.{◌&&◌, Some, None, map, nat_le, Result, Ok, Err, IfOk}
use Rattle.std.specs.Str.{bytes_eq, str_to_ascii_lowercase}
use Rattle.std.specs.Str.Parse.{digits_value, digits_value_after}
use Rattle.std.specs.Char.{to_ascii_lowercase, is_ascii_digit}
use Rattle.std.specs.List.{slice_index, remove_range}
use Rattle.std.specs.Fmt.{decimal}
use Rattle.std.proofs.lemmas.Str.Parse.{IsNumeralModel, numerals_by_fold}
use Rattle.std.proofs.lemmas.Fmt.{decimal_is_IsNumeral}
use Rattle.std.proofs.lemmas.Bool.Decides.{nat_tests, leb_tells}
use Rattle.med_lexer.specs.declared.Mark.{Mark}
use Rattle.med_lexer.specs.declared.Mark.TheVariants as marks
use Rattle.med_lexer.specs.Lexemes.{is_part, is_start, is_text, Every, Shape, word, quoted, literal, number, mark, mark_bytes, Spells, Lexeme, Lexes}
use Rattle.med_lexer.specs.Printing.{IsShape, AreShapes, behind_spaces, raw_of, printed}
use Rattle.med_value.specs.declared.operators.Operation.TheVariants.{Add, Subtract, Multiply, Divide, Remainder}
use Rattle.med_value.specs.declared.order.Comparison.TheVariants.{Equal, Apart, Below, AtMost, Above, AtLeast}
use Rattle.med_syntax.specs.declared.expr.Joint.{Joint}
use Rattle.med_syntax.specs.declared.expr.Joint.TheVariants.{Or, And}
use Rattle.med_value.specs.declared.operators.Status.{Status}
use Rattle.med_value.specs.declared.operators.Status.TheVariants as statuses
use Rattle.med_syntax.specs.Prelude.{shapes, is_reserved, Terminal, terminal_of, mark_terminal, word_terminal, IsTerminal, AreTerminals, ExprTree, ExprTrees, num, negative, text, truth, null, column, call_all, call, paren, minus, binary, between, among, like, compare, tested, negation, chain, none, more, perhaps_not, status_terminal, spelling, parts_spelling, spellings, HasExpr, in_range, are_in_range}
use Rattle.med_syntax.specs.Terminal as t
use Rattle.expr_writer.specs.ExprPrinting.{binary_mark, compare_mark, shape_for, shapes_for, printed_expr, Wrote}

-- ---- writing one after the other

pub spaces_append : (xs ys : List Terminal) → behind_spaces (shapes_for (xs ++ ys)) ≡ behind_spaces (shapes_for xs) ++ behind_spaces (shapes_for ys)
spaces_append [] ys = refl
spaces_append (x ∷ xs) ys = ap (λ bs. 32 ∷ bs) (ap (λ bs. raw_of (shape_for x) ++ bs) (spaces_append xs ys) ∙ sym (append_assoc (raw_of (shape_for x)) (behind_spaces (shapes_for xs)) (behind_spaces (shapes_for ys))))

pub wrote_none : (a : List ℕ) → Wrote a a []
wrote_none a = record { is = sym (append-nil a) }

pub wrote_then : (a b c : List ℕ) (xs ys : List Terminal) → Wrote a b xs → Wrote b c ys → Wrote a c (xs ++ ys)
wrote_then a b c xs ys p q = record {
  is = q.is ∙ ap (λ x. x ++ behind_spaces (shapes_for ys)) p.is ∙ append_assoc a (behind_spaces (shapes_for xs)) (behind_spaces (shapes_for ys)) ∙ ap (λ x. a ++ x) (sym (spaces_append xs ys));
}

pub wrote_more : (a b c : List ℕ) (u : Terminal) (ys : List Terminal) → Wrote a b (u ∷ []) → Wrote b c ys → Wrote a c (u ∷ ys)
wrote_more a b c u ys p q = wrote_then a b c (u ∷ []) ys p q

pub wrote_one : (a b : List ℕ) (u : Terminal) → b ≡ (a ++ 32 ∷ []) ++ raw_of (shape_for u) → Wrote a b (u ∷ [])
wrote_one a b u h = record { is = h ∙ append_assoc a (32 ∷ []) (raw_of (shape_for u)) ∙ ap (λ x. a ++ 32 ∷ x) (sym (append-nil (raw_of (shape_for u)))) }

pub then_if : {U E : Type 0} (r : Result U E) (a b c : List ℕ) (xs ys : List Terminal) → Wrote a b xs → IfOk r (λ u. Wrote b c ys) → IfOk r (λ u. Wrote a c (xs ++ ys))
then_if (Ok u) a b c xs ys p q = wrote_then a b c xs ys p q
then_if (Err e) a b c xs ys p q = tt

pub more_if : {U E : Type 0} (r : Result U E) (a b c : List ℕ) (u : Terminal) (ys : List Terminal) → Wrote a b (u ∷ []) → IfOk r (λ v. Wrote b c ys) → IfOk r (λ v. Wrote a c (u ∷ ys))
more_if r a b c u ys p q = then_if r a b c (u ∷ []) ys p q

-- each further one of a list
pub wrote_next : (o a b c : List ℕ) (sep : Terminal) (e : ExprTree) (es all : ExprTrees) → a ++ behind_spaces (shapes_for (spellings sep (more e es))) ≡ o ++ behind_spaces (shapes_for (spellings sep all)) →
    Wrote a b (sep ∷ []) → Wrote b c (spelling e) → c ++ behind_spaces (shapes_for (spellings sep es)) ≡ o ++ behind_spaces (shapes_for (spellings sep all))
wrote_next o a b c sep e es all same p q =
    let w : Wrote a c (sep ∷ spelling e) = wrote_more a b c sep (spelling e) p q in
    ap (λ x. x ++ behind_spaces (shapes_for (spellings sep es))) w.is ∙ append_assoc a (behind_spaces (shapes_for (sep ∷ spelling e))) (behind_spaces (shapes_for (spellings sep es)))
    ∙ ap (λ x. a ++ x) (sym (spaces_append (sep ∷ spelling e) (spellings sep es))) ∙ same

pub wrote_all : (o a : List ℕ) (us : List Terminal) → a ++ [] ≡ o ++ behind_spaces (shapes_for us) → Wrote o a us
wrote_all o a us h = record { is = sym (append-nil a) ∙ h }

-- ---- no spelling is empty, and none has a reserved word that no expression has

abbrev Begins : List Terminal → Type 0
Begins us = (u : Terminal) × (vs : List Terminal) × (us ≡ u ∷ vs)

begins_append : (us vs : List Terminal) → Begins us → Begins (us ++ vs)
begins_append us vs b = (b.0, b.1 ++ vs, ap (λ x. x ++ vs) b.2)

pub begins : (e : ExprTree) → Begins (spelling e)
begins (num n) = (t.Num n, [], refl)
begins (negative n) = (t.Binary Subtract, t.Num n ∷ [], refl)
begins (text x) = (t.Text x, [], refl)
begins (truth b) = (t.Truth b, [], refl)
begins null = (t.Null, [], refl)
begins (column None n) = (t.Name n, [], refl)
begins (column (Some q) n) = (t.Name q, t.Dot ∷ t.Name n ∷ [], refl)
begins (call_all f) = (t.Name f, t.LeftParen ∷ t.Binary Multiply ∷ t.RightParen ∷ [], refl)
begins (call f parts) = (t.Name f, t.LeftParen ∷ parts_spelling parts, refl)
begins (paren e) = (t.LeftParen, spelling e ++ t.RightParen ∷ [], refl)
begins (minus e) = (t.Binary Subtract, spelling e, refl)
begins (binary op a b) = begins_append (spelling a) _ (begins a)
begins (between neg e low high) = begins_append (spelling e) _ (begins e)
begins (among neg e first others) = begins_append (spelling e) _ (begins e)
begins (like neg e x) = begins_append (spelling e) _ (begins e)
begins (compare op a b) = begins_append (spelling a) _ (begins a)
begins (tested neg e s) = begins_append (spelling e) _ (begins e)
begins (negation e) = (t.Not, spelling e, refl)
begins (chain j first others) = begins_append (spelling first) _ (begins first)

spaced_at : (us : List Terminal) (u : Terminal) (vs : List Terminal) → us ≡ u ∷ vs → behind_spaces (shapes_for us) ≡ 32 ∷ printed (shapes_for us)
spaced_at us u vs p = rw p refl

pub spaced : (e : ExprTree) (a b : List ℕ) → a ≡ [] → Wrote a b (spelling e) → b ≡ 32 ∷ printed_expr e
spaced e a b p w = let x = begins e in w.is ∙ ap (λ y. y ++ behind_spaces (shapes_for (spelling e))) p ∙ spaced_at (spelling e) x.0 x.1 x.2

pub removed : (b n rest : List ℕ) → b ≡ 32 ∷ rest → (slice_index b 0 < 128 → n ≡ remove_range b 0 1) → n ≡ rest
removed b n rest p h = h (rw p (omega arith)) ∙ (rw p refl)

-- ---- terminals that can be written

abbrev pub Writable : Terminal → Type 0
Writable (t.Num n) = n < 2 ^ 64
Writable (t.Reserved w) = ⊥
Writable u = Unit {0}

abbrev pub AreWritable : List Terminal → Type 0
AreWritable [] = Unit {0}
AreWritable (u ∷ us) = Writable u × AreWritable us

pub both_left : (a b : Bool) → (a && b) ≡ true → a ≡ true
both_left true b h = refl
both_left false b h = absurd (cc)

pub both_right : (a b : Bool) → (a && b) ≡ true → b ≡ true
both_right true b h = h
both_right false b h = absurd (cc)

at_most : (n m : ℕ) → nat_le n m ≡ true → n ≤ m
at_most n m h = elim (leb_tells n m) [ inl p ↦ p.1 | inr p ↦ absurd (let q : nat_le n m ≡ false = p.0 in cc) ]

not_writable : (neg : Bool) (us : List Terminal) → AreWritable us → AreWritable (perhaps_not neg ++ us)
not_writable true us g = (tt, g)
not_writable false us g = g

status_writable : (s : Status) → Writable (status_terminal s)
status_writable statuses.Null = tt
status_writable statuses.True = tt
status_writable statuses.False = tt
status_writable statuses.Unknown = tt

mutual
  pub writable : (e : ExprTree) (rest : List Terminal) → in_range e ≡ true → AreWritable rest → AreWritable (spelling e ++ rest)
  writable (num n) rest r g = (omega (arith, at_most n 9223372036854775807 r), g)
  writable (negative n) rest r g = (tt, (omega (arith, at_most n 9223372036854775808 r), g))
  writable (text x) rest r g = (tt, g)
  writable (truth b) rest r g = (tt, g)
  writable null rest r g = (tt, g)
  writable (column None n) rest r g = (tt, g)
  writable (column (Some q) n) rest r g = (tt, (tt, (tt, g)))
  writable (call_all f) rest r g = (tt, (tt, (tt, (tt, g))))
  writable (call f parts) rest r g = (tt, (tt, parts_writable parts rest r g))
  writable (paren e) rest r g = rw (append_assoc (spelling e) (t.RightParen ∷ []) rest) (tt, writable e (t.RightParen ∷ rest) r (tt, g))
  writable (minus e) rest r g = (tt, writable e rest r g)
  writable (binary op a b) rest r g = rw (append_assoc (spelling a) (t.Binary op ∷ spelling b) rest) (writable a (t.Binary op ∷ (spelling b ++ rest)) (both_left (in_range a) (in_range b) r) (tt, writable b rest (both_right (in_range a) (in_range b) r) g))
  writable (between neg e low high) rest r g =
      let bounds : List Terminal = spelling low ++ (t.Joined And ∷ (spelling high ++ rest)) in
      let same : spelling (between neg e low high) ++ rest ≡ spelling e ++ (perhaps_not neg ++ t.Between ∷ bounds) = simp append_assoc in
      let r2 : (in_range low && in_range high) ≡ true = both_right (in_range e) (in_range low && in_range high) r in
      rw same (writable e (perhaps_not neg ++ t.Between ∷ bounds) (both_left (in_range e) (in_range low && in_range high) r)
      (not_writable neg (t.Between ∷ bounds) (tt, writable low (t.Joined And ∷ (spelling high ++ rest)) (both_left (in_range low) (in_range high) r2) (tt, writable high rest (both_right (in_range low) (in_range high) r2) g))))
  writable (among neg e first others) rest r g =
      let items : List Terminal = spelling first ++ (spellings t.Comma others ++ t.RightParen ∷ rest) in
      let same : spelling (among neg e first others) ++ rest ≡ spelling e ++ (perhaps_not neg ++ t.In ∷ t.LeftParen ∷ items) = simp append_assoc in
      let r2 : (in_range first && are_in_range others) ≡ true = both_right (in_range e) (in_range first && are_in_range others) r in
      rw same (writable e (perhaps_not neg ++ t.In ∷ t.LeftParen ∷ items) (both_left (in_range e) (in_range first && are_in_range others) r)
      (not_writable neg (t.In ∷ t.LeftParen ∷ items) (tt, (tt, writable first (spellings t.Comma others ++ t.RightParen ∷ rest) (both_left (in_range first) (are_in_range others) r2) (commas_writable others (t.RightParen ∷ rest) (both_right (in_range first) (are_in_range others) r2) (tt, g))))))
  writable (like neg e x) rest r g =
      let same : spelling (like neg e x) ++ rest ≡ spelling e ++ (perhaps_not neg ++ t.Like ∷ t.Text x ∷ rest) = simp append_assoc in
      rw same (writable e (perhaps_not neg ++ t.Like ∷ t.Text x ∷ rest) r (not_writable neg (t.Like ∷ t.Text x ∷ rest) (tt, (tt, g))))
  writable (compare op a b) rest r g = rw (append_assoc (spelling a) (t.Compare op ∷ spelling b) rest) (writable a (t.Compare op ∷ (spelling b ++ rest)) (both_left (in_range a) (in_range b) r) (tt, writable b rest (both_right (in_range a) (in_range b) r) g))
  writable (tested neg e s) rest r g =
      let same : spelling (tested neg e s) ++ rest ≡ spelling e ++ (t.Is ∷ (perhaps_not neg ++ status_terminal s ∷ rest)) = simp append_assoc in
      rw same (writable e (t.Is ∷ (perhaps_not neg ++ status_terminal s ∷ rest)) r (tt, not_writable neg (status_terminal s ∷ rest) (status_writable s, g)))
  writable (negation e) rest r g = (tt, writable e rest r g)
  writable (chain j first others) rest r g = rw (append_assoc (spelling first) (spellings (t.Joined j) others) rest) (writable first (spellings (t.Joined j) others ++ rest) (both_left (in_range first) (are_in_range others) r) (joints_writable j others rest (both_right (in_range first) (are_in_range others) r) g))

  parts_writable : (es : ExprTrees) (rest : List Terminal) → are_in_range es ≡ true → AreWritable rest → AreWritable (parts_spelling es ++ rest)
  parts_writable none rest r g = (tt, g)
  parts_writable (more e es) rest r g =
      let same : parts_spelling (more e es) ++ rest ≡ spelling e ++ (spellings t.Comma es ++ t.RightParen ∷ rest) = simp append_assoc in
      rw same (writable e (spellings t.Comma es ++ t.RightParen ∷ rest) (both_left (in_range e) (are_in_range es) r) (commas_writable es (t.RightParen ∷ rest) (both_right (in_range e) (are_in_range es) r) (tt, g)))

  commas_writable : (es : ExprTrees) (rest : List Terminal) → are_in_range es ≡ true → AreWritable rest → AreWritable (spellings t.Comma es ++ rest)
  commas_writable none rest r g = g
  commas_writable (more e es) rest r g = rw (append_assoc (spelling e) (spellings t.Comma es) rest) (tt, writable e (spellings t.Comma es ++ rest) (both_left (in_range e) (are_in_range es) r) (commas_writable es rest (both_right (in_range e) (are_in_range es) r) g))

  joints_writable : (j : Joint) (es : ExprTrees) (rest : List Terminal) → are_in_range es ≡ true → AreWritable rest → AreWritable (spellings (t.Joined j) es ++ rest)
  joints_writable j none rest r g = g
  joints_writable j (more e es) rest r g = rw (append_assoc (spelling e) (spellings (t.Joined j) es) rest) (tt, writable e (spellings (t.Joined j) es ++ rest) (both_left (in_range e) (are_in_range es) r) (joints_writable j es rest (both_right (in_range e) (are_in_range es) r) g))

-- ---- the tokens written are these terminals

number_terminal : (n : ℕ) → n < 2 ^ 64 → IsTerminal (number (decimal n)) (t.Num n)
number_terminal n h = inl (ap t.Num (sym (decimal_is_IsNumeral n h).1))

pub written_terminal : (u : Terminal) → Writable u → IsTerminal (shape_for u) u
written_terminal t.Unknown h = inr (refl, refl)
written_terminal (t.Num n) h = number_terminal n h
written_terminal (t.Reserved w) h = absurd h
written_terminal (t.Binary Add) h = inl refl
written_terminal (t.Binary Subtract) h = inl refl
written_terminal (t.Binary Multiply) h = inl refl
written_terminal (t.Binary Divide) h = inl refl
written_terminal (t.Binary Remainder) h = inl refl
written_terminal (t.Compare Equal) h = inl refl
written_terminal (t.Compare Apart) h = inl refl
written_terminal (t.Compare Below) h = inl refl
written_terminal (t.Compare AtMost) h = inl refl
written_terminal (t.Compare Above) h = inl refl
written_terminal (t.Compare AtLeast) h = inl refl
written_terminal (t.Joined Or) h = inl refl
written_terminal (t.Joined And) h = inl refl
written_terminal (t.Truth true) h = inl refl
written_terminal (t.Truth false) h = inl refl
written_terminal u h = inl refl

written_terminals : (us : List Terminal) → AreWritable us → AreTerminals (shapes_for us) us
written_terminals [] h = tt
written_terminals (u ∷ us) h = (written_terminal u h.0, written_terminals us h.1)

-- ---- what is written for a token's terminal is a token

abbrev pub IsNameOf : Shape → List ℕ → Type 0
IsNameOf (word w) n = n ≡ w
IsNameOf (quoted q) n = n ≡ q
IsNameOf s n = ⊥

-- what a token says of the name or the text that it is
abbrev pub Says : Shape → Terminal → Type 0
Says s (t.Name n) = IsNameOf s n
Says s (t.Text x) = s ≡ literal x
Says s u = Unit {0}

says_cond : (s : Shape) (b : Bool) (u v : Terminal) → Says s u → Says s v → Says s (cond b u v)
says_cond s true u v p q = p
says_cond s false u v p q = q

says_word : (w : List ℕ) → Says (word w) (word_terminal w)
says_word w =
    says_cond (word w) (bytes_eq w (codes "and")) (t.Joined And) _ tt (says_cond (word w) (bytes_eq w (codes "or")) (t.Joined Or) _ tt
    (says_cond (word w) (bytes_eq w (codes "not")) t.Not _ tt (says_cond (word w) (bytes_eq w (codes "between")) t.Between _ tt
    (says_cond (word w) (bytes_eq w (codes "in")) t.In _ tt (says_cond (word w) (bytes_eq w (codes "is")) t.Is _ tt
    (says_cond (word w) (bytes_eq w (codes "like")) t.Like _ tt (says_cond (word w) (bytes_eq w (codes "null")) t.Null _ tt
    (says_cond (word w) (bytes_eq w (codes "true")) (t.Truth true) _ tt (says_cond (word w) (bytes_eq w (codes "false")) (t.Truth false) _ tt
    (says_cond (word w) (is_reserved w) (t.Reserved w) (t.Name w) tt refl))))))))))

says_mark : (m : Mark) → Says (mark m) (mark_terminal m)
says_mark marks.LeftParen = tt
says_mark m = tt

says_it : (s : Shape) → Says s (terminal_of s)
says_it (word w) = says_word w
says_it (quoted q) = refl
says_it (literal x) = refl
says_it (number d) = tt
says_it (mark m) = says_mark m

pub says : (s : Shape) (u : Terminal) → IsTerminal s u → Says s u
says s u (inl h) = subst (Says s) (sym h) (says_it s)
says s u (inr h) = subst (Says s) (sym h.1) tt

low_text : (b : ℕ) → is_part b ≡ true → is_text (to_ascii_lowercase b) ≡ true
low_text b h = grind (arith, nat_tests)

low_texts : (bs : List ℕ) → Every is_part bs → Every is_text (str_to_ascii_lowercase bs)
low_texts [] h = tt
low_texts (b ∷ bs) h = (low_text b h.0, low_texts bs h.1)

start_part : (b : ℕ) → is_start b ≡ true → is_part b ≡ true
start_part b h = grind (arith, nat_tests)

word_name : (w raw : List ℕ) → Spells (word w) raw → Every is_text w × (0 < length w)
word_name w [] h = absurd h
word_name w (b ∷ bs) h = subst (λ v. Every is_text v × (0 < length v)) (sym h.2) (low_texts (b ∷ bs) (start_part b h.0, h.1), omega arith)

pub name_shape : (s : Shape) (n : List ℕ) → IsShape s → IsNameOf s n → IsShape (quoted n)
name_shape (word w) n h p = let x = word_name w h.0 h.1 in subst (λ v. IsShape (quoted v)) (sym p) (raw_of (quoted w), (refl, x.0, x.1))
name_shape (quoted q) n h p = subst (λ v. IsShape (quoted v)) (sym p) h
name_shape (literal x) n h p = absurd p
name_shape (number d) n h p = absurd p
name_shape (mark m) n h p = absurd p

own : IsNumeralModel (λ ds. Every is_ascii_digit ds) (digits_value 10)
own = numerals_by_fold _ (search rules) (digits_value_after 10) (search rules)

number_shape : (n : ℕ) → n < 2 ^ 64 → IsShape (number (decimal n))
number_shape n h = let d = (decimal_is_IsNumeral n h).0 in (decimal n, (refl, (own.from (decimal n) d.1, d.0)))

a_mark : (m : Mark) → IsShape (mark m)
a_mark m = (mark_bytes m, inl refl)

pub written_shape : (s : Shape) (u : Terminal) → IsShape s → Says s u → Writable u → IsShape (shape_for u)
written_shape s t.LeftParen h p w = a_mark marks.LeftParen
written_shape s t.RightParen h p w = a_mark marks.RightParen
written_shape s t.Comma h p w = a_mark marks.Comma
written_shape s t.Dot h p w = a_mark marks.Dot
written_shape s t.Semicolon h p w = a_mark marks.Semicolon
written_shape s (t.Binary op) h p w = a_mark (binary_mark op)
written_shape s (t.Compare op) h p w = a_mark (compare_mark op)
written_shape s (t.Joined Or) h p w = (codes "or", (refl, (refl, tt), refl))
written_shape s (t.Joined And) h p w = (codes "and", (refl, (refl, (refl, tt)), refl))
written_shape s t.Not h p w = (codes "not", (refl, (refl, (refl, tt)), refl))
written_shape s t.Between h p w = (codes "between", (refl, (refl, (refl, (refl, (refl, (refl, (refl, tt)))))), refl))
written_shape s t.In h p w = (codes "in", (refl, (refl, tt), refl))
written_shape s t.Is h p w = (codes "is", (refl, (refl, tt), refl))
written_shape s t.Like h p w = (codes "like", (refl, (refl, (refl, (refl, tt))), refl))
written_shape s t.Null h p w = (codes "null", (refl, (refl, (refl, (refl, tt))), refl))
written_shape s (t.Truth true) h p w = (codes "true", (refl, (refl, (refl, (refl, tt))), refl))
written_shape s (t.Truth false) h p w = (codes "false", (refl, (refl, (refl, (refl, (refl, tt)))), refl))
written_shape s t.Unknown h p w = (codes "unknown", (refl, (refl, (refl, (refl, (refl, (refl, (refl, tt)))))), refl))
written_shape s (t.Num n) h p w = number_shape n w
written_shape s (t.Text x) h p w = subst IsShape p h
written_shape s (t.Name n) h p w = name_shape s n h p
written_shape s (t.Reserved v) h p w = absurd w

written_shapes : (ss : List Shape) (us : List Terminal) → AreShapes ss → AreTerminals ss us → AreWritable us → AreShapes (shapes_for us)
written_shapes ss [] a h w = tt
written_shapes [] (u ∷ us) a h w = absurd h
written_shapes (s ∷ ss) (u ∷ us) a h w = (written_shape s u a.0 (says s u h.0) w.0, written_shapes ss us a.1 h.1 w.1)

-- ---- the text written

abbrev pub PrintedAgain : Type 0
PrintedAgain = (ss : List Shape) → AreShapes ss → (ts : List Lexeme) × Lexes 0 (printed ss) ts × (map (λ (t : Lexeme). t.shape) ts ≡ ss)

pub printed_has : PrintedAgain → ((text : List ℕ) (ts : List Lexeme) → Lexes 0 text ts → AreShapes (map (λ (t : Lexeme). t.shape) ts)) → (text : List ℕ) (e : ExprTree) → HasExpr text e → in_range e ≡ true → HasExpr (printed_expr e) e
printed_has again can bytes e x r =
    let w : AreWritable (spelling e) = subst AreWritable (append-nil (spelling e)) (writable e [] r tt) in
    let made = again (shapes_for (spelling e)) (written_shapes (shapes x.0) (spelling e) (can bytes x.0 x.1) x.2.1 w) in
    (made.0, made.1, (x.2.0, subst (λ ss. AreTerminals ss (spelling e)) (sym made.2) (written_terminals (spelling e) w)))
