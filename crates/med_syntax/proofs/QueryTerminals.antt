-- The terminals of tokens that are a statement.
use Rattle.std.proofs.Common.{◌≡◌, ℕ, ◌⊎◌, inl, inr, Bool, true, false, cond, List, [], ◌∷◌, ◌++◌, refl, sym, ◌∙◌, ap, subst, append_assoc, codes}
use Rattle.std.specs.Prelude.{Option, Some, None}
use Rattle.std.specs.Str.{bytes_eq}
use Rattle.med_lexer.specs.Lexemes.{Shape}
use Rattle.med_syntax.specs.declared.expr.Joint.{Joint}
use Rattle.med_syntax.specs.declared.expr.Joint.TheVariants.{Or, And}
use Rattle.med_value.specs.declared.operators.Status.TheVariants as statuses
use Rattle.med_syntax.specs.declared.query_symbols.Place.{Place}
use Rattle.med_syntax.specs.declared.query_symbols.Place.TheVariants as p
use Rattle.med_syntax.specs.Tree.{Name}
use Rattle.med_syntax.specs.Words.{is_reserved}
use Rattle.med_syntax.specs.Terminal.{Terminal, word_terminal}
use Rattle.med_syntax.specs.Terminal as t
use Rattle.med_syntax.specs.ExprTerminals.{follows}
use Rattle.med_syntax.specs.ExprTree.{ExprTree, ExprTrees, num, negative, text, truth, null, column, call_all, call, paren, minus, binary, between, among, like, compare, tested, negation, chain, none, more, perhaps_not, column_spelling, spelling, spellings, parts_spelling, IsExpr}
use Rattle.med_syntax.specs.QueryTerminals.{is_free_keyword, behind_reserved, words_at}
use Rattle.med_syntax.specs.QueryTree.{all, all_of, value, EntryTree, JoinTree, inner_join, left_join, cross_join, ChainTree, GroupTree, KeyTree, LimitTree, no_limit, rows, CoreTree, SelectTree, StatementTree, select}
use Rattle.med_syntax.specs.QueryGrammar.{keywords, SpellsOthers, SpellsList, IsLabel, SpellsLabel, SpellsAlias, SpellsItem, SpellsEntry, SpellsOn, SpellsJoin, SpellsJoins, SpellsChain, SpellsGroup, SpellsFlag, SpellsNulls, SpellsKey, SpellsLimit, SpellsOffset, SpellsLimits, SpellsPerhaps, SpellsListed, SpellsExpr, SpellsCore, SpellsUnions, SpellsSelect, Spells, IsEnd, IsLine, IsStatement}
use Rattle.med_syntax.proofs.ExprTerminals.{Allowed, Good, good}
use Rattle.med_syntax.proofs.QueryKeywords.{reserved_free, words_are, Permits, Fine, same_words}

-- ---- expressions

not_fine : (b neg : Bool) (us : List Terminal) → Fine (p.Behind b) us → Fine (p.Before b) us → Fine (p.Behind b) (perhaps_not neg ++ us)
not_fine b true us f g = (tt, g)
not_fine b false us f g = f

mutual
  -- an operand is never a keyword, and nothing behind one is a name
  fine : (b : Bool) (e : ExprTree) (rest : List Terminal) → Fine (p.Behind b) rest → Fine (p.Before b) (spelling e ++ rest)
  fine b (num n) rest g = (tt, g)
  fine b (negative n) rest g = (tt, (tt, g))
  fine b (text x) rest g = (tt, g)
  fine b (truth v) rest g = (tt, g)
  fine b null rest g = (tt, g)
  fine b (column None n) rest g = (refl, g)
  fine b (column (Some q) n) rest g = (refl, (tt, (refl, g)))
  fine b (call_all f) rest g = (refl, (tt, (tt, (tt, g))))
  fine b (call f parts) rest g = (refl, (tt, parts_fine b parts rest g))
  fine b (paren e) rest g = rw (append_assoc (spelling e) (t.RightParen ∷ []) rest) (tt, fine b e (t.RightParen ∷ rest) (tt, g))
  fine b (minus e) rest g = (tt, fine b e rest g)
  fine b (binary op x y) rest g = rw (append_assoc (spelling x) (t.Binary op ∷ spelling y) rest) (fine b x (t.Binary op ∷ (spelling y ++ rest)) (tt, fine b y rest g))
  fine b (between neg e low high) rest g =
      let bounds : List Terminal = spelling low ++ (t.Joined And ∷ (spelling high ++ rest)) in
      let same : spelling (between neg e low high) ++ rest ≡ spelling e ++ (perhaps_not neg ++ t.Between ∷ bounds) = simp append_assoc in
      let f : Fine (p.Before b) bounds = fine b low (t.Joined And ∷ (spelling high ++ rest)) (tt, fine b high rest g) in
      rw same (fine b e (perhaps_not neg ++ t.Between ∷ bounds) (not_fine b neg (t.Between ∷ bounds) (tt, f) (tt, f)))
  fine b (among neg e first others) rest g =
      let items : List Terminal = spelling first ++ (spellings t.Comma others ++ t.RightParen ∷ rest) in
      let same : spelling (among neg e first others) ++ rest ≡ spelling e ++ (perhaps_not neg ++ t.In ∷ t.LeftParen ∷ items) = simp append_assoc in
      let f : Fine (p.Before b) items = fine b first (spellings t.Comma others ++ t.RightParen ∷ rest) (commas_fine b others (t.RightParen ∷ rest) (tt, g)) in
      rw same (fine b e (perhaps_not neg ++ t.In ∷ t.LeftParen ∷ items) (not_fine b neg (t.In ∷ t.LeftParen ∷ items) (tt, (tt, f)) (tt, (tt, f))))
  fine b (like neg e x) rest g =
      let same : spelling (like neg e x) ++ rest ≡ spelling e ++ (perhaps_not neg ++ t.Like ∷ t.Text x ∷ rest) = simp append_assoc in
      rw same (fine b e (perhaps_not neg ++ t.Like ∷ t.Text x ∷ rest) (not_fine b neg (t.Like ∷ t.Text x ∷ rest) (tt, (tt, g)) (tt, (tt, g))))
  fine b (compare op x y) rest g = rw (append_assoc (spelling x) (t.Compare op ∷ spelling y) rest) (fine b x (t.Compare op ∷ (spelling y ++ rest)) (tt, fine b y rest g))
  fine b (tested true e statuses.Null) rest g = rw (append_assoc (spelling e) (t.Is ∷ t.Not ∷ t.Null ∷ []) rest) (fine b e (t.Is ∷ t.Not ∷ t.Null ∷ rest) (tt, (tt, (tt, g))))
  fine b (tested true e statuses.True) rest g = rw (append_assoc (spelling e) (t.Is ∷ t.Not ∷ t.Truth true ∷ []) rest) (fine b e (t.Is ∷ t.Not ∷ t.Truth true ∷ rest) (tt, (tt, (tt, g))))
  fine b (tested true e statuses.False) rest g = rw (append_assoc (spelling e) (t.Is ∷ t.Not ∷ t.Truth false ∷ []) rest) (fine b e (t.Is ∷ t.Not ∷ t.Truth false ∷ rest) (tt, (tt, (tt, g))))
  fine b (tested true e statuses.Unknown) rest g = rw (append_assoc (spelling e) (t.Is ∷ t.Not ∷ t.Unknown ∷ []) rest) (fine b e (t.Is ∷ t.Not ∷ t.Unknown ∷ rest) (tt, (tt, (tt, g))))
  fine b (tested false e statuses.Null) rest g = rw (append_assoc (spelling e) (t.Is ∷ t.Null ∷ []) rest) (fine b e (t.Is ∷ t.Null ∷ rest) (tt, (tt, g)))
  fine b (tested false e statuses.True) rest g = rw (append_assoc (spelling e) (t.Is ∷ t.Truth true ∷ []) rest) (fine b e (t.Is ∷ t.Truth true ∷ rest) (tt, (tt, g)))
  fine b (tested false e statuses.False) rest g = rw (append_assoc (spelling e) (t.Is ∷ t.Truth false ∷ []) rest) (fine b e (t.Is ∷ t.Truth false ∷ rest) (tt, (tt, g)))
  fine b (tested false e statuses.Unknown) rest g = rw (append_assoc (spelling e) (t.Is ∷ t.Unknown ∷ []) rest) (fine b e (t.Is ∷ t.Unknown ∷ rest) (tt, (tt, g)))
  fine b (negation e) rest g = (tt, fine b e rest g)
  fine b (chain j first others) rest g = rw (append_assoc (spelling first) (spellings (t.Joined j) others) rest) (fine b first (spellings (t.Joined j) others ++ rest) (joints_fine b j others rest g))

  parts_fine : (b : Bool) (es : ExprTrees) (rest : List Terminal) → Fine (p.Behind b) rest → Fine (p.Before b) (parts_spelling es ++ rest)
  parts_fine b none rest g = (tt, g)
  parts_fine b (more e es) rest g =
      let same : parts_spelling (more e es) ++ rest ≡ spelling e ++ (spellings t.Comma es ++ t.RightParen ∷ rest) = simp append_assoc in
      rw same (fine b e (spellings t.Comma es ++ t.RightParen ∷ rest) (commas_fine b es (t.RightParen ∷ rest) (tt, g)))

  commas_fine : (b : Bool) (es : ExprTrees) (rest : List Terminal) → Fine (p.Behind b) rest → Fine (p.Behind b) (spellings t.Comma es ++ rest)
  commas_fine b none rest g = g
  commas_fine b (more e es) rest g = rw (append_assoc (spelling e) (spellings t.Comma es) rest) (tt, fine b e (spellings t.Comma es ++ rest) (commas_fine b es rest g))

  joints_fine : (b : Bool) (j : Joint) (es : ExprTrees) (rest : List Terminal) → Fine (p.Behind b) rest → Fine (p.Behind b) (spellings (t.Joined j) es ++ rest)
  joints_fine b j none rest g = g
  joints_fine b j (more e es) rest g = rw (append_assoc (spelling e) (spellings (t.Joined j) es) rest) (tt, fine b e (spellings (t.Joined j) es ++ rest) (joints_fine b j es rest g))

-- ---- parts of a statement

-- what can stand at a place, where no UNKNOWN can
abbrev Placed : Place → List Terminal → Type 0
Placed at ts = Good false ts × Fine at ts

-- what can stand behind an operand and behind an asterisk, and behind any terminal
record Ready (b : Bool) (ts : List Terminal) : Type 0 where
  before : Fine (p.Before b) ts
  behind : Fine (p.Behind b) ts
  free : Good false ts
  bound : Good true ts

word_ready : (b : Bool) (w : List ℕ) (us : List Terminal) → is_free_keyword w ≡ false → Placed (behind_reserved b w) us → Ready b (t.Reserved w ∷ us)
word_ready b w us h f = record { before = (inl h, f.1); behind = (inl h, f.1); free = (tt, f.0); bound = (tt, f.0) }

comma_ready : (b : Bool) (us : List Terminal) → Placed (p.Before b) us → Ready b (t.Comma ∷ us)
comma_ready b us f = record { before = (tt, f.1); behind = (tt, f.1); free = (tt, f.0); bound = (tt, f.0) }

expr_placed : (b : Bool) (e : ExprTree) (ts rest : List Terminal) → IsExpr ts e → Placed (p.Behind b) rest → Placed (p.Before b) (ts ++ rest)
expr_placed b e ts rest x f = subst (λ us. Placed (p.Before b) (us ++ rest)) (sym x.spelled) (good e rest f.0, fine b e rest f.1)

then_placed : (at : Place) (front others rest : List Terminal) → Placed at (front ++ (others ++ rest)) → Placed at ((front ++ others) ++ rest)
then_placed at front others rest f = subst (Placed at) (sym (append_assoc front others rest)) f

-- a part that begins with an operand, before what can stand behind one
abbrev Parts : {X : Type 0} → Bool → (X → List Terminal → Type 0) → Type 0
Parts {X} b Spelling = (x : X) (ts rest : List Terminal) → Spelling x ts → Ready b rest → Placed (p.Before b) (ts ++ rest)

others_ready : {X : Type 0} (b : Bool) (Spelling : X → List Terminal → Type 0) → Parts b Spelling → (xs : List X) (ts rest : List Terminal) → SpellsOthers Spelling xs ts → Ready b rest → Ready b (ts ++ rest)
others_ready b Spelling item [] ts rest s r = subst (λ us. Ready b (us ++ rest)) (sym s) r
others_ready b Spelling item (x ∷ xs) ts rest s r =
    subst (λ us. Ready b (us ++ rest)) (sym s.2) (comma_ready b ((s.0 ++ s.1) ++ rest) (then_placed (p.Before b) s.0 s.1 rest (item x s.0 (s.1 ++ rest) s.3 (others_ready b Spelling item xs s.1 rest s.4 r))))

list_placed : {X : Type 0} (b : Bool) (Spelling : X → List Terminal → Type 0) → Parts b Spelling → (xs : List X) (ts rest : List Terminal) → SpellsList Spelling xs ts → Ready b rest → Placed (p.Before b) (ts ++ rest)
list_placed b Spelling item [] ts rest s r = absurd s
list_placed b Spelling item (x ∷ xs) ts rest s r =
    subst (λ us. Placed (p.Before b) (us ++ rest)) (sym s.2) (then_placed (p.Before b) s.0 s.1 rest (item x s.0 (s.1 ++ rest) s.3 (others_ready b Spelling item xs s.1 rest s.4 r)))

-- ---- labels and aliases

allowed_step : (b : Bool) (u x : Terminal) → Allowed false u → Allowed false x → Allowed false (cond b u x)
allowed_step true u x p q = p
allowed_step false u x p q = q

word_allowed : (w : List ℕ) → Allowed false (word_terminal w)
word_allowed w =
    allowed_step (bytes_eq w (codes "and")) (t.Joined And) _ tt
    (allowed_step (bytes_eq w (codes "or")) (t.Joined Or) _ tt
    (allowed_step (bytes_eq w (codes "not")) t.Not _ tt
    (allowed_step (bytes_eq w (codes "between")) t.Between _ tt
    (allowed_step (bytes_eq w (codes "in")) t.In _ tt
    (allowed_step (bytes_eq w (codes "is")) t.Is _ tt
    (allowed_step (bytes_eq w (codes "like")) t.Like _ tt
    (allowed_step (bytes_eq w (codes "null")) t.Null _ tt
    (allowed_step (bytes_eq w (codes "true")) (t.Truth true) _ tt
    (allowed_step (bytes_eq w (codes "false")) (t.Truth false) _ tt
    (allowed_step (is_reserved w) (t.Reserved w) (t.Name w) tt tt))))))))))

label_allowed : (n : Name) (u : Terminal) → IsLabel n u → Allowed false u
label_allowed n u (inl h) = subst (Allowed false) (sym h) tt
label_allowed n u (inr (inl h)) = subst (Allowed false) (sym h.0) tt
label_allowed n u (inr (inr h)) = subst (Allowed false) (sym h) (word_allowed n)

permits_step : (b : Bool) (u x : Terminal) → Permits p.Label u → Permits p.Label x → Permits p.Label (cond b u x)
permits_step true u x f g = f
permits_step false u x f g = g

plain_permits : (w : List ℕ) (b : Bool) → is_reserved w ≡ b → Permits p.Label (cond b (t.Reserved w) (t.Name w))
plain_permits w true h = inl (reserved_free w h)
plain_permits w false h = refl

word_permits : (w : List ℕ) → Permits p.Label (word_terminal w)
word_permits w =
    permits_step (bytes_eq w (codes "and")) (t.Joined And) _ tt
    (permits_step (bytes_eq w (codes "or")) (t.Joined Or) _ tt
    (permits_step (bytes_eq w (codes "not")) t.Not _ tt
    (permits_step (bytes_eq w (codes "between")) t.Between _ tt
    (permits_step (bytes_eq w (codes "in")) t.In _ tt
    (permits_step (bytes_eq w (codes "is")) t.Is _ tt
    (permits_step (bytes_eq w (codes "like")) t.Like _ tt
    (permits_step (bytes_eq w (codes "null")) t.Null _ tt
    (permits_step (bytes_eq w (codes "true")) (t.Truth true) _ tt
    (permits_step (bytes_eq w (codes "false")) (t.Truth false) _ tt
    (plain_permits w (is_reserved w) refl))))))))))

label_permits : (n : Name) (u : Terminal) → IsLabel n u → Permits p.Label u
label_permits n u (inl h) = subst (Permits p.Label) (sym h) refl
label_permits n u (inr (inl h)) = subst (Permits p.Label) (sym h.0) (inl (reserved_free n h.1))
label_permits n u (inr (inr h)) = subst (Permits p.Label) (sym h) (word_permits n)

good_behind : (b : Bool) (ts : List Terminal) → Ready false ts → Good b ts
good_behind true ts r = r.bound
good_behind false ts r = r.free

label_placed : (label : Option Name) (ts rest : List Terminal) → SpellsLabel label ts → Ready false rest → Placed (p.Behind false) (ts ++ rest)
label_placed None ts rest s r = subst (λ us. Placed (p.Behind false) (us ++ rest)) (sym s) (r.free, r.behind)
label_placed (Some n) ts rest (inl s) r = subst (λ us. Placed (p.Behind false) (us ++ rest)) (sym s) ((tt, r.free), (refl, r.behind))
label_placed (Some n) ts rest (inr s) r =
    subst (λ us. Placed (p.Behind false) (us ++ rest)) (sym s.1) ((tt, (label_allowed n s.0 s.2, good_behind (follows false s.0) rest r)), (inl refl, (label_permits n s.0 s.2, r.behind)))

alias_placed : (alias : Option Name) (ts rest : List Terminal) → SpellsAlias alias ts → Ready false rest → Placed (p.Behind false) (ts ++ rest)
alias_placed None ts rest s r = subst (λ us. Placed (p.Behind false) (us ++ rest)) (sym s) (r.free, r.behind)
alias_placed (Some n) ts rest (inl s) r = subst (λ us. Placed (p.Behind false) (us ++ rest)) (sym s) ((tt, r.free), (refl, r.behind))
alias_placed (Some n) ts rest (inr s) r = subst (λ us. Placed (p.Behind false) (us ++ rest)) (sym s) ((tt, (tt, r.free)), (inl refl, (refl, r.behind)))

-- ---- items, FROM and GROUP BY

item_placed : Parts false SpellsItem
item_placed all ts rest s r = subst (λ us. Placed (p.Before false) (us ++ rest)) (sym s) ((tt, r.free), (tt, r.before))
item_placed (all_of q) ts rest s r = subst (λ us. Placed (p.Before false) (us ++ rest)) (sym s) ((tt, (tt, (tt, r.free))), (refl, (tt, (tt, r.before))))
item_placed (value e label) ts rest s r =
    subst (λ us. Placed (p.Before false) (us ++ rest)) (sym s.2) (then_placed (p.Before false) s.0 s.1 rest (expr_placed false e s.0 (s.1 ++ rest) s.3 (label_placed label s.1 rest s.4 r)))

entry_placed : Parts false SpellsEntry
entry_placed e ts rest s r =
    let f = alias_placed e.alias s.0 rest s.2 r in
    subst (λ us. Placed (p.Before false) (us ++ rest)) (sym s.1) ((tt, f.0), (refl, f.1))

on_placed : (e : EntryTree) (on : ExprTree) (ts rest : List Terminal) → SpellsOn e on ts → Ready false rest → Placed (p.Before false) (ts ++ rest)
on_placed e on ts rest s r =
    let f : Placed (p.Before false) (s.1 ++ rest) = expr_placed false on s.1 rest s.4 (r.free, r.behind) in
    subst (λ us. Placed (p.Before false) (us ++ rest)) (sym s.2)
    (then_placed (p.Before false) s.0 (t.Reserved (codes "on") ∷ s.1) rest (entry_placed e s.0 ((t.Reserved (codes "on") ∷ s.1) ++ rest) s.3 (word_ready false (codes "on") (s.1 ++ rest) refl f)))

-- a keyword behind a keyword
word_placed : (w : List ℕ) (us : List Terminal) → is_free_keyword w ≡ false → Placed (behind_reserved false w) us → Placed (p.Before false) (t.Reserved w ∷ us)
word_placed w us h f = ((tt, f.0), (inl h, f.1))

joined_ready : (words : List Terminal) (behind rest ts : List Terminal) → ts ≡ words ++ behind → Ready false (words ++ (behind ++ rest)) → Ready false (ts ++ rest)
joined_ready words behind rest ts is r = subst (Ready false) (sym (ap (λ us. us ++ rest) is ∙ append_assoc words behind rest)) r

join_ready : (x : JoinTree) (ts rest : List Terminal) → SpellsJoin x ts → Ready false rest → Ready false (ts ++ rest)
join_ready (inner_join e on) ts rest s r =
    let us : List Terminal = s.1 ++ rest in
    let f : Placed (p.Before false) us = on_placed e on s.1 rest s.4 r in
    let words : Ready false (s.0 ++ us) = elim (s.3) [
      | inl h ↦ subst (λ vs. Ready false (vs ++ us)) (sym h) (word_ready false (codes "join") us refl f)
      | inr h ↦ subst (λ vs. Ready false (vs ++ us)) (sym h) (word_ready false (codes "inner") (t.Reserved (codes "join") ∷ us) refl (word_placed (codes "join") us refl f))
    ]
    in joined_ready s.0 s.1 rest ts s.2 words
join_ready (left_join e on) ts rest s r =
    let us : List Terminal = s.1 ++ rest in
    let f : Placed (p.Before false) us = on_placed e on s.1 rest s.4 r in
    let words : Ready false (s.0 ++ us) = elim (s.3) [
      | inl h ↦ subst (λ vs. Ready false (vs ++ us)) (sym h) (word_ready false (codes "left") (t.Reserved (codes "join") ∷ us) refl (word_placed (codes "join") us refl f))
      | inr h ↦ subst (λ vs. Ready false (vs ++ us)) (sym h)
          (word_ready false (codes "left") (t.Reserved (codes "outer") ∷ t.Reserved (codes "join") ∷ us) refl (word_placed (codes "outer") (t.Reserved (codes "join") ∷ us) refl (word_placed (codes "join") us refl f)))
    ]
    in joined_ready s.0 s.1 rest ts s.2 words
join_ready (cross_join e) ts rest s r =
    let us : List Terminal = s.0 ++ rest in
    joined_ready (keywords (codes "cross" ∷ codes "join" ∷ [])) s.0 rest ts s.1
    (word_ready false (codes "cross") (t.Reserved (codes "join") ∷ us) refl (word_placed (codes "join") us refl (entry_placed e s.0 rest s.2 r)))

joins_ready : (xs : List JoinTree) (ts rest : List Terminal) → SpellsJoins xs ts → Ready false rest → Ready false (ts ++ rest)
joins_ready [] ts rest s r = subst (λ us. Ready false (us ++ rest)) (sym s) r
joins_ready (x ∷ xs) ts rest s r = subst (Ready false) (sym (ap (λ us. us ++ rest) s.2 ∙ append_assoc s.0 s.1 rest)) (join_ready x s.0 (s.1 ++ rest) s.3 (joins_ready xs s.1 rest s.4 r))

chain_placed : Parts false SpellsChain
chain_placed c ts rest s r =
    subst (λ us. Placed (p.Before false) (us ++ rest)) (sym s.2) (then_placed (p.Before false) s.0 s.1 rest (entry_placed c.first s.0 (s.1 ++ rest) s.3 (joins_ready c.joins s.1 rest s.4 r)))

column_placed : (q : Option Name) (n : Name) (rest : List Terminal) → Ready false rest → Placed (p.Before false) (column_spelling q n ++ rest)
column_placed None n rest r = ((tt, r.free), (refl, r.behind))
column_placed (Some q) n rest r = ((tt, (tt, (tt, r.free))), (refl, (tt, (refl, r.behind))))

group_placed : Parts false SpellsGroup
group_placed g ts rest s r = subst (λ us. Placed (p.Before false) (us ++ rest)) (sym s) (column_placed g.qualifier g.column rest r)

-- ---- ORDER BY

nulls_placed : (b first : Bool) (ts rest : List Terminal) → SpellsNulls b first ts → Ready true rest → Placed (p.Behind true) (ts ++ rest)
nulls_placed b first ts rest (inl s) r = subst (λ us. Placed (p.Behind true) (us ++ rest)) (sym s.0) (r.free, r.behind)
nulls_placed b first ts rest (inr (inl s)) r = subst (λ us. Placed (p.Behind true) (us ++ rest)) (sym s.0) ((tt, (tt, r.free)), (inr refl, (inr refl, r.before)))
nulls_placed b first ts rest (inr (inr s)) r = subst (λ us. Placed (p.Behind true) (us ++ rest)) (sym s.0) ((tt, (tt, r.free)), (inr refl, (inr refl, r.before)))

direction_placed : (b : Bool) (ts rest : List Terminal) → SpellsFlag (codes "desc") (codes "asc") b ts → Placed (p.Behind true) rest → Placed (p.Behind true) (ts ++ rest)
direction_placed true ts rest s f = subst (λ us. Placed (p.Behind true) (us ++ rest)) (sym s) ((tt, f.0), (inl refl, f.1))
direction_placed false ts rest (inl s) f = subst (λ us. Placed (p.Behind true) (us ++ rest)) (sym s) f
direction_placed false ts rest (inr s) f = subst (λ us. Placed (p.Behind true) (us ++ rest)) (sym s) ((tt, f.0), (inl refl, f.1))

key_placed : Parts true SpellsKey
key_placed k ts rest s r =
    subst (λ us. Placed (p.Before true) (us ++ rest)) (sym s.3)
    (then_placed (p.Before true) s.0 (s.1 ++ s.2) rest (expr_placed true k.key s.0 ((s.1 ++ s.2) ++ rest) s.4
    (then_placed (p.Behind true) s.1 s.2 rest (direction_placed k.descending s.1 (s.2 ++ rest) s.5 (nulls_placed k.descending k.nulls_first s.2 rest s.6 r)))))

-- ---- LIMIT and OFFSET

-- what can stand among keys or not, and behind OFFSET and its number
record Anywhere (ts : List Terminal) : Type 0 where
  ready : (b : Bool) → Ready b ts
  counted : Fine p.Counted ts

limit_anywhere : (limit : Option LimitTree) (ts rest : List Terminal) → SpellsLimit limit ts → Anywhere rest → Anywhere (ts ++ rest)
limit_anywhere None ts rest s a = subst (λ us. Anywhere (us ++ rest)) (sym s) a
limit_anywhere (Some no_limit) ts rest s a =
    subst (λ us. Anywhere (us ++ rest)) (sym s) (record {
      ready = λ b. word_ready b (codes "limit") (t.Reserved (codes "all") ∷ rest) refl ((tt, (a.ready b).free), (inl refl, (a.ready b).before));
      counted = (inl refl, (inl refl, (a.ready false).before));
    })
limit_anywhere (Some (rows n)) ts rest s a =
    subst (λ us. Anywhere (us ++ rest)) (sym s) (record {
      ready = λ b. word_ready b (codes "limit") (t.Num n ∷ rest) refl ((tt, (a.ready b).free), (tt, (a.ready b).behind));
      counted = (inl refl, (tt, (a.ready false).behind));
    })

unit_placed : (unit rest : List Terminal) → (unit ≡ []) ⊎ (unit ≡ keywords (codes "row" ∷ [])) ⊎ (unit ≡ keywords (codes "rows" ∷ [])) → Anywhere rest → Placed p.Counted (unit ++ rest)
unit_placed unit rest (inl h) a = subst (λ us. Placed p.Counted (us ++ rest)) (sym h) ((a.ready false).free, a.counted)
unit_placed unit rest (inr (inl h)) a = subst (λ us. Placed p.Counted (us ++ rest)) (sym h) ((tt, (a.ready false).free), (inr refl, (a.ready false).before))
unit_placed unit rest (inr (inr h)) a = subst (λ us. Placed p.Counted (us ++ rest)) (sym h) ((tt, (a.ready false).free), (inr refl, (a.ready false).before))

offset_anywhere : (offset : Option ℕ) (ts rest : List Terminal) → SpellsOffset offset ts → Anywhere rest → Anywhere (ts ++ rest)
offset_anywhere None ts rest s a = subst (λ us. Anywhere (us ++ rest)) (sym s) a
offset_anywhere (Some n) ts rest s a =
    let f : Placed p.Counted (s.0 ++ rest) = unit_placed s.0 rest s.2 a in
    subst (λ us. Anywhere (us ++ rest)) (sym s.1) (record {
      ready = λ b. word_ready b (codes "offset") (t.Num n ∷ (s.0 ++ rest)) refl ((tt, f.0), (tt, f.1));
      counted = (inl refl, (tt, f.1));
    })

limits_anywhere : (limit : Option LimitTree) (offset : Option ℕ) (ts rest : List Terminal) → SpellsLimits limit offset ts → Anywhere rest → Anywhere (ts ++ rest)
limits_anywhere limit offset ts rest s a =
    elim (s.4) [
      | inl h ↦ subst Anywhere (sym (ap (λ us. us ++ rest) h ∙ append_assoc s.0 s.1 rest)) (limit_anywhere limit s.0 (s.1 ++ rest) s.2 (offset_anywhere offset s.1 rest s.3 a))
      | inr h ↦ subst Anywhere (sym (ap (λ us. us ++ rest) h ∙ append_assoc s.1 s.0 rest)) (offset_anywhere offset s.1 (s.0 ++ rest) s.3 (limit_anywhere limit s.0 rest s.2 a))
    ]

-- ---- clauses

from_ready : (xs : List ChainTree) (ts rest : List Terminal) → SpellsListed (codes "from" ∷ []) SpellsChain xs ts → Ready false rest → Ready false (ts ++ rest)
from_ready [] ts rest s r = subst (λ us. Ready false (us ++ rest)) (sym s) r
from_ready (x ∷ xs) ts rest s r =
    subst (λ us. Ready false (us ++ rest)) (sym s.1) (word_ready false (codes "from") (s.0 ++ rest) refl (list_placed false SpellsChain chain_placed (x ∷ xs) s.0 rest s.2 r))

where_ready : (x : Option ExprTree) (ts rest : List Terminal) → SpellsPerhaps (codes "where" ∷ []) SpellsExpr x ts → Ready false rest → Ready false (ts ++ rest)
where_ready None ts rest s r = subst (λ us. Ready false (us ++ rest)) (sym s) r
where_ready (Some e) ts rest s r = subst (λ us. Ready false (us ++ rest)) (sym s.1) (word_ready false (codes "where") (s.0 ++ rest) refl (expr_placed false e s.0 rest s.2 (r.free, r.behind)))

groups_ready : (xs : List GroupTree) (ts rest : List Terminal) → SpellsListed (codes "group" ∷ codes "by" ∷ []) SpellsGroup xs ts → Ready false rest → Ready false (ts ++ rest)
groups_ready [] ts rest s r = subst (λ us. Ready false (us ++ rest)) (sym s) r
groups_ready (x ∷ xs) ts rest s r =
    subst (λ us. Ready false (us ++ rest)) (sym s.1)
    (word_ready false (codes "group") (t.Reserved (codes "by") ∷ (s.0 ++ rest)) refl (word_placed (codes "by") (s.0 ++ rest) refl (list_placed false SpellsGroup group_placed (x ∷ xs) s.0 rest s.2 r)))

having_ready : (x : Option ExprTree) (ts rest : List Terminal) → SpellsPerhaps (codes "having" ∷ []) SpellsExpr x ts → Ready false rest → Ready false (ts ++ rest)
having_ready None ts rest s r = subst (λ us. Ready false (us ++ rest)) (sym s) r
having_ready (Some e) ts rest s r = subst (λ us. Ready false (us ++ rest)) (sym s.1) (word_ready false (codes "having") (s.0 ++ rest) refl (expr_placed false e s.0 rest s.2 (r.free, r.behind)))

keys_ready : (xs : List KeyTree) (ts rest : List Terminal) → SpellsListed (codes "order" ∷ codes "by" ∷ []) SpellsKey xs ts → Anywhere rest → Ready false (ts ++ rest)
keys_ready [] ts rest s a = subst (λ us. Ready false (us ++ rest)) (sym s) (a.ready false)
keys_ready (x ∷ xs) ts rest s a =
    let f : Placed (p.Before true) (s.0 ++ rest) = list_placed true SpellsKey key_placed (x ∷ xs) s.0 rest s.2 (a.ready true) in
    subst (λ us. Ready false (us ++ rest)) (sym s.1) (word_ready false (codes "order") (t.Reserved (codes "by") ∷ (s.0 ++ rest)) refl ((tt, f.0), (inl refl, f.1)))

quantifier_placed : (b : Bool) (ts rest : List Terminal) → SpellsFlag (codes "distinct") (codes "all") b ts → Placed (p.Before false) rest → Placed (p.Before false) (ts ++ rest)
quantifier_placed true ts rest s f = subst (λ us. Placed (p.Before false) (us ++ rest)) (sym s) (word_placed (codes "distinct") rest refl f)
quantifier_placed false ts rest (inl s) f = subst (λ us. Placed (p.Before false) (us ++ rest)) (sym s) f
quantifier_placed false ts rest (inr s) f = subst (λ us. Placed (p.Before false) (us ++ rest)) (sym s) (word_placed (codes "all") rest refl f)

core_apart : (a b c d e f end : List Terminal) → (a ++ (b ++ (c ++ (d ++ (e ++ f))))) ++ end ≡ a ++ (b ++ (c ++ (d ++ (e ++ (f ++ end)))))
core_apart a b c d e f end = simp append_assoc

core_placed : (c : CoreTree) (ts rest : List Terminal) → SpellsCore c ts → Ready false rest → Placed (p.Before false) (ts ++ rest)
core_placed c ts rest s r =
    let r4 = having_ready c.having s.having rest s.kept r in
    let r3 = groups_ready c.groups s.groups (s.having ++ rest) s.grouped r4 in
    let r2 = where_ready c.condition s.condition (s.groups ++ (s.having ++ rest)) s.filtered r3 in
    let r1 = from_ready c.from s.from (s.condition ++ (s.groups ++ (s.having ++ rest))) s.joined r2 in
    let f = list_placed false SpellsItem item_placed c.items s.items (s.from ++ (s.condition ++ (s.groups ++ (s.having ++ rest)))) s.answered r1 in
    let g = quantifier_placed c.distinct s.quantifier (s.items ++ (s.from ++ (s.condition ++ (s.groups ++ (s.having ++ rest))))) s.quantified f in
    subst (λ us. Placed (p.Before false) (us ++ rest)) (sym s.is)
    (word_placed (codes "select") _ refl (subst (Placed (p.Before false)) (sym (core_apart s.quantifier s.items s.from s.condition s.groups s.having rest)) g))

unions_ready : (cs : List CoreTree) (ts rest : List Terminal) → SpellsUnions cs ts → Ready false rest → Ready false (ts ++ rest)
unions_ready [] ts rest s r = subst (λ us. Ready false (us ++ rest)) (sym s) r
unions_ready (c ∷ cs) ts rest s r =
    let f : Placed (p.Before false) ((s.0 ++ s.1) ++ rest) = then_placed (p.Before false) s.0 s.1 rest (core_placed c s.0 (s.1 ++ rest) s.3 (unions_ready cs s.1 rest s.4 r)) in
    subst (λ us. Ready false (us ++ rest)) (sym s.2)
    (word_ready false (codes "union") (t.Reserved (codes "all") ∷ ((s.0 ++ s.1) ++ rest)) refl (word_placed (codes "all") ((s.0 ++ s.1) ++ rest) refl f))

apart : (a b c d end : List Terminal) → (a ++ (b ++ (c ++ d))) ++ end ≡ a ++ (b ++ (c ++ (d ++ end)))
apart a b c d end = simp append_assoc

select_placed : (q : SelectTree) (ts rest : List Terminal) → SpellsSelect q ts → Anywhere rest → Placed (p.Before false) (ts ++ rest)
select_placed q ts rest s a =
    let r3 = limits_anywhere q.limit q.offset s.limits rest s.cut a in
    let r2 = keys_ready q.keys s.keys (s.limits ++ rest) s.ordered r3 in
    let r1 = unions_ready q.others s.others (s.keys ++ (s.limits ++ rest)) s.united r2 in
    let f = core_placed q.core s.core (s.others ++ (s.keys ++ (s.limits ++ rest))) s.first r1 in
    subst (λ us. Placed (p.Before false) (us ++ rest)) (sym s.is) (subst (Placed (p.Before false)) (sym (apart s.core s.others s.keys s.limits rest)) f)

statement_placed : (s : StatementTree) (ts rest : List Terminal) → Spells s ts → Anywhere rest → Placed (p.Before false) (ts ++ rest)
statement_placed (select q) ts rest s a = select_placed q ts rest s a

end_anywhere : (ts : List Terminal) → IsEnd ts → Anywhere ts
end_anywhere ts (inl h) = subst Anywhere (sym h) (record { ready = λ b. record { before = tt; behind = tt; free = tt; bound = tt }; counted = tt })
end_anywhere ts (inr h) = subst Anywhere (sym h) (record { ready = λ b. record { before = (tt, tt); behind = (tt, tt); free = (tt, tt); bound = (tt, tt) }; counted = (tt, tt) })

line_placed : (ts : List Terminal) (s : StatementTree) → IsLine ts s → Placed (p.Before false) ts
line_placed ts s x = subst (Placed (p.Before false)) (sym x.2) (statement_placed s x.0 x.1 x.3 (end_anywhere x.1 x.4))

-- tokens are a statement where their terminals are
pub to_terminals : (ss : List Shape) (s : StatementTree) → IsStatement ss s → IsLine (words_at (p.Before false) false ss) s
to_terminals ss s x = let f = line_placed x.0 s x.2 in subst (λ ts. IsLine ts s) (same_words (p.Before false) false ss x.0 x.1 f.0 f.1) x.2

pub of_terminals : (ss : List Shape) (s : StatementTree) → IsLine (words_at (p.Before false) false ss) s → IsStatement ss s
of_terminals ss s x = (words_at (p.Before false) false ss, words_are (p.Before false) false ss, x)
