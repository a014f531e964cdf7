-- The height of an expression is bounded by its heavy terminals.
use Rattle.std.proofs.Common.{◌≡◌, ℕ, suc, ◌+◌, ◌-◌, ◌*◌, ◌≤◌, ◌<◌, ◌⊎◌, Bool, true, false, cond, List, [], ◌∷◌, ◌++◌, refl, sym, ◌∙◌, ap, arith, codes}
use Rattle.std.specs.Prelude.{Ok, Err, count_by}
use Rattle.std.specs.Str.{bytes_eq}
use Rattle.std.proofs.lemmas.List.Recursion.{is_count_by}
use Rattle.std.proofs.lemmas.Slice.Eq.{bytes_eq-Decides}
use Rattle.med_lexer.specs.declared.Mark.{Mark}
use Rattle.med_lexer.specs.declared.Mark.TheVariants as marks
use Rattle.med_lexer.specs.Lexemes.{Shape, word, quoted, literal, number, mark}
use Rattle.med_syntax.specs.declared.expr.Joint.TheVariants.{Or, And}
use Rattle.med_syntax.specs.declared.refusal.Refusal.TheVariants.{Syntax, TooHigh}
use Rattle.med_syntax.specs.Shapes.{deepens}
use Rattle.med_syntax.specs.Words.{is_reserved}
use Rattle.med_syntax.specs.Terminal.{Terminal, mark_terminal, word_terminal}
use Rattle.med_syntax.specs.Terminal as t
use Rattle.med_syntax.specs.ExprTerminals.{follows, terminal_at, terminals_at}
use Rattle.med_syntax.specs.ExprTree.{ExprTree, ExprTrees, call, paren, minus, binary, between, among, like, compare, tested, negation, chain, none, more, perhaps_not, status_terminal, joint_level, height, highest, level, Fits, AllFit, spelling, parts_spelling, spellings, IsExpr}
use Rattle.med_syntax.specs.ExprReading.{all_of}
use Rattle.med_syntax.specs.ExprWeight.{is_heavy, weight, bounded_of}
use Rattle.med_syntax.proofs.ExprChains.{binary_high, joint_low}
use Rattle.med_syntax.proofs.ExprComplete.{reads_all, refuses_high}
use Rattle.med_syntax.proofs.BoundedReading.{ReadsInRoom, tried_sound, tried_out, tried_told}
use Rattle.med_syntax.proofs.ExprSound.{all_sound}

weight_cons : (u : Terminal) (us vs : List Terminal) → weight (us ++ vs) ≡ weight us + weight vs → weight (u ∷ (us ++ vs)) ≡ weight (u ∷ us) + weight vs
weight_cons u us vs h =
    let go : (b : Bool) → cond b (suc (weight (us ++ vs))) (weight (us ++ vs)) ≡ cond b (suc (weight us)) (weight us) + weight vs = elim [ true ↦ omega arith | false ↦ omega arith ] in go (is_heavy u)

pub weight_append : (us vs : List Terminal) → weight (us ++ vs) ≡ weight us + weight vs
weight_append [] vs = omega arith
weight_append (u ∷ us) vs = weight_cons u us vs (weight_append us vs)

pub weight_more : (u : Terminal) (us : List Terminal) → weight us ≤ weight (u ∷ us)
weight_more u us =
    let go : (b : Bool) → weight us ≤ cond b (suc (weight us)) (weight us) = elim [ true ↦ omega arith | false ↦ omega arith ] in go (is_heavy u)

weight_perhaps : (neg : Bool) (us : List Terminal) → weight us ≤ weight (perhaps_not neg ++ us)
weight_perhaps true us = omega arith
weight_perhaps false us = omega arith

-- Between two heavy terminals a tree gets higher by OR, AND, IS, a comparison, and BETWEEN or LIKE.
raise : (h w m n : ℕ) → h ≤ 7 * w + suc (6 - n) → m ≤ n → h ≤ 7 * w + suc (6 - m)
raise h w m n b l = omega arith

mutual
  pub bound : (e : ExprTree) → Fits e → height e ≤ 7 * weight (spelling e) + suc (6 - level e)
  bound (call n parts) f =
      let b = parts_bound parts f in
      omega arith
  bound (paren e) f =
      let b = raise (height e) (weight (spelling e)) 0 (level e) (bound e f) (omega arith) in
      omega (arith, weight_append (spelling e) (t.RightParen ∷ []))
  bound (minus e) f =
      let b = raise (height e) (weight (spelling e)) 8 (level e) (bound e f.0) f.1 in
      omega arith
  bound (binary op x y) f =
      let a = raise (height x) (weight (spelling x)) 6 (level x) (bound x f.0) (omega (arith, f.2, binary_high op)) in
      let b = raise (height y) (weight (spelling y)) 6 (level y) (bound y f.1) (omega (arith, f.3, binary_high op)) in
      omega (arith, weight_append (spelling x) (t.Binary op ∷ spelling y), binary_high op)
  bound (between neg e low high) f =
      let a = raise (height e) (weight (spelling e)) 6 (level e) (bound e f.0) f.1 in
      let b = raise (height low) (weight (spelling low)) 6 (level low) (bound low f.2) f.3 in
      let c = raise (height high) (weight (spelling high)) 6 (level high) (bound high f.4) f.5 in
      let bounds : List Terminal = spelling low ++ t.Joined And ∷ spelling high in
      omega (arith, weight_append (spelling e) (perhaps_not neg ++ t.Between ∷ bounds), weight_perhaps neg (t.Between ∷ bounds), weight_append (spelling low) (t.Joined And ∷ spelling high))
  bound (among neg e first others) f =
      let a = raise (height e) (weight (spelling e)) 6 (level e) (bound e f.0) f.1 in
      let b = raise (height first) (weight (spelling first)) 0 (level first) (bound first f.2) (omega arith) in
      let c = all_bound t.Comma 0 others f.3 in
      let behind : List Terminal = spellings t.Comma others ++ t.RightParen ∷ [] in
      let items : List Terminal = spelling first ++ behind in
      omega (arith, weight_append (spelling e) (perhaps_not neg ++ t.In ∷ t.LeftParen ∷ items), weight_perhaps neg (t.In ∷ t.LeftParen ∷ items), weight_append (spelling first) behind, weight_append (spellings t.Comma others) (t.RightParen ∷ []))
  bound (like neg e x) f =
      let a = raise (height e) (weight (spelling e)) 6 (level e) (bound e f.0) f.1 in
      omega (arith, weight_append (spelling e) (perhaps_not neg ++ t.Like ∷ t.Text x ∷ []))
  bound (compare op x y) f =
      let a = raise (height x) (weight (spelling x)) 5 (level x) (bound x f.0) f.2 in
      let b = raise (height y) (weight (spelling y)) 5 (level y) (bound y f.1) f.3 in
      omega (arith, weight_append (spelling x) (t.Compare op ∷ spelling y))
  bound (tested neg e s) f =
      let a = raise (height e) (weight (spelling e)) 4 (level e) (bound e f.0) f.1 in
      omega (arith, weight_append (spelling e) (t.Is ∷ (perhaps_not neg ++ status_terminal s ∷ [])))
  bound (negation e) f =
      let b = raise (height e) (weight (spelling e)) 2 (level e) (bound e f.0) f.1 in
      omega arith
  bound (chain j first others) f =
      let a = raise (height first) (weight (spelling first)) (suc (joint_level j)) (level first) (bound first f.0) f.1 in
      let b = all_bound (t.Joined j) (suc (joint_level j)) others f.2 in
      omega (arith, weight_append (spelling first) (spellings (t.Joined j) others), joint_low j)
  bound e f = omega arith

  parts_bound : (es : ExprTrees) → AllFit 0 es → highest es ≤ 7 * weight (parts_spelling es) + 7
  parts_bound none f = omega arith
  parts_bound (more e es) f =
      let a = raise (height e) (weight (spelling e)) 0 (level e) (bound e f.0) (omega arith) in
      let b = all_bound t.Comma 0 es f.2 in
      omega (arith, weight_append (spelling e) (spellings t.Comma es ++ t.RightParen ∷ []), weight_append (spellings t.Comma es) (t.RightParen ∷ []))

  all_bound : (sep : Terminal) (n : ℕ) (es : ExprTrees) → AllFit n es → highest es ≤ 7 * weight (spellings sep es) + suc (6 - n)
  all_bound sep n none f = omega arith
  all_bound sep n (more e es) f =
      let a = raise (height e) (weight (spelling e)) n (level e) (bound e f.0) f.1 in
      let b = all_bound sep n es f.2 in
      omega (arith, weight_append (spelling e) (spellings sep es), weight_more sep (spelling e ++ spellings sep es))

-- ---- what the bounded reader gives

in_room : ReadsInRoom IsExpr height all_of
in_room = record { reads = reads_all; refuses = refuses_high; sound = all_sound; low = λ ts e x. omega (arith, bound e x.fits, ap weight x.spelled) }

pub bounded_sound : (ts : List Terminal) (e : ExprTree) → bounded_of ts ≡ Ok e → IsExpr ts e × (height e ≤ 64)
unfolding bounded_of
bounded_sound ts e g = tried_sound IsExpr height all_of in_room ts e g

-- what is refused as no expression is none
pub bounded_out : (ts : List Terminal) → bounded_of ts ≡ Err Syntax → (e : ExprTree) → IsExpr ts e → ⊥
unfolding bounded_of
bounded_out ts g e x = tried_out IsExpr height all_of in_room ts g e x

-- what is refused as too high is so, or is no expression and has many heavy terminals
pub bounded_told : (ts : List Terminal) → bounded_of ts ≡ Err TooHigh → ((e : ExprTree) × IsExpr ts e × (64 < height e)) ⊎ (((e : ExprTree) → IsExpr ts e → ⊥) × (64 < weight ts))
unfolding bounded_of
bounded_told ts g = tried_told IsExpr height all_of in_room ts g

-- ---- heavy terminals are the tokens that deepen

heavy_mark : (m : Mark) → is_heavy (mark_terminal m) ≡ deepens (mark m)
heavy_mark marks.LeftParen = refl
heavy_mark m = refl

light_cond : (b : Bool) (u v : Terminal) → is_heavy u ≡ false → is_heavy v ≡ false → is_heavy (cond b u v) ≡ false
light_cond true u v p q = p
light_cond false u v p q = q

light_plain : (b : Bool) (w : List ℕ) → is_heavy (cond b (t.Reserved w) (t.Name w)) ≡ false
light_plain true w = refl
light_plain false w = refl

heavy_not : (b : Bool) (u : Terminal) → is_heavy u ≡ false → is_heavy (cond b t.Not u) ≡ b
heavy_not true u p = refl
heavy_not false u p = p

-- a word that is AND or OR is not NOT
heavy_or_not : (a b : Bool) (x u : Terminal) → (a ≡ true → b ≡ false) → is_heavy x ≡ false → is_heavy u ≡ b → is_heavy (cond a x u) ≡ b
heavy_or_not true b x u h p q = p ∙ sym (h refl)
heavy_or_not false b x u h p q = q

is_not_not : (w v : List ℕ) → bytes_eq v (codes "not") ≡ false → bytes_eq w v ≡ true → bytes_eq w (codes "not") ≡ false
is_not_not w v n h = ap (λ x. bytes_eq x (codes "not")) ((bytes_eq-Decides w v).0 h) ∙ n

heavy_word : (w : List ℕ) → is_heavy (word_terminal w) ≡ bytes_eq w (codes "not")
heavy_word w =
    heavy_or_not (bytes_eq w (codes "and")) (bytes_eq w (codes "not")) (t.Joined And) _ (is_not_not w (codes "and") refl) refl
    (heavy_or_not (bytes_eq w (codes "or")) (bytes_eq w (codes "not")) (t.Joined Or) _ (is_not_not w (codes "or") refl) refl
    (heavy_not (bytes_eq w (codes "not")) _
    (light_cond (bytes_eq w (codes "between")) t.Between _ refl (light_cond (bytes_eq w (codes "in")) t.In _ refl (light_cond (bytes_eq w (codes "is")) t.Is _ refl
    (light_cond (bytes_eq w (codes "like")) t.Like _ refl (light_cond (bytes_eq w (codes "null")) t.Null _ refl (light_cond (bytes_eq w (codes "true")) (t.Truth true) _ refl
    (light_cond (bytes_eq w (codes "false")) (t.Truth false) _ refl (light_plain (is_reserved w) w))))))))))

pub heavy_at : (b : Bool) (s : Shape) → is_heavy (terminal_at b s) ≡ deepens s
heavy_at true (word w) = heavy_or_not (bytes_eq w (codes "unknown")) (bytes_eq w (codes "not")) t.Unknown (word_terminal w) (is_not_not w (codes "unknown") refl) refl (heavy_word w)
heavy_at false (word w) = heavy_word w
heavy_at b (quoted q) = refl
heavy_at b (literal x) = refl
heavy_at b (number d) = refl
heavy_at b (mark m) = heavy_mark m

abbrev pub deep : List Shape → ℕ
deep [] = 0
deep (s ∷ ss) = cond (deepens s) (1 + deep ss) (deep ss)

pub weight_step : (u v : Bool) (m n : ℕ) → u ≡ v → m ≡ n → cond u (suc m) m ≡ cond v (1 + n) n
weight_step true true m n p q = omega arith
weight_step false false m n p q = q
weight_step true false m n p q = absurd (cc)
weight_step false true m n p q = absurd (cc)

weight_deep : (b : Bool) (ss : List Shape) → weight (terminals_at b ss) ≡ deep ss
weight_deep b [] = refl
weight_deep b (s ∷ ss) = weight_step (is_heavy (terminal_at b s)) (deepens s) (weight (terminals_at (follows b (terminal_at b s)) ss)) (deep ss) (heavy_at b s) (weight_deep (follows b (terminal_at b s)) ss)

pub weight_is : (b : Bool) (ss : List Shape) → weight (terminals_at b ss) ≡ count_by deepens ss
weight_is b ss = weight_deep b ss ∙ is_count_by deep deepens refl (λ s ss. refl) ss
