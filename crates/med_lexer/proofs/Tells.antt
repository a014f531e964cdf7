-- What the list lexer finds at the front of a text, and that what it cuts are the tokens.
use Rattle.std.proofs.Common.{◌≡◌, ℕ, zero, suc, ◌+◌, ◌-◌, ◌<◌, ◌⊎◌, inl, inr, List, [], ◌∷◌, ◌++◌, length, sym, refl, ap, ◌∙◌, subst, arith, append_assoc, append-nil, length-append}
use Rattle.std.specs.Prelude.{Bool, true, false, cond, ◌==◌, ◌&&◌, Option, Some, None, option_map}
use Rattle.std.specs.Char.{is_ascii_digit}
use Rattle.std.proofs.lemmas.Bool.Decides.{nat_tests}
use Rattle.med_lexer.specs.declared.Mark.{Mark}
use Rattle.med_lexer.specs.declared.Mark.TheVariants as marks
use Rattle.med_lexer.specs.Lexemes.{is_blank, is_start, is_part, is_text, Every, Without, doubled, Shape, word, quoted, literal, number, mark, mark_bytes, Spells, IsEnd, Lexeme}
use Rattle.med_lexer.specs.Faults.{IsFault, bad_character, open_quote, empty_name, number_before_letter, zero_in_comment}
use Rattle.med_lexer.specs.Cutting.{Next, done, blank, token, bad, run, ahead, quote, word_next, number_next, name_next, literal_next, ended, comment_next, first, behind, single, double, single_next, mark_next, next, continued, lex}
use Rattle.med_lexer.proofs.Cuts.{joins, is_number_joint, Ends, Cuts}
use Rattle.med_lexer.proofs.Runs.{Part, part}
use Rattle.med_lexer.proofs.Exact.{is_same, same_is, some_same, start_part, some_bytes, quote_again}

pub record Quote (q : ℕ) (ts w rest : List ℕ) : Type 0 where
  pub all : Every is_text w
  pub ends : Without (λ b. b == q) rest
  pub whole : ts ≡ doubled q w ++ q ∷ rest

-- what quote gives, if anything
abbrev pub Quoted : ℕ → List ℕ → Option (List ℕ × List ℕ) → Type 0
Quoted q ts None = Unit {0}
Quoted q ts (Some x) = Quote q ts x.0 x.1

quoted_ahead : (q b : ℕ) (ts : List ℕ) (o : Option (List ℕ × List ℕ)) → (b == q) ≡ false → is_text b ≡ true → Quoted q ts o → Quoted q (b ∷ ts) (ahead (b ∷ []) o)
quoted_ahead q b ts None n t x = tt
quoted_ahead q b ts (Some y) n t x = record { all = (t, x.all); ends = x.ends; whole = rw n (ap (λ z. b ∷ z) x.whole) }

quoted_twice : (q : ℕ) (ts : List ℕ) (o : Option (List ℕ × List ℕ)) → is_text q ≡ true → Quoted q ts o → Quoted q (q ∷ q ∷ ts) (ahead (q ∷ []) o)
quoted_twice q ts None t x = tt
quoted_twice q ts (Some y) t x = record { all = (t, x.all); ends = x.ends; whole = rw (same_is q) (ap (λ z. q ∷ q ∷ z) x.whole) }

test_quoted : (q : ℕ) (ts : List ℕ) (v : Bool) (x y : Option (List ℕ × List ℕ)) → (v ≡ true → Quoted q ts x) → (v ≡ false → Quoted q ts y) → Quoted q ts (cond v x y)
test_quoted q ts true x y f g = f refl
test_quoted q ts false x y f g = g refl

quote_tells : (q : ℕ) (ts : List ℕ) → is_text q ≡ true → Quoted q ts (quote q ts)
quote_tells q [] t = tt
quote_tells q (b ∷ []) t =
    test_quoted q (b ∷ []) (b == q) (Some ([], [])) None (λ is. record { all = tt; ends = tt; whole = ap (λ y. y ∷ []) (is_same b q is) }) (λ _. tt)
quote_tells q (b ∷ c ∷ cs) t =
    test_quoted q (b ∷ c ∷ cs) (b == q) _ _
    (λ is. test_quoted q (b ∷ c ∷ cs) (c == q) (ahead (q ∷ []) (quote q cs)) (Some ([], c ∷ cs))
    (λ is2. subst (λ x. Quoted q x (ahead (q ∷ []) (quote q cs))) ((λ i. sym (is_same b q is) i ∷ sym (is_same c q is2) i ∷ cs)) (quoted_twice q cs (quote q cs) t (quote_tells q cs t)))
    (λ n. record { all = tt; ends = n; whole = ap (λ y. y ∷ c ∷ cs) (is_same b q is) }))
    (λ n. test_quoted q (b ∷ c ∷ cs) (is_text b) (ahead (b ∷ []) (quote q (c ∷ cs))) None (λ is. quoted_ahead q b (c ∷ cs) (quote q (c ∷ cs)) n is (quote_tells q (c ∷ cs) t)) (λ _. tt))

pub record Front (text : List ℕ) (s : Shape) (rest : List ℕ) : Type 0 where
  pub raw : List ℕ
  pub whole : text ≡ raw ++ rest
  pub spells : Spells s raw
  pub ends : Ends s rest

-- what stands at the front, by what `next` answers
abbrev pub TellsNext : List ℕ → Next → Type 0
TellsNext text done = IsEnd text
TellsNext text (blank rest) = (b : ℕ) × (text ≡ b ∷ rest) × (is_blank b ≡ true)
TellsNext text (token s rest) = Front text s rest
TellsNext text bad = IsFault text

tells_word : (b : ℕ) (bs w rest : List ℕ) → is_start b ≡ true → Part is_part (b ∷ bs) w rest → TellsNext (b ∷ bs) (word_next (w, rest))
tells_word b bs [] [] h p = absurd (omega (arith, ap length p.whole))
tells_word b bs [] (c ∷ cs) h p = absurd (let e : b ≡ c = cc (p.whole) in let n : is_part c ≡ false = p.ends in let y : is_part c ≡ true = ap is_part (sym e) ∙ start_part b h in let bad : true ≡ false = sym y ∙ n in cc)
tells_word b bs (x ∷ xs) rest h p =
    let e : b ≡ x = cc (p.whole) in
    record { raw = x ∷ xs; whole = p.whole; spells = (ap is_start (sym e) ∙ h, (p.all).1, refl); ends = p.ends }

not_joint : (rest : List ℕ) → Without is_ascii_digit rest → Without is_start rest → Without is_number_joint rest
not_joint [] n s = tt
not_joint (c ∷ cs) n s = rw n s

tells_number_at : (b : ℕ) (bs d rest : List ℕ) → 0 < length d → Part is_ascii_digit (b ∷ bs) d rest → Without is_start rest → Front (b ∷ bs) (number d) rest
tells_number_at b bs d rest h p n = record { raw = d; whole = p.whole; spells = (refl, (p.all, h)); ends = not_joint rest p.ends n }

either : (text : List ℕ) (v : Bool) (x y : Next) → (v ≡ true → TellsNext text x) → (v ≡ false → TellsNext text y) → TellsNext text (cond v x y)
either text true x y f g = f refl
either text false x y f g = g refl

tells_number : (b : ℕ) (bs d rest : List ℕ) → is_ascii_digit b ≡ true → Part is_ascii_digit (b ∷ bs) d rest → TellsNext (b ∷ bs) (number_next (d, rest))
tells_number b bs [] [] h p = absurd (omega (arith, ap length p.whole))
tells_number b bs [] (c ∷ cs) h p = absurd (let e : b ≡ c = cc (p.whole) in let n : is_ascii_digit c ≡ false = p.ends in let y : is_ascii_digit c ≡ true = ap is_ascii_digit (sym e) ∙ h in let bad : true ≡ false = sym y ∙ n in cc)
tells_number b bs (x ∷ xs) [] h p = tells_number_at b bs (x ∷ xs) [] (omega arith) p tt
tells_number b bs (x ∷ xs) (c ∷ cs) h p = either (b ∷ bs) (is_start c) bad (token (number (x ∷ xs)) (c ∷ cs)) (λ is. subst IsFault (sym p.whole) (number_before_letter (x ∷ xs) c cs (p.all, omega arith) is)) (λ n. tells_number_at b bs (x ∷ xs) (c ∷ cs) (omega arith) p n)

not_closed : (q : ℕ) (bs : List ℕ) → quote q bs ≡ None → (w after : List ℕ) → bs ≡ doubled q w ++ q ∷ after → Every is_text w → Without (λ b. b == q) after → ⊥
not_closed q bs n w after is t e =
    let found : quote q bs ≡ Some (w, after) = ap (quote q) is ∙ quote_again q w after t e in
    let bad : ◌≡◌ {A = Option (List ℕ × List ℕ)} None (Some (w, after)) = sym n ∙ found in cc

tells_name : (b : ℕ) (bs : List ℕ) (o : Option (List ℕ × List ℕ)) → b ≡ 34 → quote 34 bs ≡ o → Quoted 34 bs o → TellsNext (b ∷ bs) (name_next o)
tells_name b bs None is e x = subst (λ q. IsFault (q ∷ bs)) (sym is) (open_quote 34 bs (inl refl) (not_closed 34 bs e))
tells_name b bs (Some ([], rest)) is e x = subst IsFault (λ i. sym is i ∷ sym x.whole i) (empty_name rest x.ends)
tells_name b bs (Some (c ∷ cs, rest)) is e x =
    record {
      raw = 34 ∷ (doubled 34 (c ∷ cs) ++ 34 ∷ []);
      whole = (λ i. is i ∷ (x.whole ∙ sym (append_assoc (doubled 34 (c ∷ cs)) (34 ∷ []) rest)) i);
      spells = (refl, x.all, omega arith);
      ends = x.ends;
    }

tells_literal : (b : ℕ) (bs : List ℕ) (o : Option (List ℕ × List ℕ)) → b ≡ 39 → quote 39 bs ≡ o → Quoted 39 bs o → TellsNext (b ∷ bs) (literal_next o)
tells_literal b bs None is e x = subst (λ q. IsFault (q ∷ bs)) (sym is) (open_quote 39 bs (inr refl) (not_closed 39 bs e))
tells_literal b bs (Some y) is e x =
    record {
      raw = 39 ∷ (doubled 39 y.0 ++ 39 ∷ []);
      whole = (λ i. is i ∷ (x.whole ∙ sym (append_assoc (doubled 39 y.0) (39 ∷ []) y.1)) i);
      spells = (refl, x.all);
      ends = x.ends;
    }

zero_byte : (d : ℕ) → is_text d ≡ false → d ≡ 0
zero_byte d h = grind (arith, nat_tests)

tells_comment : (b : ℕ) (bs w rest : List ℕ) → b ≡ 45 → first bs ≡ 45 → Part is_text (b ∷ bs) w rest → TellsNext (b ∷ bs) (ended rest)
tells_comment b [] w rest is two p = absurd (omega (arith, two))
tells_comment b (c ∷ cs) w [] is two p =
    let all : Every is_text (b ∷ c ∷ cs) = subst (Every is_text) (sym (p.whole ∙ append-nil w)) p.all in (is, two, (all.1).1)
tells_comment b (c ∷ cs) [] (d ∷ ds) is two p = absurd (omega (arith, zero_byte d p.ends, is, ap first p.whole))
tells_comment b (c ∷ cs) (x ∷ []) (d ∷ ds) is two p = absurd (omega (arith, zero_byte d p.ends, two, ap (λ l. first (behind l)) p.whole))
tells_comment b (c ∷ cs) (x ∷ y ∷ front) (d ∷ ds) is two p =
    let zero_there : b ∷ c ∷ cs ≡ x ∷ y ∷ (front ++ 0 ∷ ds) = p.whole ∙ ap (λ z. x ∷ y ∷ (front ++ z ∷ ds)) (zero_byte d p.ends) in
    let one : b ≡ x = ap first zero_there in
    let other : c ≡ y = ap (λ l. first (behind l)) zero_there in
    let rest : cs ≡ front ++ 0 ∷ ds = ap (λ l. behind (behind l)) zero_there in
    subst IsFault (λ i. sym is i ∷ sym two i ∷ sym rest i) (zero_in_comment front ds)

-- ---- marks

abbrev pub IsDouble : ℕ → ℕ → Option Mark → Type 0
IsDouble b c None = Unit {0}
IsDouble b c (Some m) = ((mark_bytes m ≡ b ∷ c ∷ []) ⊎ ((m ≡ marks.Apart) × (b ≡ 33) × (c ≡ 61))) × ((rest : List ℕ) → Without (joins m) rest)

test_double : (b c : ℕ) (v : Bool) (x y : Option Mark) → (v ≡ true → IsDouble b c x) → IsDouble b c y → IsDouble b c (cond v x y)
test_double b c true x y f g = f refl
test_double b c false x y f g = g

both_left : (b c p q : ℕ) → (b == p && c == q) ≡ true → b ≡ p
both_left b c p q h = grind (arith, nat_tests)

both_right : (b c p q : ℕ) → (b == p && c == q) ≡ true → c ≡ q
both_right b c p q h = grind (arith, nat_tests)

no_joins_differ : (rest : List ℕ) → Without (joins marks.Apart) rest
no_joins_differ [] = tt
no_joins_differ (c ∷ cs) = refl

no_joins_at_most : (rest : List ℕ) → Without (joins marks.AtMost) rest
no_joins_at_most [] = tt
no_joins_at_most (c ∷ cs) = refl

no_joins_at_least : (rest : List ℕ) → Without (joins marks.AtLeast) rest
no_joins_at_least [] = tt
no_joins_at_least (c ∷ cs) = refl

two : (b c p q : ℕ) → (b == p && c == q) ≡ true → p ∷ q ∷ [] ≡ b ∷ c ∷ []
two b c p q h = (λ i. sym (both_left b c p q h) i ∷ sym (both_right b c p q h) i ∷ [])

double_is : (b c : ℕ) → IsDouble b c (double b c)
double_is b c =
    test_double b c (b == 60 && c == 62) (Some marks.Apart) _ (λ h. (inl (two b c 60 62 h), no_joins_differ))
    (test_double b c (b == 60 && c == 61) (Some marks.AtMost) _ (λ h. (inl (two b c 60 61 h), no_joins_at_most))
    (test_double b c (b == 62 && c == 61) (Some marks.AtLeast) _ (λ h. (inl (two b c 62 61 h), no_joins_at_least))
    (test_double b c (b == 33 && c == 61) (Some marks.Apart) None (λ h. (inr (refl, both_left b c 33 61 h, both_right b c 33 61 h), no_joins_differ)) tt)))

abbrev pub IsSingle : ℕ → List ℕ → Option Mark → Type 0
IsSingle b bs None = Unit {0}
IsSingle b bs (Some m) = (mark_bytes m ≡ b ∷ []) × Without (joins m) bs

test_single : (b : ℕ) (bs : List ℕ) (p : ℕ) (m : Mark) (y : Option Mark) → mark_bytes m ≡ p ∷ [] → (b ≡ p → Without (joins m) bs) → IsSingle b bs y → IsSingle b bs (cond (b == p) (Some m) y)
test_single b bs p m y is f g =
    let go : (v : Bool) → (b == p) ≡ v → IsSingle b bs (cond v (Some m) y) = elim [
      | true ↦ (λ h. (is ∙ ap (λ z. z ∷ []) (sym (is_same b p h)), f (is_same b p h)))
      | false ↦ (λ h. g)
    ]
    in go (b == p) refl

some_none : {A : Type 0} {P : Type 0} (x : A) → ◌≡◌ {A = Option A} (Some x) None → P
some_none x h = absurd (cc)

less_alone : (c : ℕ) → double 60 c ≡ None → joins marks.Below c ≡ false
less_alone c h =
    let go : (v w : Bool) → (c == 62) ≡ v → (c == 61) ≡ w → cond v (Some marks.Apart) (cond w (Some marks.AtMost) None) ≡ None → joins marks.Below c ≡ false = elim [
      | true ↦ (λ w p q f. some_none marks.Apart f)
      | false ↦ elim [ true ↦ (λ p q f. some_none marks.AtMost f) | false ↦ (λ p q f. rw (p, q) refl) ]
    ]
    in go (c == 62) (c == 61) refl refl h

greater_alone : (c : ℕ) → double 62 c ≡ None → joins marks.Above c ≡ false
greater_alone c h =
    let go : (v : Bool) → (c == 61) ≡ v → cond v (Some marks.AtLeast) None ≡ None → joins marks.Above c ≡ false = elim [
      | true ↦ (λ p f. some_none marks.AtLeast f)
      | false ↦ (λ p f. p)
    ]
    in go (c == 61) refl h

minus_alone : (b c : ℕ) → b ≡ 45 → (b == 45 && c == 45) ≡ false → joins marks.Minus c ≡ false
minus_alone b c is h = grind (arith, nat_tests)

less_ends : (b : ℕ) (bs : List ℕ) → b ≡ 60 → double b (first bs) ≡ None → Without (joins marks.Below) bs
less_ends b [] is h = tt
less_ends b (c ∷ cs) is h = less_alone c (ap (λ y. double y c) (sym is) ∙ h)

greater_ends : (b : ℕ) (bs : List ℕ) → b ≡ 62 → double b (first bs) ≡ None → Without (joins marks.Above) bs
greater_ends b [] is h = tt
greater_ends b (c ∷ cs) is h = greater_alone c (ap (λ y. double y c) (sym is) ∙ h)

minus_ends : (b : ℕ) (bs : List ℕ) → b ≡ 45 → (b == 45 && first bs == 45) ≡ false → Without (joins marks.Minus) bs
minus_ends b [] is h = tt
minus_ends b (c ∷ cs) is h = minus_alone b c is h

plain_ends : (m : Mark) (bs : List ℕ) → joins m ≡ (λ _. false) → Without (joins m) bs
plain_ends m [] h = tt
plain_ends m (c ∷ cs) h = ap (λ f. f c) h

single_is : (b : ℕ) (bs : List ℕ) → double b (first bs) ≡ None → (b == 45 && first bs == 45) ≡ false → IsSingle b bs (single b)
single_is b bs d n =
    (test_single b bs 40 marks.LeftParen _ refl (λ _. plain_ends marks.LeftParen bs refl)
    (test_single b bs 41 marks.RightParen _ refl (λ _. plain_ends marks.RightParen bs refl)
    (test_single b bs 44 marks.Comma _ refl (λ _. plain_ends marks.Comma bs refl)
    (test_single b bs 46 marks.Dot _ refl (λ _. plain_ends marks.Dot bs refl)
    (test_single b bs 59 marks.Semicolon _ refl (λ _. plain_ends marks.Semicolon bs refl)
    (test_single b bs 42 marks.Star _ refl (λ _. plain_ends marks.Star bs refl)
    (test_single b bs 43 marks.Plus _ refl (λ _. plain_ends marks.Plus bs refl)
    (test_single b bs 45 marks.Minus _ refl (λ is. minus_ends b bs is n)
    (test_single b bs 47 marks.Slash _ refl (λ _. plain_ends marks.Slash bs refl)
    (test_single b bs 37 marks.Percent _ refl (λ _. plain_ends marks.Percent bs refl)
    (test_single b bs 61 marks.Equal _ refl (λ _. plain_ends marks.Equal bs refl)
    (test_single b bs 60 marks.Below _ refl (λ is. less_ends b bs is d)
    (test_single b bs 62 marks.Above None refl (λ is. greater_ends b bs is d) tt)))))))))))))

-- ---- a character that begins no token

apart : (b q : ℕ) → (b == q) ≡ false → b ≡ q → ⊥
apart b q h e = grind (arith, nat_tests)

-- what the byte is not
record IsOther (b : ℕ) (bs : List ℕ) : Type 0 where
  pub blank : is_blank b ≡ false
  pub start : is_start b ≡ false
  pub digit : is_ascii_digit b ≡ false
  pub name : (b == 34) ≡ false
  pub text : (b == 39) ≡ false
  pub comment : (b == 45 && first bs == 45) ≡ false

no_single : (p : ℕ) (m : Mark) (b : ℕ) (bs after : List ℕ) → single p ≡ Some m → b ∷ bs ≡ p ∷ after → single b ≡ None → ⊥
no_single p m b bs after is e n = let bad : ◌≡◌ {A = Option Mark} (Some m) None = sym is ∙ ap single (sym (ap first e)) ∙ n in cc

no_double : (p q : ℕ) (m : Mark) (b : ℕ) (bs after : List ℕ) → double p q ≡ Some m → b ∷ bs ≡ p ∷ q ∷ after → double b (first bs) ≡ None → ⊥
no_double p q m b bs after is e n =
    let one : p ≡ b = sym (ap first e) in
    let other : q ≡ first bs = sym (ap (λ l. first (behind l)) e) in
    let bad : ◌≡◌ {A = Option Mark} (Some m) None = sym is ∙ (λ i. double (one i) (other i)) ∙ n in cc

no_mark : (m : Mark) (b : ℕ) (bs after : List ℕ) → single b ≡ None → double b (first bs) ≡ None → b ∷ bs ≡ mark_bytes m ++ after → ⊥
no_mark marks.LeftParen b bs after s d e = no_single 40 marks.LeftParen b bs after refl e s
no_mark marks.RightParen b bs after s d e = no_single 41 marks.RightParen b bs after refl e s
no_mark marks.Comma b bs after s d e = no_single 44 marks.Comma b bs after refl e s
no_mark marks.Dot b bs after s d e = no_single 46 marks.Dot b bs after refl e s
no_mark marks.Semicolon b bs after s d e = no_single 59 marks.Semicolon b bs after refl e s
no_mark marks.Star b bs after s d e = no_single 42 marks.Star b bs after refl e s
no_mark marks.Plus b bs after s d e = no_single 43 marks.Plus b bs after refl e s
no_mark marks.Minus b bs after s d e = no_single 45 marks.Minus b bs after refl e s
no_mark marks.Slash b bs after s d e = no_single 47 marks.Slash b bs after refl e s
no_mark marks.Percent b bs after s d e = no_single 37 marks.Percent b bs after refl e s
no_mark marks.Equal b bs after s d e = no_single 61 marks.Equal b bs after refl e s
no_mark marks.Apart b bs after s d e = no_double 60 62 marks.Apart b bs after refl e d
no_mark marks.Below b bs after s d e = no_single 60 marks.Below b bs after refl e s
no_mark marks.AtMost b bs after s d e = no_double 60 61 marks.AtMost b bs after refl e d
no_mark marks.Above b bs after s d e = no_single 62 marks.Above b bs after refl e s
no_mark marks.AtLeast b bs after s d e = no_double 62 61 marks.AtLeast b bs after refl e d

fails : {P : Type 0} (v : Bool) → v ≡ true → v ≡ false → P
fails v h n = let bad : true ≡ false = sym h ∙ n in absurd (cc)

no_token : (b : ℕ) (bs : List ℕ) → IsOther b bs → single b ≡ None → double b (first bs) ≡ None → (s : Shape) (raw after : List ℕ) → b ∷ bs ≡ raw ++ after → Spells s raw → ⊥
no_token b bs o s d t [] after e sp = absurd (omega (arith, some_bytes t [] sp))
no_token b bs o s d (word w) (x ∷ xs) after e sp = fails (is_start b) (ap is_start (ap first e) ∙ sp.0) o.start
no_token b bs o s d (quoted q) (x ∷ xs) after e sp = apart b 34 o.name (ap first e ∙ ap first sp.0)
no_token b bs o s d (literal q) (x ∷ xs) after e sp = apart b 39 o.text (ap first e ∙ ap first sp.0)
no_token b bs o s d (number n) (x ∷ xs) after e sp =
    let all : Every is_ascii_digit (x ∷ xs) = subst (Every is_ascii_digit) (sym sp.0) (sp.1).0 in
    fails (is_ascii_digit b) (ap is_ascii_digit (ap first e) ∙ all.0) o.digit
no_token b bs o s d (mark m) (x ∷ xs) after e (inl sp) = no_mark m b bs after s d (e ∙ ap (λ l. l ++ after) sp)
no_token b bs o s d (mark m) (x ∷ xs) after e (inr sp) = no_double 33 61 marks.Apart b bs after refl (e ∙ ap (λ l. l ++ after) sp.1) d

tells_single : (b : ℕ) (bs : List ℕ) (o : Option Mark) → IsOther b bs → single b ≡ o → double b (first bs) ≡ None → IsSingle b bs o → TellsNext (b ∷ bs) (single_next o bs)
tells_single b bs None other s d is = bad_character b bs other.blank (apart b 34 other.name) (apart b 39 other.text) (no_token b bs other s d)
tells_single b bs (Some m) other s d is = record { raw = b ∷ []; whole = refl; spells = inl (sym is.0); ends = is.1 }

no_second : (p q b : ℕ) → 0 < q → p ∷ q ∷ [] ≡ b ∷ 0 ∷ [] → ⊥
no_second p q b l h = let e : q ≡ 0 = ap (λ x. first (behind x)) h in absurd (omega arith)

one_two : (p b c : ℕ) → p ∷ [] ≡ b ∷ c ∷ [] → ⊥
one_two p b c h = absurd (omega (arith, ap length h))

no_zero : (m : Mark) (b : ℕ) → mark_bytes m ≡ b ∷ 0 ∷ [] → ⊥
no_zero marks.LeftParen b h = one_two _ b 0 h
no_zero marks.RightParen b h = one_two _ b 0 h
no_zero marks.Comma b h = one_two _ b 0 h
no_zero marks.Dot b h = one_two _ b 0 h
no_zero marks.Semicolon b h = one_two _ b 0 h
no_zero marks.Star b h = one_two _ b 0 h
no_zero marks.Plus b h = one_two _ b 0 h
no_zero marks.Minus b h = one_two _ b 0 h
no_zero marks.Slash b h = one_two _ b 0 h
no_zero marks.Percent b h = one_two _ b 0 h
no_zero marks.Equal b h = one_two _ b 0 h
no_zero marks.Apart b h = no_second 60 62 b (omega arith) h
no_zero marks.Below b h = one_two _ b 0 h
no_zero marks.AtMost b h = no_second 60 61 b (omega arith) h
no_zero marks.Above b h = one_two _ b 0 h
no_zero marks.AtLeast b h = no_second 62 61 b (omega arith) h

tells_double : (m : Mark) (b : ℕ) (bs : List ℕ) → IsDouble b (first bs) (Some m) → Front (b ∷ bs) (mark m) (behind bs)
tells_double m b [] is = absurd (elim (is.0) [ inl e ↦ no_zero m b e | inr e ↦ (let h : 0 ≡ 61 = e.2 in omega arith) ])
tells_double m b (c ∷ cs) is =
    record {
      raw = b ∷ c ∷ [];
      whole = refl;
      spells = elim (is.0) [ inl e ↦ inl (sym e) | inr e ↦ inr (e.0, (λ i. e.1 i ∷ e.2 i ∷ [])) ];
      ends = is.1 cs;
    }

tells_mark : (b : ℕ) (bs : List ℕ) (o : Option Mark) → double b (first bs) ≡ o → IsOther b bs → TellsNext (b ∷ bs) (mark_next o (single b) bs)
tells_mark b bs None d other = tells_single b bs (single b) other refl d (single_is b bs d other.comment)
tells_mark b bs (Some m) d other = tells_double m b bs (subst (λ o. IsDouble b (first bs) o) d (double_is b (first bs)))

pub next_tells : (text : List ℕ) → TellsNext text (next text)
unfolding next
next_tells [] = tt
next_tells (b ∷ bs) =
    either (b ∷ bs) (is_blank b) (blank bs) _ (λ h. (b, refl, h)) (λ n_blank.
    either (b ∷ bs) (is_start b) (word_next (run is_part (b ∷ bs))) _ (λ h. tells_word b bs (run is_part (b ∷ bs)).0 (run is_part (b ∷ bs)).1 h (part is_part (b ∷ bs))) (λ n_start.
    either (b ∷ bs) (is_ascii_digit b) (number_next (run is_ascii_digit (b ∷ bs))) _ (λ h. tells_number b bs (run is_ascii_digit (b ∷ bs)).0 (run is_ascii_digit (b ∷ bs)).1 h (part is_ascii_digit (b ∷ bs))) (λ n_digit.
    either (b ∷ bs) (b == 34) (name_next (quote 34 bs)) _ (λ h. tells_name b bs (quote 34 bs) (is_same b 34 h) refl (quote_tells 34 bs refl)) (λ n_name.
    either (b ∷ bs) (b == 39) (literal_next (quote 39 bs)) _ (λ h. tells_literal b bs (quote 39 bs) (is_same b 39 h) refl (quote_tells 39 bs refl)) (λ n_text.
    either (b ∷ bs) (b == 45 && first bs == 45) (comment_next (run is_text (b ∷ bs))) _ (λ h. tells_comment b bs (run is_text (b ∷ bs)).0 (run is_text (b ∷ bs)).1 (both_left b (first bs) 45 45 h) (both_right b (first bs) 45 45 h) (part is_text (b ∷ bs))) (λ n_comment.
    tells_mark b bs (double b (first bs)) refl (record { blank = n_blank; start = n_start; digit = n_digit; name = n_name; text = n_text; comment = n_comment })))))))

after_blank : (at : ℕ) (b : ℕ) (rest : List ℕ) (ts : List Lexeme) → is_blank b ≡ true → Cuts (at + 1) rest ts → Cuts at (b ∷ rest) ts
after_blank at b rest [] h (blanks, more, e, is, r) = (b ∷ blanks, more, (h, e), ap (λ y. b ∷ y) is, r)
after_blank at b rest (t ∷ ts) h (blanks, raw, more, e, is, s, n, start, end, l) = (b ∷ blanks, raw, more, (h, e), ap (λ y. b ∷ y) is, s, n, omega arith, end, l)

map_some : (o : Option (List Lexeme)) (t : Lexeme) (us : List Lexeme) → option_map (λ ts. t ∷ ts) o ≡ Some us → (ts : List Lexeme) × (o ≡ Some ts) × (us ≡ t ∷ ts)
map_some None t us h = absurd (cc)
map_some (Some ts) t us h = (ts, refl, sym (some_same (t ∷ ts) us h))

lex_front : (at k : ℕ) (text : List ℕ) (us : List Lexeme) (n : Next) → TellsNext text n → ((at' : ℕ) (rest : List ℕ) (ts : List Lexeme) → lex k at' rest ≡ Some ts → Cuts at' rest ts) → continued at text (lex k) n ≡ Some us → Cuts at text us
lex_front at k text us done tells ih h = subst (λ y. Cuts at text y) (some_same [] us h) ([], text, tt, refl, tells)
lex_front at k text us (blank rest) tells ih h = rw tells.1 (after_blank at tells.0 rest us tells.2 (ih (at + 1) rest us h))
lex_front at k text us (token s rest) tells ih h =
    let end : ℕ = at + (length text - length rest) in
    let m = map_some (lex k end rest) (record { shape = s; start = at; end = end }) us h in
    let go : Cuts at text (record { shape = s; start = at; end = end } ∷ m.0) = ([], tells.raw, rest, tt, tells.whole, tells.spells, tells.ends, omega arith, omega (arith, ap length tells.whole, length-append tells.raw rest), ih end rest m.0 m.1) in
    subst (λ y. Cuts at text y) (sym m.2) go
lex_front at k text us bad tells ih h = absurd (cc)

pub lex_sound : (k at : ℕ) (text : List ℕ) (us : List Lexeme) → lex k at text ≡ Some us → Cuts at text us
unfolding lex
lex_sound zero at text us h = absurd (cc)
lex_sound (suc k) at text us h = lex_front at k text us (next text) (next_tells text) (lex_sound k) h

-- ---- the loop

-- what is left gets shorter
pub next_shorter : (text : List ℕ) (s : Shape) (rest : List ℕ) → next text ≡ token s rest → length rest < length text
next_shorter text s rest h =
    let f : Front text s rest = subst (TellsNext text) h (next_tells text) in
    omega (arith, ap length f.whole, length-append f.raw rest, some_bytes s f.raw f.spells)

pub blank_shorter : (text rest : List ℕ) → next text ≡ blank rest → length text ≡ length rest + 1
blank_shorter text rest h =
    let f : TellsNext text (blank rest) = subst (TellsNext text) h (next_tells text) in
    omega (arith, ap length f.1)
