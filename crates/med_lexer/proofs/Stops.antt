-- Each token of a list of longest tokens stops where it ends, so that the list is the one that is cut.
use Rattle.std.proofs.Common.{◌≡◌, ℕ, suc, ◌<◌, inl, inr, List, [], ◌∷◌, ◌++◌, length, sym, refl, ap, ◌∙◌, subst, arith, append_assoc}
use Rattle.std.specs.Prelude.{Bool, true, false, cond, ◌==◌, Some, None}
use Rattle.std.specs.Char.{is_ascii_digit}
use Rattle.std.specs.Str.{str_to_ascii_lowercase}
use Rattle.med_lexer.specs.declared.Mark.{Mark}
use Rattle.med_lexer.specs.declared.Mark.TheVariants as marks
use Rattle.med_lexer.specs.Lexemes.{is_blank, is_start, is_part, is_text, Every, Without, doubled, between, Shape, word, quoted, literal, number, mark, Spells, IsLongest, MayPrecede, IsEnd, Lexeme, Lexes}
use Rattle.med_lexer.specs.Cutting.{first, behind, lex}
use Rattle.med_lexer.proofs.Cuts.{joins, is_number_joint, Ends, Cuts}
use Rattle.med_lexer.proofs.Exact.{is_same, same_is, some_bytes, one_list_cut, lex_none}
use Rattle.med_lexer.proofs.Tells.{lex_sound}
use Rattle.med_lexer.proofs.Maximal.{Closes, name_closes, text_closes, lexes_of_cuts}

every_append : (p : ℕ → Bool) (bs cs : List ℕ) → Every p bs → Every p cs → Every p (bs ++ cs)
every_append p [] cs h k = k
every_append p (b ∷ bs) cs h k = (h.0, every_append p bs cs h.1 k)

length-append-snoc : (bs : List ℕ) (c : ℕ) → 0 < length (bs ++ c ∷ [])
length-append-snoc [] c = omega arith
length-append-snoc (b ∷ bs) c = omega arith

-- the next byte would make a longer token, so that it is none of those
unless : (p : ℕ → Bool) (c : ℕ) → (p c ≡ true → c ∷ [] ≡ []) → p c ≡ false
unless p c f =
    let go : (v : Bool) → p c ≡ v → p c ≡ false = elim [
      | true ↦ (λ is. absurd (omega (arith, ap length (f is))))
      | false ↦ (λ is. is)
    ]
    in go (p c) refl

word_stops : (w raw rest : List ℕ) → Spells (word w) raw → IsLongest raw rest → Without is_part rest
word_stops w [] rest s long = absurd s
word_stops w (b ∷ bs) [] s long = tt
word_stops w (b ∷ bs) (c ∷ cs) s long =
    unless is_part c (λ is. long (word (str_to_ascii_lowercase (b ∷ (bs ++ c ∷ [])))) (c ∷ []) cs refl (s.0, every_append is_part bs (c ∷ []) s.1 (is, tt), refl))

joint_cases : (c : ℕ) → is_ascii_digit c ≡ false → is_start c ≡ false → is_number_joint c ≡ false
joint_cases c h k = rw h k

number_stops : (d raw rest : List ℕ) → Spells (number d) raw → IsLongest raw rest → Without is_start rest → Without is_number_joint rest
number_stops d raw [] s long n = tt
number_stops d raw (c ∷ cs) s long n =
    let all : Every is_ascii_digit raw = subst (Every is_ascii_digit) (sym s.0) (s.1).0 in
    joint_cases c (unless is_ascii_digit c (λ is. long (number (raw ++ c ∷ [])) (c ∷ []) cs refl (refl, (every_append is_ascii_digit raw (c ∷ []) all (is, tt), length-append-snoc raw c)))) n

-- ---- marks

other_spelling : (m : Mark) → joins m ≡ (λ _. false) → (rest : List ℕ) → Without (joins m) rest
other_spelling m h [] = tt
other_spelling m h (c ∷ cs) = ap (λ f. f c) h

less_joins : (c : ℕ) → (c == 61) ≡ false → (c == 62) ≡ false → joins marks.Below c ≡ false
less_joins c h k = rw h k

less_spelled : (raw : List ℕ) → Spells (mark marks.Below) raw → raw ≡ 60 ∷ []
less_spelled raw (inl s) = s
less_spelled raw (inr s) = absurd (let e : marks.Below ≡ marks.Apart = s.0 in cc)

greater_spelled : (raw : List ℕ) → Spells (mark marks.Above) raw → raw ≡ 62 ∷ []
greater_spelled raw (inl s) = s
greater_spelled raw (inr s) = absurd (let e : marks.Above ≡ marks.Apart = s.0 in cc)

two_bytes : (raw : List ℕ) (b c d : ℕ) → raw ≡ b ∷ [] → (c == d) ≡ true → raw ++ c ∷ [] ≡ b ∷ d ∷ []
two_bytes raw b c d e is = ap (λ x. x ++ c ∷ []) e ∙ ap (λ y. b ∷ y ∷ []) (is_same c d is)

less_stops : (raw rest : List ℕ) → raw ≡ 60 ∷ [] → IsLongest raw rest → Without (joins marks.Below) rest
less_stops raw [] s long = tt
less_stops raw (c ∷ cs) s long =
    less_joins c (unless (λ x. x == 61) c (λ is. long (mark marks.AtMost) (c ∷ []) cs refl (inl (two_bytes raw 60 c 61 s is))))
    (unless (λ x. x == 62) c (λ is. long (mark marks.Apart) (c ∷ []) cs refl (inl (two_bytes raw 60 c 62 s is))))

greater_stops : (raw rest : List ℕ) → raw ≡ 62 ∷ [] → IsLongest raw rest → Without (joins marks.Above) rest
greater_stops raw [] s long = tt
greater_stops raw (c ∷ cs) s long = unless (λ x. x == 61) c (λ is. long (mark marks.AtLeast) (c ∷ []) cs refl (inl (two_bytes raw 62 c 61 s is)))

mark_stops : (m : Mark) (raw rest : List ℕ) → Spells (mark m) raw → IsLongest raw rest → MayPrecede (mark m) rest → Without (joins m) rest
mark_stops marks.LeftParen raw rest s long n = other_spelling marks.LeftParen refl rest
mark_stops marks.RightParen raw rest s long n = other_spelling marks.RightParen refl rest
mark_stops marks.Comma raw rest s long n = other_spelling marks.Comma refl rest
mark_stops marks.Dot raw rest s long n = other_spelling marks.Dot refl rest
mark_stops marks.Semicolon raw rest s long n = other_spelling marks.Semicolon refl rest
mark_stops marks.Star raw rest s long n = other_spelling marks.Star refl rest
mark_stops marks.Plus raw rest s long n = other_spelling marks.Plus refl rest
mark_stops marks.Minus raw rest s long n = n refl
mark_stops marks.Slash raw rest s long n = other_spelling marks.Slash refl rest
mark_stops marks.Percent raw rest s long n = other_spelling marks.Percent refl rest
mark_stops marks.Equal raw rest s long n = other_spelling marks.Equal refl rest
mark_stops marks.Apart raw rest s long n = other_spelling marks.Apart refl rest
mark_stops marks.Below raw rest s long n = less_stops raw rest (less_spelled raw s) long
mark_stops marks.AtMost raw rest s long n = other_spelling marks.AtMost refl rest
mark_stops marks.Above raw rest s long n = greater_stops raw rest (greater_spelled raw s) long
mark_stops marks.AtLeast raw rest s long n = other_spelling marks.AtLeast refl rest

-- ---- quotes

-- what begins with a quote and has tokens closes it: with the token before it, that would be one longer token
abbrev Quoted : ℕ → List ℕ → Type 0
Quoted q r = (w rest : List ℕ) × (r ≡ (doubled q w ++ q ∷ []) ++ rest) × Every is_text w

closed_token : (q : ℕ) (raw rest r : List ℕ) (s : Shape) → ((t : Shape) (bs : List ℕ) → Spells t (q ∷ bs) → Closes q bs) → Spells s raw → q ∷ r ≡ raw ++ rest → Quoted q r
closed_token q [] rest r s closes sp is = absurd (omega (arith, some_bytes s [] sp))
closed_token q (b ∷ bs) rest r s closes sp is =
    let e : b ≡ q = sym (ap first is) in
    let c : Closes q bs = closes s bs (subst (λ x. Spells s (x ∷ bs)) e sp) in
    (c.0, rest, ap behind is ∙ ap (λ x. x ++ rest) c.1, c.2)

no_comment : (q : ℕ) (r : List ℕ) → (q ≡ 45 → ⊥) → IsEnd (q ∷ r) → ⊥
no_comment q [] n h = h
no_comment q (c ∷ cs) n h = n h.0

begins_blank : {P : Type 0} (q b : ℕ) (r bs : List ℕ) → is_blank q ≡ false → is_blank b ≡ true → q ∷ r ≡ b ∷ bs → P
begins_blank q b r bs n h is = let bad : true ≡ false = sym h ∙ ap is_blank (sym (ap first is)) ∙ n in absurd (cc)

-- a quote that may begin a token, and how one closes
record IsQuote (q : ℕ) : Type 0 where
  no_blank : is_blank q ≡ false
  no_minus : q ≡ 45 → ⊥
  closes : (t : Shape) (bs : List ℕ) → Spells t (q ∷ bs) → Closes q bs

closed_front : (q : ℕ) → IsQuote q → (blanks raw rest r : List ℕ) (s : Shape) → Every is_blank blanks → q ∷ r ≡ blanks ++ (raw ++ rest) → Spells s raw → Quoted q r
closed_front q o [] raw rest r s b is sp = closed_token q raw rest r s o.closes sp is
closed_front q o (x ∷ xs) raw rest r s b is sp = begins_blank q x r (xs ++ (raw ++ rest)) o.no_blank b.0 is

closed : (q : ℕ) → IsQuote q → (ts : List Lexeme) (at : ℕ) (r : List ℕ) → Lexes at (q ∷ r) ts → Quoted q r
closed q o [] at r ([], rest, b, is, end) = absurd (no_comment q r o.no_minus (subst IsEnd (sym is) end))
closed q o [] at r (x ∷ xs, rest, b, is, end) = begins_blank q x r (xs ++ rest) o.no_blank b.0 is
closed q o (t ∷ ts) at r (rest, f, go) = closed_front q o f.blanks f.raw rest r t.shape f.parted f.whole f.spelled

cond_append : (v : Bool) (x y r : List ℕ) → cond v x y ++ r ≡ cond v (x ++ r) (y ++ r)
cond_append true x y r = refl
cond_append false x y r = refl

doubled_append : (q : ℕ) (a b : List ℕ) → doubled q (a ++ q ∷ b) ≡ doubled q a ++ q ∷ q ∷ doubled q b
doubled_append q [] b = rw (same_is q) refl
doubled_append q (x ∷ xs) b =
    ap (λ y. cond (x == q) (q ∷ q ∷ y) (x ∷ y)) (doubled_append q xs b) ∙ sym (cond_append (x == q) (q ∷ q ∷ doubled q xs) (x ∷ doubled q xs) (q ∷ q ∷ doubled q b))

between_join : (q : ℕ) (a b : List ℕ) → between q a ++ between q b ≡ between q (a ++ q ∷ b)
between_join q a b =
    ap (λ y. q ∷ y)
    (append_assoc (doubled q a) (q ∷ []) (q ∷ (doubled q b ++ q ∷ [])) ∙ sym (append_assoc (doubled q a) (q ∷ q ∷ doubled q b) (q ∷ [])) ∙ ap (λ y. y ++ q ∷ []) (sym (doubled_append q a b)))

length-middle : (bs : List ℕ) (c : ℕ) (cs : List ℕ) → 0 < length (bs ++ c ∷ cs)
length-middle [] c cs = omega arith
length-middle (b ∷ bs) c cs = omega arith

no_between : {P : Type 0} (q : ℕ) (w : List ℕ) → between q w ≡ [] → P
no_between q w h = absurd (omega (arith, ap length h))

quote_stops : (q : ℕ) (n raw rest : List ℕ) → IsQuote q → is_text q ≡ true → raw ≡ between q n → Every is_text n →
    ((w : List ℕ) → Every is_text (n ++ q ∷ w) → (s : Shape) × Spells s (between q (n ++ q ∷ w))) → IsLongest raw rest → (ts : List Lexeme) (at : ℕ) → Lexes at rest ts → Without (λ b. b == q) rest
quote_stops q n raw [] o tq is tn spell long ts at h = tt
quote_stops q n raw (c ∷ cs) o tq is tn spell long ts at h =
    unless (λ b. b == q) c (λ same.
    let e : c ≡ q = is_same c q same in
    let k : Quoted q cs = closed q o ts at cs (subst (λ x. Lexes at (x ∷ cs) ts) e h) in
    let text : Every is_text (n ++ q ∷ k.0) = every_append is_text n (q ∷ k.0) tn (tq, k.3) in
    let whole : raw ++ between q k.0 ≡ between q (n ++ q ∷ k.0) = ap (λ x. x ++ between q k.0) is ∙ between_join q n k.0 in
    let sp : (s : Shape) × Spells s (between q (n ++ q ∷ k.0)) = spell k.0 text in
    no_between q k.0 (long sp.0 (between q k.0) k.1 (λ i. e i ∷ k.2 i) (subst (Spells sp.0) (sym whole) sp.1)))

double_quote : IsQuote 34
double_quote = record { no_blank = refl; no_minus = λ h. omega (arith, h); closes = name_closes }

single_quote : IsQuote 39
single_quote = record { no_blank = refl; no_minus = λ h. omega (arith, h); closes = text_closes }

stops : (s : Shape) (raw rest : List ℕ) → Spells s raw → IsLongest raw rest → MayPrecede s rest → (ts : List Lexeme) (at : ℕ) → Lexes at rest ts → Ends s rest
stops (word w) raw rest s long n ts at h = word_stops w raw rest s long
stops (quoted q) raw rest s long n ts at h =
    quote_stops 34 q raw rest double_quote refl s.0 s.1 (λ w t. (quoted (q ++ 34 ∷ w), (refl, t, length-middle q 34 w))) long ts at h
stops (literal q) raw rest s long n ts at h = quote_stops 39 q raw rest single_quote refl s.0 s.1 (λ w t. (literal (q ++ 39 ∷ w), (refl, t))) long ts at h
stops (number d) raw rest s long n ts at h = number_stops d raw rest s long n
stops (mark m) raw rest s long n ts at h = mark_stops m raw rest s long n

pub cuts_of_lexes : (ts : List Lexeme) (at : ℕ) (text : List ℕ) → Lexes at text ts → Cuts at text ts
cuts_of_lexes [] at text h = h
cuts_of_lexes (t ∷ ts) at text (rest, f, go) =
    (f.blanks, f.raw, rest, f.parted, f.whole, f.spelled, stops t.shape f.raw rest f.spelled f.longest f.apart ts t.end go, f.start, f.end, cuts_of_lexes ts t.end rest go)

-- ---- the list that is cut is the list of longest tokens

-- A text has at most one list of tokens.
pub one_list : (at : ℕ) (text : List ℕ) (ts us : List Lexeme) → Lexes at text ts → Lexes at text us → ts ≡ us
one_list at text ts us h k = one_list_cut at text ts us (cuts_of_lexes ts at text h) (cuts_of_lexes us at text k)

pub lexes_of_lex : (k at : ℕ) (text : List ℕ) (ts : List Lexeme) → lex k at text ≡ Some ts → Lexes at text ts
lexes_of_lex k at text ts h = lexes_of_cuts ts at text (lex_sound k at text ts h)

pub none_of_lex : (text : List ℕ) (ts : List Lexeme) → lex (suc (length text)) 0 text ≡ None → Lexes 0 text ts → ⊥
none_of_lex text ts h k = lex_none text ts h (cuts_of_lexes ts 0 text k)
