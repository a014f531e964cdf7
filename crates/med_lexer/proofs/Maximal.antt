-- The longest tokens are those that stop where they end.
use Rattle.std.proofs.Common.{◌≡◌, ℕ, inl, inr, List, [], ◌∷◌, ◌++◌, length, sym, refl, ap, ◌∙◌, subst, arith, append_assoc}
use Rattle.std.specs.Prelude.{Bool, true, false, not, ◌==◌, ◌&&◌, Some, is_some}
use Rattle.std.specs.Char.{is_ascii_digit}
use Rattle.std.proofs.lemmas.Bool.Decides.{nat_tests}
use Rattle.med_lexer.specs.declared.Mark.{Mark}
use Rattle.med_lexer.specs.declared.Mark.TheVariants as marks
use Rattle.med_lexer.specs.Lexemes.{is_start, is_part, is_text, Every, Without, doubled, Shape, word, quoted, literal, number, mark, mark_bytes, Spells, IsLongest, MayPrecede, Lexeme, Lexes}
use Rattle.med_lexer.specs.Cutting.{quote, first, behind, double}
use Rattle.med_lexer.proofs.Cuts.{joins, is_number_joint, Ends, Cuts}
use Rattle.med_lexer.proofs.Exact.{quote_again, some_same}

-- ---- a token by its first byte

abbrev opens_mark : ℕ → Bool
opens_mark b = not (is_start b) && (not (is_ascii_digit b) && (not (b == 34) && not (b == 39)))

mark_opens : (m : Mark) → opens_mark (first (mark_bytes m)) ≡ true
mark_opens marks.LeftParen = refl
mark_opens marks.RightParen = refl
mark_opens marks.Comma = refl
mark_opens marks.Dot = refl
mark_opens marks.Semicolon = refl
mark_opens marks.Star = refl
mark_opens marks.Plus = refl
mark_opens marks.Minus = refl
mark_opens marks.Slash = refl
mark_opens marks.Percent = refl
mark_opens marks.Equal = refl
mark_opens marks.Apart = refl
mark_opens marks.Below = refl
mark_opens marks.AtMost = refl
mark_opens marks.Above = refl
mark_opens marks.AtLeast = refl

abbrev Opens : Shape → ℕ → Type 0
Opens (word w) b = is_start b ≡ true
Opens (quoted q) b = b ≡ 34
Opens (literal q) b = b ≡ 39
Opens (number d) b = is_ascii_digit b ≡ true
Opens (mark m) b = opens_mark b ≡ true

opens : (s : Shape) (b : ℕ) (bs : List ℕ) → Spells s (b ∷ bs) → Opens s b
opens (word w) b bs s = s.0
opens (quoted q) b bs s = ap first s.0
opens (literal q) b bs s = ap first s.0
opens (number d) b bs s = let all : Every is_ascii_digit (b ∷ bs) = subst (Every is_ascii_digit) (sym s.0) (s.1).0 in all.0
opens (mark m) b bs (inl s) = ap (λ x. opens_mark (first x)) s ∙ mark_opens m
opens (mark m) b bs (inr s) = ap (λ x. opens_mark (first x)) s.1

start_no_digit : (b : ℕ) → is_start b ≡ true → is_ascii_digit b ≡ true → ⊥
start_no_digit b h n = grind (arith, nat_tests)

start_no_quote : (b : ℕ) → is_start b ≡ true → b ≡ 34 → ⊥
start_no_quote b h n = grind (arith, nat_tests)

start_no_single : (b : ℕ) → is_start b ≡ true → b ≡ 39 → ⊥
start_no_single b h n = grind (arith, nat_tests)

start_no_mark : (b : ℕ) → is_start b ≡ true → opens_mark b ≡ true → ⊥
start_no_mark b h n = grind (arith, nat_tests)

digit_no_quote : (b : ℕ) → is_ascii_digit b ≡ true → b ≡ 34 → ⊥
digit_no_quote b h n = grind (arith, nat_tests)

digit_no_single : (b : ℕ) → is_ascii_digit b ≡ true → b ≡ 39 → ⊥
digit_no_single b h n = grind (arith, nat_tests)

digit_no_mark : (b : ℕ) → is_ascii_digit b ≡ true → opens_mark b ≡ true → ⊥
digit_no_mark b h n = grind (arith, nat_tests)

mark_no_quote : (b : ℕ) → opens_mark b ≡ true → b ≡ 34 → ⊥
mark_no_quote b h n = grind (arith, nat_tests)

mark_no_single : (b : ℕ) → opens_mark b ≡ true → b ≡ 39 → ⊥
mark_no_single b h n = grind (arith, nat_tests)

word_parts : (s : Shape) (b : ℕ) (bs : List ℕ) → is_start b ≡ true → Spells s (b ∷ bs) → Every is_part bs
word_parts (word w) b bs h s = s.1
word_parts (quoted q) b bs h s = absurd (start_no_quote b h (opens (quoted q) b bs s))
word_parts (literal q) b bs h s = absurd (start_no_single b h (opens (literal q) b bs s))
word_parts (number d) b bs h s = absurd (start_no_digit b h (opens (number d) b bs s))
word_parts (mark m) b bs h s = absurd (start_no_mark b h (opens (mark m) b bs s))

number_digits : (s : Shape) (b : ℕ) (bs : List ℕ) → is_ascii_digit b ≡ true → Spells s (b ∷ bs) → Every is_ascii_digit (b ∷ bs)
number_digits (word w) b bs h s = absurd (start_no_digit b (opens (word w) b bs s) h)
number_digits (quoted q) b bs h s = absurd (digit_no_quote b h (opens (quoted q) b bs s))
number_digits (literal q) b bs h s = absurd (digit_no_single b h (opens (literal q) b bs s))
number_digits (number d) b bs h s = subst (Every is_ascii_digit) (sym s.0) (s.1).0
number_digits (mark m) b bs h s = absurd (digit_no_mark b h (opens (mark m) b bs s))

-- a quoted name or a text behind its first quote
abbrev pub Closes : ℕ → List ℕ → Type 0
Closes q bs = (w : List ℕ) × (bs ≡ doubled q w ++ q ∷ []) × Every is_text w

pub name_closes : (s : Shape) (bs : List ℕ) → Spells s (34 ∷ bs) → Closes 34 bs
name_closes (word w) bs s = absurd (start_no_quote 34 (opens (word w) 34 bs s) refl)
name_closes (quoted q) bs s = (q, ap behind s.0, s.1)
name_closes (literal q) bs s = absurd (let e : 34 ≡ 39 = opens (literal q) 34 bs s in omega arith)
name_closes (number d) bs s = absurd (digit_no_quote 34 (opens (number d) 34 bs s) refl)
name_closes (mark m) bs s = absurd (mark_no_quote 34 (opens (mark m) 34 bs s) refl)

pub text_closes : (s : Shape) (bs : List ℕ) → Spells s (39 ∷ bs) → Closes 39 bs
text_closes (word w) bs s = absurd (start_no_single 39 (opens (word w) 39 bs s) refl)
text_closes (quoted q) bs s = absurd (let e : 39 ≡ 34 = opens (quoted q) 39 bs s in omega arith)
text_closes (literal q) bs s = (q, ap behind s.0, s.1)
text_closes (number d) bs s = absurd (digit_no_single 39 (opens (number d) 39 bs s) refl)
text_closes (mark m) bs s = absurd (mark_no_single 39 (opens (mark m) 39 bs s) refl)

-- a mark of two bytes
abbrev IsPair : ℕ → ℕ → List ℕ → Type 0
IsPair b c cs = (cs ≡ []) × (is_some (double b c) ≡ true)

no_pair : (p b c : ℕ) (cs : List ℕ) → b ∷ c ∷ cs ≡ p ∷ [] → IsPair b c cs
no_pair p b c cs h = absurd (omega (arith, ap length h))

is_pair : (p q b c : ℕ) (cs : List ℕ) → is_some (double p q) ≡ true → b ∷ c ∷ cs ≡ p ∷ q ∷ [] → IsPair b c cs
is_pair p q b c cs d h =
    let e : b ≡ p = ap first h in
    let f : c ≡ q = ap (λ x. first (behind x)) h in
    (ap (λ x. behind (behind x)) h, (λ i. is_some (double (e i) (f i))) ∙ d)

mark_pair : (m : Mark) (b c : ℕ) (cs : List ℕ) → b ∷ c ∷ cs ≡ mark_bytes m → IsPair b c cs
mark_pair marks.LeftParen b c cs h = no_pair _ b c cs h
mark_pair marks.RightParen b c cs h = no_pair _ b c cs h
mark_pair marks.Comma b c cs h = no_pair _ b c cs h
mark_pair marks.Dot b c cs h = no_pair _ b c cs h
mark_pair marks.Semicolon b c cs h = no_pair _ b c cs h
mark_pair marks.Star b c cs h = no_pair _ b c cs h
mark_pair marks.Plus b c cs h = no_pair _ b c cs h
mark_pair marks.Minus b c cs h = no_pair _ b c cs h
mark_pair marks.Slash b c cs h = no_pair _ b c cs h
mark_pair marks.Percent b c cs h = no_pair _ b c cs h
mark_pair marks.Equal b c cs h = no_pair _ b c cs h
mark_pair marks.Apart b c cs h = is_pair 60 62 b c cs refl h
mark_pair marks.Below b c cs h = no_pair _ b c cs h
mark_pair marks.AtMost b c cs h = is_pair 60 61 b c cs refl h
mark_pair marks.Above b c cs h = no_pair _ b c cs h
mark_pair marks.AtLeast b c cs h = is_pair 62 61 b c cs refl h

spelled_pair : (s : Shape) (b c : ℕ) (cs : List ℕ) → opens_mark b ≡ true → Spells s (b ∷ c ∷ cs) → IsPair b c cs
spelled_pair (word w) b c cs h s = absurd (start_no_mark b (opens (word w) b (c ∷ cs) s) h)
spelled_pair (quoted q) b c cs h s = absurd (mark_no_quote b h (opens (quoted q) b (c ∷ cs) s))
spelled_pair (literal q) b c cs h s = absurd (mark_no_single b h (opens (literal q) b (c ∷ cs) s))
spelled_pair (number d) b c cs h s = absurd (digit_no_mark b (opens (number d) b (c ∷ cs) s) h)
spelled_pair (mark m) b c cs h (inl s) = mark_pair m b c cs s
spelled_pair (mark m) b c cs h (inr s) = is_pair 33 61 b c cs refl s.1

-- ---- a token that stops is the longest

clash : {P : Type 0} (v : Bool) → v ≡ true → v ≡ false → P
clash v h n = let bad : true ≡ false = sym h ∙ n in absurd (cc)

every_middle : (p : ℕ → Bool) (bs : List ℕ) (c : ℕ) (cs : List ℕ) → Every p (bs ++ c ∷ cs) → p c ≡ true
every_middle p [] c cs h = h.0
every_middle p (b ∷ bs) c cs h = every_middle p bs c cs h.1

front_without : (p : ℕ → Bool) (more after : List ℕ) → Without p (more ++ after) → Without p more
front_without p [] after h = tt
front_without p (c ∷ cs) after h = h

word_longest : (b : ℕ) (bs : List ℕ) (s : Shape) (more after : List ℕ) → is_start b ≡ true → Without is_part (more ++ after) → Spells s (b ∷ (bs ++ more)) → more ≡ []
word_longest b bs s [] after h n sp = refl
word_longest b bs s (c ∷ cs) after h n sp = clash (is_part c) (every_middle is_part bs c cs (word_parts s b (bs ++ c ∷ cs) h sp)) n

joint_digit : (c : ℕ) → is_number_joint c ≡ false → is_ascii_digit c ≡ false
joint_digit c h = grind (arith, nat_tests)

number_longest : (b : ℕ) (bs : List ℕ) (s : Shape) (more after : List ℕ) → is_ascii_digit b ≡ true → Without is_number_joint (more ++ after) → Spells s (b ∷ (bs ++ more)) → more ≡ []
number_longest b bs s [] after h n sp = refl
number_longest b bs s (c ∷ cs) after h n sp =
    clash (is_ascii_digit c) (every_middle is_ascii_digit bs c cs (number_digits s b (bs ++ c ∷ cs) h sp).1) (joint_digit c n)

quote_longest : (q : ℕ) (w more : List ℕ) → Every is_text w → Without (λ b. b == q) more → Closes q ((doubled q w ++ q ∷ []) ++ more) → more ≡ []
quote_longest q w more t n closes =
    let one : quote q ((doubled q w ++ q ∷ []) ++ more) ≡ Some (w, more) = ap (quote q) (append_assoc (doubled q w) (q ∷ []) more) ∙ quote_again q w more t n in
    let two : quote q ((doubled q w ++ q ∷ []) ++ more) ≡ Some (closes.0, []) = ap (quote q) closes.1 ∙ quote_again q closes.0 [] closes.2 tt in
    ap (λ (x : List ℕ × List ℕ). x.1) (some_same (w, more) (closes.0, []) (sym one ∙ two))

single_longest : (b : ℕ) (m : Mark) (s : Shape) (more after : List ℕ) → opens_mark b ≡ true → ((c : ℕ) → joins m c ≡ false → is_some (double b c) ≡ false) → Without (joins m) (more ++ after) → Spells s (b ∷ more) → more ≡ []
single_longest b m s [] after o f n sp = refl
single_longest b m s (c ∷ cs) after o f n sp = clash (is_some (double b c)) (spelled_pair s b c cs o sp).1 (f c n)

double_longest : (b c : ℕ) (s : Shape) (more : List ℕ) → opens_mark b ≡ true → Spells s (b ∷ c ∷ more) → more ≡ []
double_longest b c s more o sp = (spelled_pair s b c more o sp).0

less_single : (c : ℕ) → joins marks.Below c ≡ false → is_some (double 60 c) ≡ false
less_single c n =
    let p : (c == 62) ≡ false = grind (arith, nat_tests) in
    let q : (c == 61) ≡ false = grind (arith, nat_tests) in
    rw p (rw q refl)

greater_single : (c : ℕ) → joins marks.Above c ≡ false → is_some (double 62 c) ≡ false
greater_single c n = rw n refl

mark_longest : (m : Mark) (s : Shape) (more after : List ℕ) → Without (joins m) (more ++ after) → Spells s (mark_bytes m ++ more) → more ≡ []
mark_longest marks.LeftParen s more after n sp = single_longest 40 marks.LeftParen s more after refl (λ c _. refl) n sp
mark_longest marks.RightParen s more after n sp = single_longest 41 marks.RightParen s more after refl (λ c _. refl) n sp
mark_longest marks.Comma s more after n sp = single_longest 44 marks.Comma s more after refl (λ c _. refl) n sp
mark_longest marks.Dot s more after n sp = single_longest 46 marks.Dot s more after refl (λ c _. refl) n sp
mark_longest marks.Semicolon s more after n sp = single_longest 59 marks.Semicolon s more after refl (λ c _. refl) n sp
mark_longest marks.Star s more after n sp = single_longest 42 marks.Star s more after refl (λ c _. refl) n sp
mark_longest marks.Plus s more after n sp = single_longest 43 marks.Plus s more after refl (λ c _. refl) n sp
mark_longest marks.Minus s more after n sp = single_longest 45 marks.Minus s more after refl (λ c _. refl) n sp
mark_longest marks.Slash s more after n sp = single_longest 47 marks.Slash s more after refl (λ c _. refl) n sp
mark_longest marks.Percent s more after n sp = single_longest 37 marks.Percent s more after refl (λ c _. refl) n sp
mark_longest marks.Equal s more after n sp = single_longest 61 marks.Equal s more after refl (λ c _. refl) n sp
mark_longest marks.Apart s more after n sp = double_longest 60 62 s more refl sp
mark_longest marks.Below s more after n sp = single_longest 60 marks.Below s more after refl less_single n sp
mark_longest marks.AtMost s more after n sp = double_longest 60 61 s more refl sp
mark_longest marks.Above s more after n sp = single_longest 62 marks.Above s more after refl greater_single n sp
mark_longest marks.AtLeast s more after n sp = double_longest 62 61 s more refl sp

stop_longest : (s : Shape) (raw : List ℕ) (t : Shape) (more after : List ℕ) → Spells s raw → Ends s (more ++ after) → Spells t (raw ++ more) → more ≡ []
stop_longest (word w) [] t more after s e sp = absurd s
stop_longest (word w) (b ∷ bs) t more after s e sp = word_longest b bs t more after s.0 e sp
stop_longest (quoted q) raw t more after s e sp =
    quote_longest 34 q more s.1 (front_without (λ b. b == 34) more after e) (name_closes t _ (subst (λ x. Spells t (x ++ more)) s.0 sp))
stop_longest (literal q) raw t more after s e sp =
    quote_longest 39 q more s.1 (front_without (λ b. b == 39) more after e) (text_closes t _ (subst (λ x. Spells t (x ++ more)) s.0 sp))
stop_longest (number d) [] t more after s e sp = absurd (omega (arith, ap length s.0, (s.1).1))
stop_longest (number d) (b ∷ bs) t more after s e sp = number_longest b bs t more after (opens (number d) b bs s) e sp
stop_longest (mark m) raw t more after (inl s) e sp = mark_longest m t more after e (subst (λ x. Spells t (x ++ more)) s sp)
stop_longest (mark m) raw t more after (inr s) e sp = double_longest 33 61 t more refl (subst (λ x. Spells t (x ++ more)) s.1 sp)

pub longest_of : (s : Shape) (raw rest : List ℕ) → Spells s raw → Ends s rest → IsLongest raw rest
longest_of s raw rest sp e = λ t more after is tp. stop_longest s raw t more after sp (subst (Ends s) is e) tp

joint_start : (c : ℕ) → is_number_joint c ≡ false → is_start c ≡ false
joint_start c h = grind (arith, nat_tests)

pub precedes_of : (s : Shape) (rest : List ℕ) → Ends s rest → MayPrecede s rest
precedes_of (word w) rest e = tt
precedes_of (quoted q) rest e = tt
precedes_of (literal q) rest e = tt
precedes_of (number d) [] e = tt
precedes_of (number d) (c ∷ cs) e = joint_start c e
precedes_of (mark m) rest e = λ is. subst (λ k. Without (joins k) rest) is e

pub lexes_of_cuts : (ts : List Lexeme) (at : ℕ) (text : List ℕ) → Cuts at text ts → Lexes at text ts
lexes_of_cuts [] at text h = h
lexes_of_cuts (t ∷ ts) at text (blanks, raw, more, b, is, s, e, start, end, go) = (
  more,
  record {
    blanks = blanks;
    raw = raw;
    parted = b;
    whole = is;
    spelled = s;
    longest = longest_of t.shape raw more s e;
    apart = precedes_of t.shape more e;
    start = start;
    end = end;
  },
  lexes_of_cuts ts t.end more go,
)
