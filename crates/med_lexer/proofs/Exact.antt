-- The tokens of a text are cut by the list lexer.
use Rattle.std.proofs.Common.{◌≡◌, ℕ, zero, suc, ◌+◌, ◌-◌, ◌<◌, inl, inr, List, [], ◌∷◌, ◌++◌, length, sym, refl, ap, ◌∙◌, arith, append_assoc, append-nil, length-append}
use Rattle.std.specs.Prelude.{Bool, true, false, cond, ◌==◌, Option, Some, None}
use Rattle.std.specs.Char.{is_ascii_digit}
use Rattle.std.proofs.lemmas.Bool.Decides.{nat_tests}
use Rattle.med_lexer.specs.declared.Mark.{Mark}
use Rattle.med_lexer.specs.declared.Mark.TheVariants as marks
use Rattle.med_lexer.specs.Lexemes.{is_blank, is_start, is_part, is_text, Every, Without, doubled, Shape, word, quoted, literal, number, mark, mark_bytes, Spells, IsEnd, Lexeme}
use Rattle.med_lexer.specs.Cutting.{done, blank, token, run, ahead, quote, number_as, comment_next, next, lex}
use Rattle.med_lexer.proofs.Cuts.{joins, is_number_joint, Ends, Cuts}
use Rattle.med_lexer.proofs.Runs.{run_again}
use Rattle.med_lexer.proofs.Quoting.{quote_step}

-- ---- a token that stands at the front is cut

pub same_is : (q : ℕ) → (q == q) ≡ true
same_is q = grind (arith, nat_tests)

pub is_same : (b q : ℕ) → (b == q) ≡ true → b ≡ q
is_same b q h = grind (arith, nat_tests)

quote_end : (q : ℕ) (rest : List ℕ) → Without (λ b. b == q) rest → quote q (q ∷ rest) ≡ Some ([], rest)
quote_end q [] n = rw (same_is q) refl
quote_end q (c ∷ cs) n = rw (same_is q) (rw n refl)

quote_both : (q : ℕ) (rest : List ℕ) → quote q (q ∷ q ∷ rest) ≡ ahead (q ∷ []) (quote q rest)
quote_both q rest = rw (same_is q) refl

pub quote_again : (q : ℕ) (w rest : List ℕ) → Every is_text w → Without (λ b. b == q) rest → quote q (doubled q w ++ q ∷ rest) ≡ Some (w, rest)
quote_again q [] rest e n = quote_end q rest n
quote_again q (b ∷ bs) rest e n =
    let go : (v : Bool) → (b == q) ≡ v → quote q (cond v (q ∷ q ∷ doubled q bs) (b ∷ doubled q bs) ++ q ∷ rest) ≡ Some (b ∷ bs, rest) = elim [
      | true ↦ (λ is. quote_both q (doubled q bs ++ q ∷ rest) ∙ ap (ahead (q ∷ [])) (quote_again q bs rest e.1 n) ∙ ap (λ y. Some (y ∷ bs, rest)) (sym (is_same b q is)))
      | false ↦ (λ is. quote_step q b (doubled q bs ++ q ∷ rest) is e.0 ∙ ap (ahead (b ∷ [])) (quote_again q bs rest e.1 n))
    ]
    in go (b == q) refl

start_not_blank : (b : ℕ) → is_start b ≡ true → is_blank b ≡ false
start_not_blank b h = grind (arith, nat_tests)

pub start_part : (b : ℕ) → is_start b ≡ true → is_part b ≡ true
start_part b h = grind (arith, nat_tests)

digit_not_blank : (b : ℕ) → is_ascii_digit b ≡ true → is_blank b ≡ false
digit_not_blank b h = grind (arith, nat_tests)

digit_not_start : (b : ℕ) → is_ascii_digit b ≡ true → is_start b ≡ false
digit_not_start b h = grind (arith, nat_tests)

joint_digit : (b : ℕ) → is_number_joint b ≡ false → is_ascii_digit b ≡ false
joint_digit b h = grind (arith, nat_tests)

joint_start : (b : ℕ) → is_number_joint b ≡ false → is_start b ≡ false
joint_start b h = grind (arith, nat_tests)

next_blank : (b : ℕ) (rest : List ℕ) → is_blank b ≡ true → next (b ∷ rest) ≡ blank rest
unfolding next
next_blank b rest h = rw h refl

number_ends : (d rest : List ℕ) → Without is_number_joint rest → number_as d rest ≡ token (number d) rest
number_ends d [] n = refl
number_ends d (c ∷ cs) n = rw (joint_start c n) refl

no_digit : (rest : List ℕ) → Without is_number_joint rest → Without is_ascii_digit rest
no_digit [] n = tt
no_digit (c ∷ cs) n = joint_digit c n

single_mark : (m : Mark) (raw rest : List ℕ) → raw ≡ mark_bytes m → Without (joins m) rest → next (raw ++ rest) ≡ token (mark m) rest
unfolding next
single_mark marks.LeftParen raw rest s e = rw s refl
single_mark marks.RightParen raw rest s e = rw s refl
single_mark marks.Comma raw rest s e = rw s refl
single_mark marks.Dot raw rest s e = rw s refl
single_mark marks.Semicolon raw rest s e = rw s refl
single_mark marks.Star raw rest s e = rw s refl
single_mark marks.Plus raw rest s e = rw s refl
single_mark marks.Minus raw [] s e = rw s refl
single_mark marks.Minus raw (c ∷ cs) s e = rw s (rw e refl)
single_mark marks.Slash raw rest s e = rw s refl
single_mark marks.Percent raw rest s e = rw s refl
single_mark marks.Equal raw rest s e = rw s refl
single_mark marks.Apart raw rest s e = rw s refl
single_mark marks.Below raw [] s e = rw s refl
single_mark marks.Below raw (c ∷ cs) s e =
    let p : (c == 62) ≡ false = grind (arith, nat_tests) in
    let q : (c == 61) ≡ false = grind (arith, nat_tests) in
    rw s (rw p (rw q refl))
single_mark marks.AtMost raw rest s e = rw s refl
single_mark marks.Above raw [] s e = rw s refl
single_mark marks.Above raw (c ∷ cs) s e = rw s (rw e refl)
single_mark marks.AtLeast raw rest s e = rw s refl

other_mark : (m : Mark) (raw rest : List ℕ) → m ≡ marks.Apart → raw ≡ 33 ∷ 61 ∷ [] → next (raw ++ rest) ≡ token (mark m) rest
unfolding next
other_mark m raw rest d s = rw (s, d) refl

next_token : (s : Shape) (raw rest : List ℕ) → Spells s raw → Ends s rest → next (raw ++ rest) ≡ token s rest
unfolding next
next_token (word w) [] rest s e = absurd s
next_token (word w) (b ∷ bs) rest s e =
    rw (start_not_blank b s.0) (rw s.0 (rw (run_again is_part bs rest s.1 e) (rw s.2 refl)))
next_token (quoted []) raw rest s e = absurd (omega (arith, s.2))
next_token (quoted (b ∷ bs)) raw rest s e =
    rw s.0 (rw (append_assoc (doubled 34 (b ∷ bs)) (34 ∷ []) rest) (rw (quote_again 34 (b ∷ bs) rest s.1 e) refl))
next_token (literal q) raw rest s e =
    rw s.0 (rw (append_assoc (doubled 39 q) (39 ∷ []) rest) (rw (quote_again 39 q rest s.1 e) refl))
next_token (number []) raw rest s e = absurd (omega (arith, (s.1).1))
next_token (number (b ∷ bs)) raw rest s e =
    rw s.0 (rw (digit_not_blank b ((s.1).0).0) (rw (digit_not_start b ((s.1).0).0) (rw ((s.1).0).0 (rw (run_again is_ascii_digit bs rest ((s.1).0).1 (no_digit rest e)) (number_ends (b ∷ bs) rest e)))))
next_token (mark m) raw rest (inl s) e = single_mark m raw rest s e
next_token (mark m) raw rest (inr s) e = other_mark m raw rest s.0 s.1

next_comment : (rest : List ℕ) → IsEnd rest → next rest ≡ done
unfolding next
next_comment [] h = refl
next_comment (b ∷ []) h = absurd h
next_comment (b ∷ c ∷ cs) h =
    let all : Every is_text (45 ∷ 45 ∷ cs) = (refl, (refl, h.2)) in
    let go : run is_text (45 ∷ 45 ∷ cs) ≡ (45 ∷ 45 ∷ cs, []) = ap (run is_text) (sym (append-nil (45 ∷ 45 ∷ cs))) ∙ run_again is_text (45 ∷ 45 ∷ cs) [] all tt in
    rw (h.0, h.1) (ap comment_next go)

mark_length : (m : Mark) → 0 < length (mark_bytes m)
mark_length marks.LeftParen = omega arith
mark_length marks.RightParen = omega arith
mark_length marks.Comma = omega arith
mark_length marks.Dot = omega arith
mark_length marks.Semicolon = omega arith
mark_length marks.Star = omega arith
mark_length marks.Plus = omega arith
mark_length marks.Minus = omega arith
mark_length marks.Slash = omega arith
mark_length marks.Percent = omega arith
mark_length marks.Equal = omega arith
mark_length marks.Apart = omega arith
mark_length marks.Below = omega arith
mark_length marks.AtMost = omega arith
mark_length marks.Above = omega arith
mark_length marks.AtLeast = omega arith

pub some_bytes : (s : Shape) (raw : List ℕ) → Spells s raw → 0 < length raw
some_bytes (word w) [] s = absurd s
some_bytes (word w) (b ∷ bs) s = omega arith
some_bytes (quoted q) raw s = omega (arith, ap length s.0)
some_bytes (literal q) raw s = omega (arith, ap length s.0)
some_bytes (number d) raw s = omega (arith, ap length s.0)
some_bytes (mark m) raw (inl s) = omega (arith, ap length s, mark_length m)
some_bytes (mark m) raw (inr s) = omega (arith, ap length s.1)

-- ---- the whole text

lex_end : (blanks rest : List ℕ) (k at : ℕ) → Every is_blank blanks → IsEnd rest → length (blanks ++ rest) < k → lex k at (blanks ++ rest) ≡ Some []
unfolding lex
lex_end blanks rest zero at b r h = absurd (omega arith)
lex_end [] rest (suc k) at b r h = rw (next_comment rest r) refl
lex_end (c ∷ cs) rest (suc k) at b r h = rw (next_blank c (cs ++ rest) b.0) (lex_end cs rest k (at + 1) b.1 r (omega arith))

lex_token : (blanks raw rest : List ℕ) (t : Lexeme) (ts : List Lexeme) (k at : ℕ) → Every is_blank blanks → Spells t.shape raw → Ends t.shape rest → t.start ≡ at + length blanks → t.end ≡ t.start + length raw → length (blanks ++ (raw ++ rest)) < k →
    ((j : ℕ) → length rest < j → lex j t.end rest ≡ Some ts) → lex k at (blanks ++ (raw ++ rest)) ≡ Some (t ∷ ts)
unfolding lex
lex_token blanks raw rest t ts zero at b s e start end h more = absurd (omega arith)
lex_token [] raw rest t ts (suc k) at b s e start end h more =
    let here : t.start ≡ at = omega arith in
    let there : at + (length (raw ++ rest) - length rest) ≡ t.end = omega (arith, length-append raw rest) in
    let read : lex k t.end rest ≡ Some ts = more k (omega (arith, length-append raw rest, some_bytes t.shape raw s)) in
    rw (next_token t.shape raw rest s e) (rw there (rw read (rw (← here) refl)))
lex_token (c ∷ cs) raw rest t ts (suc k) at b s e start end h more =
    rw (next_blank c (cs ++ (raw ++ rest)) b.0) (lex_token cs raw rest t ts k (at + 1) b.1 s e (omega arith) end (omega arith) more)

pub lexes_again : (ts : List Lexeme) (k at : ℕ) (text : List ℕ) → Cuts at text ts → length text < k → lex k at text ≡ Some ts
lexes_again [] k at text (blanks, rest, b, is, r) h = rw is (lex_end blanks rest k at b r (omega (arith, ap length is)))
lexes_again (t ∷ ts) k at text (blanks, raw, rest, b, is, s, e, start, end, more) h =
    rw is (lex_token blanks raw rest t ts k at b s e start end (omega (arith, ap length is)) (λ j l. lexes_again ts j t.end rest more l))

-- A text is at most one list of tokens.
pub one_list_cut : (at : ℕ) (text : List ℕ) (ts us : List Lexeme) → Cuts at text ts → Cuts at text us → ts ≡ us
one_list_cut at text ts us x y =
    let p = lexes_again ts (suc (length text)) at text x (omega arith) in
    let q = lexes_again us (suc (length text)) at text y (omega arith) in
    cc

pub some_same : {A : Type 0} (x y : A) → ◌≡◌ {A = Option A} (Some x) (Some y) → x ≡ y
some_same x y h = cc

pub lex_none : (text : List ℕ) (ts : List Lexeme) → lex (suc (length text)) 0 text ≡ None → Cuts 0 text ts → ⊥
lex_none text ts h x = let e = lexes_again ts (suc (length text)) 0 text x (omega arith) in let bad : ◌≡◌ {A = Option (List Lexeme)} None (Some ts) = sym h ∙ e in cc
