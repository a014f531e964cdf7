-- The loop over the text.
use Rattle.std.proofs.Common.{◌≡◌, ℕ, zero, suc, ◌+◌, ◌-◌, ◌<◌, ◌≤◌, List, [], ◌∷◌, ◌++◌, length, sym, refl, ap, ◌∙◌, arith, append_assoc}
use Rattle.std.specs.Prelude.{Option, Some, None, option_map, Result, Ok, Err, Vec}
use Rattle.med_lexer.specs.declared.Token.{Token}
use Rattle.med_lexer.specs.declared.error.LexFault.{LexFault}
use Rattle.med_lexer.specs.declared.error.LexFault.TheVariants.{NoMemory, BadToken}
use Rattle.med_lexer.specs.Lexemes.{Shape, Lexeme}
use Rattle.med_lexer.specs.Cutting.{Next, done, blank, token, bad, next, continued, lex}
use Rattle.med_lexer.specs.View.{view, views, Tokens}
use Rattle.med_lexer.specs.Steps.{Steps, GivesLexed}
use Rattle.med_lexer.proofs.Tells.{next_shorter, blank_shorter}
use Rattle.med_lexer.proofs.Stops.{lexes_of_lex, none_of_lex}

abbrev pub after_these : List Lexeme → Option (List Lexeme) → Option (List Lexeme)
after_these ts o = option_map (λ us. ts ++ us) o

-- ts are the tokens of the front of the text
pub record CutLoop (text : List ℕ) (ts : List Lexeme) (rest : List ℕ) : Type 0 where
  pub k : ℕ
  pub enough : length rest < k
  pub short : length rest ≤ length text
  pub same : lex (suc (length text)) 0 text ≡ after_these ts (lex k (length text - length rest) rest)

lex_at : (k at : ℕ) (rest : List ℕ) (n : Next) → next rest ≡ n → lex (suc k) at rest ≡ continued at rest (lex k) n
unfolding lex
lex_at k at rest n h = rw h refl

one_more : (ts : List Lexeme) (t : Lexeme) (o : Option (List Lexeme)) → after_these ts (option_map (λ us. t ∷ us) o) ≡ after_these (ts ++ t ∷ []) o
one_more ts t None = refl
one_more ts t (Some us) = ap Some (sym (append_assoc ts (t ∷ []) us))

token_at : (text : List ℕ) (ts : List Lexeme) (rest : List ℕ) (s : Shape) (after : List ℕ) (start end k : ℕ) → length rest < k → length rest ≤ length text → lex (suc (length text)) 0 text ≡ after_these ts (lex k (length text - length rest) rest) →
    next rest ≡ token s after → start ≡ length text - length rest → end ≡ length text - length after → CutLoop text (ts ++ record { shape = s; start = start; end = end } ∷ []) after
token_at text ts rest s after start end zero enough short same n a b = absurd (omega arith)
token_at text ts rest s after start end (suc k) enough short same n a b =
    let l = next_shorter rest s after n in
    let e : (length text - length rest) + (length rest - length after) ≡ end = omega arith in
    let go : lex (suc k) (length text - length rest) rest ≡ option_map (λ us. record { shape = s; start = start; end = end } ∷ us) (lex k (length text - length after) after) =
    lex_at k (length text - length rest) rest (token s after) n ∙ (rw e (rw (← a) (rw (← b) refl))) in
    record {
      k = k;
      enough = omega arith;
      short = omega arith;
      same = same ∙ ap (after_these ts) go ∙ one_more ts (record { shape = s; start = start; end = end }) (lex k (length text - length after) after);
    }

pub cut_token : (text : List ℕ) (ts : List Lexeme) (rest : List ℕ) (s : Shape) (after : List ℕ) (start end : ℕ) → CutLoop text ts rest → next rest ≡ token s after → start ≡ length text - length rest → end ≡ length text - length after → CutLoop text (ts ++ record { shape = s; start = start; end = end } ∷ []) after
cut_token text ts rest s after start end loop n a b = token_at text ts rest s after start end loop.k loop.enough loop.short loop.same n a b

blank_at : (text : List ℕ) (ts : List Lexeme) (rest after : List ℕ) (k : ℕ) → length rest < k → length rest ≤ length text → lex (suc (length text)) 0 text ≡ after_these ts (lex k (length text - length rest) rest) → next rest ≡ blank after → CutLoop text ts after
blank_at text ts rest after zero enough short same n = absurd (omega arith)
blank_at text ts rest after (suc k) enough short same n =
    let l = blank_shorter rest after n in
    let e : (length text - length rest) + 1 ≡ length text - length after = omega arith in
    record {
      k = k;
      enough = omega arith;
      short = omega arith;
      same = same ∙ ap (after_these ts) (lex_at k (length text - length rest) rest (blank after) n) ∙ ap (λ m. after_these ts (lex k m after)) e;
    }

pub cut_blank : (text : List ℕ) (ts : List Lexeme) (rest after : List ℕ) → CutLoop text ts rest → next rest ≡ blank after → CutLoop text ts after
cut_blank text ts rest after loop n = blank_at text ts rest after loop.k loop.enough loop.short loop.same n

append-nothing : (ts : List Lexeme) → ts ++ [] ≡ ts
append-nothing [] = refl
append-nothing (t ∷ ts) = ap (λ y. t ∷ y) (append-nothing ts)

done_at : (text : List ℕ) (ts : List Lexeme) (rest : List ℕ) (k : ℕ) → length rest < k → lex (suc (length text)) 0 text ≡ after_these ts (lex k (length text - length rest) rest) → next rest ≡ done → lex (suc (length text)) 0 text ≡ Some ts
done_at text ts rest zero enough same n = absurd (omega arith)
done_at text ts rest (suc k) enough same n = same ∙ ap (after_these ts) (lex_at k (length text - length rest) rest done n) ∙ ap Some (append-nothing ts)

pub cut_done : (text : List ℕ) (ts : List Lexeme) (rest : List ℕ) → CutLoop text ts rest → next rest ≡ done → lex (suc (length text)) 0 text ≡ Some ts
cut_done text ts rest loop n = done_at text ts rest loop.k loop.enough loop.same n

bad_at : (text : List ℕ) (ts : List Lexeme) (rest : List ℕ) (k : ℕ) → length rest < k → lex (suc (length text)) 0 text ≡ after_these ts (lex k (length text - length rest) rest) → next rest ≡ bad → lex (suc (length text)) 0 text ≡ None
bad_at text ts rest zero enough same n = absurd (omega arith)
bad_at text ts rest (suc k) enough same n = same ∙ ap (after_these ts) (lex_at k (length text - length rest) rest bad n)

pub cut_bad : (text : List ℕ) (ts : List Lexeme) (rest : List ℕ) → CutLoop text ts rest → next rest ≡ bad → lex (suc (length text)) 0 text ≡ None
cut_bad text ts rest loop n = bad_at text ts rest loop.k loop.enough loop.same n

pub views_push : (xs : List Token) (x : Token) → views (xs ++ x ∷ []) ≡ views xs ++ view x ∷ []
views_push [] x = refl
views_push (y ∷ ys) x = ap (λ z. view y ∷ z) (views_push ys x)

pub is_tokens : {A : Type 0} (text : List ℕ) (r : Result (Vec Token A) LexFault) → GivesLexed (λ v. views v.items) r (lex (suc (length text)) 0 text) → Tokens r text
is_tokens text (Ok v) h = lexes_of_lex (suc (length text)) 0 text (views v.items) h
is_tokens text (Err NoMemory) h = tt
is_tokens text (Err BadToken) h = λ ts x. none_of_lex text ts h x

pub cut_failed : {A : Type 0} (text : List ℕ) (ts : List Lexeme) (rest : List ℕ) (e : LexFault) (r : Result (Vec Token A) LexFault) → CutLoop text ts rest → Steps (Err e) (next rest) → r ≡ Err e → GivesLexed (λ v. views v.items) r (lex (suc (length text)) 0 text)
cut_failed text ts rest NoMemory r loop n is = rw is tt
cut_failed text ts rest BadToken r loop n is = rw is (cut_bad text ts rest loop n)
