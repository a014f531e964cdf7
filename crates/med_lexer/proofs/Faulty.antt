-- Where the tokens of a text come to no end there is a fault.
use Rattle.std.proofs.Common.{◌≡◌, ℕ, zero, suc, ◌+◌, ◌-◌, ◌<◌, List, [], ◌∷◌, length, sym, refl, ap, ◌∙◌, subst, arith, length-append}
use Rattle.std.specs.Prelude.{true, Option, Some, None, option_map}
use Rattle.med_lexer.specs.Lexemes.{is_blank, Lexeme, Lexes}
use Rattle.med_lexer.specs.Faults.{Begins, IsFaulty}
use Rattle.med_lexer.specs.Cutting.{Next, done, blank, token, bad, next, continued, lex}
use Rattle.med_lexer.proofs.Tells.{TellsNext, next_tells}
use Rattle.med_lexer.proofs.Exact.{some_bytes}
use Rattle.med_lexer.proofs.Maximal.{longest_of, precedes_of}
use Rattle.med_lexer.proofs.Stops.{lexes_of_lex}

begins_behind_blank : (at b : ℕ) (bs rest : List ℕ) (ts : List Lexeme) → is_blank b ≡ true → Begins (at + 1) bs ts rest → Begins at (b ∷ bs) ts rest
begins_behind_blank at b bs rest [] h (blanks, e, is) = (b ∷ blanks, (h, e), ap (λ y. b ∷ y) is)
begins_behind_blank at b bs rest (t ∷ ts) h (more, f, go) =
    let start : t.start ≡ (at + 1) + length f.blanks = f.start in (
      more,
      record {
        blanks = b ∷ f.blanks;
        raw = f.raw;
        parted = (h, f.parted);
        whole = ap (λ y. b ∷ y) f.whole;
        spelled = f.spelled;
        longest = f.longest;
        apart = f.apart;
        start = omega (arith, start);
        end = f.end;
      },
      go,
    )

map_none : (o : Option (List Lexeme)) (t : Lexeme) → option_map (λ ts. t ∷ ts) o ≡ None → o ≡ None
map_none None t h = refl
map_none (Some ts) t h = absurd (cc)

faulty_front : (k at : ℕ) (text : List ℕ) (n : Next) → TellsNext text n → length text < suc k → ((place : ℕ) (rest : List ℕ) → length rest < k → lex k place rest ≡ None → IsFaulty place rest) →
    continued at text (lex k) n ≡ None → IsFaulty at text
faulty_front k at text done tells l ih h = absurd (cc)
faulty_front k at text (blank rest) tells l ih h =
    let short : length rest < k = omega (arith, ap length tells.1) in
    let f : IsFaulty (at + 1) rest = ih (at + 1) rest short h in
    record {
      tokens = f.tokens;
      rest = f.rest;
      begins = subst (λ x. Begins at x f.tokens f.rest) (sym tells.1) (begins_behind_blank at tells.0 rest f.rest f.tokens tells.2 f.begins);
      fault = f.fault;
    }
faulty_front k at text (token s rest) tells l ih h =
    let end : ℕ = at + (length text - length rest) in
    let t : Lexeme = record { shape = s; start = at; end = end } in
    let size : length text ≡ length tells.raw + length rest = ap length tells.whole ∙ length-append tells.raw rest in
    let f : IsFaulty end rest = ih end rest (omega (arith, size, some_bytes s tells.raw tells.spells)) (map_none (lex k end rest) t h) in
    record {
      tokens = t ∷ f.tokens;
      rest = f.rest;
      begins = (
        rest,
        record {
          blanks = [];
          raw = tells.raw;
          parted = tt;
          whole = tells.whole;
          spelled = tells.spells;
          longest = longest_of s tells.raw rest tells.spells tells.ends;
          apart = precedes_of s rest tells.ends;
          start = omega arith;
          end = omega (arith, size);
        },
        f.begins,
      );
      fault = f.fault;
    }
faulty_front k at text bad tells l ih h = record { tokens = []; rest = text; begins = ([], tt, refl); fault = tells }

faulty : (k at : ℕ) (text : List ℕ) → length text < k → lex k at text ≡ None → IsFaulty at text
unfolding lex
faulty zero at text l h = absurd (omega arith)
faulty (suc k) at text l h = faulty_front k at text (next text) (next_tells text) l (faulty k) h

pub why : (text : List ℕ) → ((ts : List Lexeme) → Lexes 0 text ts → ⊥) → IsFaulty 0 text
why text none =
    let go : (o : Option (List Lexeme)) → lex (suc (length text)) 0 text ≡ o → IsFaulty 0 text = elim [
      | None ↦ (λ h. faulty (suc (length text)) 0 text (omega arith) h)
      | Some ts ↦ (λ h. absurd (none ts (lexes_of_lex (suc (length text)) 0 text ts h)))
    ]
    in go (lex (suc (length text)) 0 text) refl
