-- The tokens of a text at their places.
use Rattle.std.proofs.Common.{◌≡◌, ℕ, zero, suc, ◌+◌, ◌-◌, ◌<◌, ◌≤◌, inl, inr, List, [], ◌∷◌, ◌++◌, length, take, drop, get_or, sym, refl, ap, ◌∙◌, subst, arith, append_assoc, length-append}
use Rattle.std.proofs.Math.Seq.{drop-append_seam, drop-append-add, take-append_seam}
use Rattle.std.proofs.lemmas.Bool.Decides.{leb_tells}
use Rattle.std.specs.Prelude.{map}
use Rattle.med_lexer.specs.Printing.{AreShapes}
use Rattle.med_lexer.specs.Lexemes.{Shape, Spells, IsLongest, Lexeme, BeginsWith, Lexes, IsLongestAt}

-- of two fronts of a list one goes on with the other
pub record GoesOn (a b c d : List ℕ) : Type 0 where
  pub more : List ℕ
  pub longer : c ≡ a ++ more
  pub rest : b ≡ more ++ d

goes_on : (a b c d : List ℕ) → a ++ b ≡ c ++ d → length a ≤ length c → GoesOn a b c d
goes_on [] b c d e h = record { more = c; longer = refl; rest = e }
goes_on (x ∷ xs) b [] d e h = absurd (omega arith)
goes_on (x ∷ xs) b (y ∷ ys) d e h =
    let same : x ≡ y = ap (λ l. get_or l 0 x) e in
    let g : GoesOn xs b ys d = goes_on xs b ys d (ap (drop 1) e) (omega arith) in
    record { more = g.more; longer = (λ i. sym same i ∷ g.longer i); rest = g.rest }

no_longer : (raw rest front after : List ℕ) (s : Shape) → IsLongest raw rest → raw ++ rest ≡ front ++ after → Spells s front → length front ≤ length raw
no_longer raw rest front after s long is sp =
    elim (leb_tells (length front) (length raw)) [
      | inl l ↦ l.1
      | inr l ↦ (
          let g : GoesOn raw rest front after = goes_on raw rest front after is (omega (arith, l.1)) in
          let none : g.more ≡ [] = long s g.more after g.rest (subst (Spells s) g.longer sp) in
          omega (arith, ap length g.longer, length-append raw g.more, ap length none)
          )
    ]

-- the token in a text whose first byte is at the place `at`
record IsPlaced (at : ℕ) (text : List ℕ) (t : Lexeme) : Type 0 where
  pub behind : at ≤ t.start
  pub spelled : Spells t.shape (take (t.end - t.start) (drop (t.start - at) text))
  pub longest : (s : Shape) (front after : List ℕ) → drop (t.start - at) text ≡ front ++ after → Spells s front → t.start + length front ≤ t.end

here : (at : ℕ) (text rest : List ℕ) (t : Lexeme) → BeginsWith at text t rest → IsPlaced at text t
here at text rest t f =
    let start : t.start ≡ at + length f.blanks = f.start in
    let end : t.end ≡ t.start + length f.raw = f.end in
    let from : t.start - at ≡ length f.blanks = omega (arith, start) in
    let to : t.end - t.start ≡ length f.raw = omega (arith, end) in
    let found : drop (t.start - at) text ≡ f.raw ++ rest = (λ i. drop (from i) (f.whole i)) ∙ drop-append_seam f.blanks (f.raw ++ rest) in
    let bytes : take (t.end - t.start) (drop (t.start - at) text) ≡ f.raw = (λ i. take (to i) (found i)) ∙ take-append_seam f.raw rest in
    record {
      behind = omega (arith, start);
      spelled = subst (Spells t.shape) (sym bytes) f.spelled;
      longest = λ s front after e fs.
          let short : length front ≤ length f.raw = no_longer f.raw rest front after s f.longest (sym found ∙ e) fs in
          omega (arith, short, end);
    }

covered : (at : ℕ) (text rest : List ℕ) (t : Lexeme) (f : BeginsWith at text t rest) → t.end ≡ at + length (f.blanks ++ f.raw)
covered at text rest t f =
    let start : t.start ≡ at + length f.blanks = f.start in
    let end : t.end ≡ t.start + length f.raw = f.end in
    omega (arith, start, end, length-append f.blanks f.raw)

further : (at end : ℕ) (text front rest : List ℕ) (t : Lexeme) → text ≡ front ++ rest → end ≡ at + length front → IsPlaced end rest t → IsPlaced at text t
further at end text front rest t is e p =
    let b : end ≤ t.start = p.behind in
    let from : t.start - at ≡ length front + (t.start - end) = omega (arith, e, b) in
    let found : drop (t.start - at) text ≡ drop (t.start - end) rest = (λ i. drop (from i) (is i)) ∙ drop-append-add front rest (t.start - end) in
    record {
      behind = omega (arith, e, b);
      spelled = subst (λ x. Spells t.shape (take (t.end - t.start) x)) (sym found) p.spelled;
      longest = λ s start after h fs. p.longest s start after (sym found ∙ h) fs;
    }

placed : (ts : List Lexeme) (at : ℕ) (text : List ℕ) → Lexes at text ts → (k : ℕ) (d : Lexeme) → k < length ts → IsPlaced at text (get_or ts k d)
placed [] at text h k d l = absurd (omega arith)
placed (t ∷ ts) at text (rest, f, go) zero d l = here at text rest t f
placed (t ∷ ts) at text (rest, f, go) (suc k) d l =
    further at t.end text (f.blanks ++ f.raw) rest (get_or ts k d) (f.whole ∙ sym (append_assoc f.blanks f.raw rest)) (covered at text rest t f) (placed ts t.end rest go k d (omega arith))

pub longest_at : (text : List ℕ) (ts : List Lexeme) → Lexes 0 text ts → (k : ℕ) (d : Lexeme) → k < length ts → IsLongestAt text (get_or ts k d)
longest_at text ts h k d l =
    let p : IsPlaced 0 text (get_or ts k d) = placed ts 0 text h k d l in
    let same : (get_or ts k d).start - 0 ≡ (get_or ts k d).start = omega arith in
    record {
      spelled = subst (λ n. Spells (get_or ts k d).shape (take ((get_or ts k d).end - (get_or ts k d).start) (drop n text))) same p.spelled;
      longest = λ s raw rest e sp. p.longest s raw rest (ap (λ n. drop n text) same ∙ e) sp;
    }

-- what the tokens of a text say, some bytes spell
pub shapes_spelled : (ts : List Lexeme) (at : ℕ) (text : List ℕ) → Lexes at text ts → AreShapes (map (λ t. t.shape) ts)
shapes_spelled [] at text h = tt
shapes_spelled (t ∷ ts) at text (rest, f, go) = ((f.raw, f.spelled), shapes_spelled ts t.end rest go)
