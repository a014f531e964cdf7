-- How far the replay of a script has come.
use Rattle.std.proofs.Common.{◌≡◌, ◌<◌, ◌≤◌, ℕ, ◌+◌, suc, Bool, false, not, cond, List, [], ◌∷◌, ◌++◌, length, map, Option, Some, None, Ok, Err, Bor, refl, sym, ap, ◌∙◌, subst, arith, append_assoc, append-nil, length-append}
use Rattle.std.specs.List.{filter, enumerate_from}
use Rattle.std.specs.Option.{MatchOption}
use Rattle.std.proofs.lemmas.List.{map-append}
use Rattle.med_session.specs.Requests.{AskedLine, opening, sql}
use Rattle.fed_setup.specs.Scripts.{Numbered, lines_parted, is_blank, has_statement, statement_lines}
use Rattle.fed_setup.specs.Replays.{Answers, requests_of, IsDone, AreDone, Ends, Runs}
use Rattle.fed_setup.specs.declared.script.ScriptFault.{ScriptFault}
use Rattle.fed_setup.proofs.Done.{done_more}

-- the statements behind the line of this number
abbrev pub left : ℕ → Option (Bor (List ℕ)) → List Numbered
left number None = []
left number (Some text) = filter has_statement (enumerate_from (number + 1) (lines_parted text.now))

-- how much text is left
abbrev pub size : Option (Bor (List ℕ)) → ℕ
size None = 0
size (Some text) = suc (length text.now)

-- some statements are done, and counted, and these are left
pub record Reached {W : Type 0} (step : Answers W) (old : W) (owner script : List ℕ) (new : W) (number count : ℕ) (rest : Option (Bor (List ℕ))) : Type 0 where
  pub lines : List Numbered
  pub split : statement_lines script ≡ lines ++ left number rest
  pub run : AreDone step old (requests_of owner lines) new
  pub counted : count ≡ length lines
  pub within : number + size rest ≤ length script + 1
  pub fewer : count ≤ number

-- what `next_line` says
abbrev pub IsCut : List ℕ → List ℕ → Option (Bor (List ℕ)) → Type 0
IsCut text line after = MatchOption after (lines_parted text ≡ line ∷ []) (λ a. (lines_parted text ≡ line ∷ lines_parted a.now) × (length a.now < length text))

cut_left : (number : ℕ) (text line : List ℕ) (after : Option (Bor (List ℕ))) → IsCut text line after
    → filter has_statement (enumerate_from (number + 1) (lines_parted text)) ≡ cond (has_statement (number + 1, line)) ((number + 1, line) ∷ left (number + 1) after) (left (number + 1) after)
cut_left number text line None h = ap (λ ls. filter has_statement (enumerate_from (number + 1) ls)) h
cut_left number text line (Some a) h = ap (λ ls. filter has_statement (enumerate_from (number + 1) ls)) h.0

cut_size : (text line : List ℕ) (after : Option (Bor (List ℕ))) → IsCut text line after → size after ≤ length text
cut_size text line None h = omega arith
cut_size text line (Some a) h = omega (arith, h.1)

smaller : (number n m l : ℕ) → number + suc n ≤ l + 1 → m ≤ n → number + 1 + m ≤ l + 1
smaller number n m l h k = omega arith

-- the next statement is the first that is left
next_left : {W : Type 0} (step : Answers W) (old : W) (owner script : List ℕ) (new : W) (number count : ℕ) (text : Bor (List ℕ)) (line : List ℕ) (after : Option (Bor (List ℕ)))
    → (h : Reached step old owner script new number count (Some text)) → IsCut text.now line after → is_blank line ≡ false
    → statement_lines script ≡ h.lines ++ ((number + 1, line) ∷ left (number + 1) after)
next_left step old owner script new number count text line after h cut filled =
    h.split ∙ ap (λ ls. h.lines ++ ls) (cut_left number text.now line after cut ∙ ap (λ b. cond (not b) ((number + 1, line) ∷ left (number + 1) after) (left (number + 1) after)) filled)

requests_more : (owner : List ℕ) (lines more : List Numbered) → requests_of owner (lines ++ more) ≡ requests_of owner lines ++ map (λ (l : Numbered). let r : ℕ × AskedLine = (l.0, sql l.1) in r) more
requests_more owner lines more = ap (λ rs. (0, opening owner) ∷ rs) (map-append (λ (l : Numbered). let r : ℕ × AskedLine = (l.0, sql l.1) in r) lines more)

-- a statement is done
pub done_next : {W : Type 0} (step : Answers W) (old : W) (owner script : List ℕ) (mid new : W) (number count : ℕ) (text : Bor (List ℕ)) (line : List ℕ) (after : Option (Bor (List ℕ)))
    → Reached step old owner script mid number count (Some text) → IsCut text.now line after → is_blank line ≡ false → IsDone step mid (sql line) new
    → Reached step old owner script new (number + 1) (count + 1) after
done_next step old owner script mid new number count text line after h cut filled done = record {
  lines = h.lines ++ (number + 1, line) ∷ [];
  split = next_left step old owner script mid number count text line after h cut filled ∙ sym (append_assoc h.lines ((number + 1, line) ∷ []) (left (number + 1) after));
  run = subst (λ rs. AreDone step old rs new) (sym (requests_more owner h.lines ((number + 1, line) ∷ [])))
      (done_more step old (requests_of owner h.lines) mid (number + 1, sql line) new h.run done);
  counted = (let n : length (h.lines ++ (number + 1, line) ∷ []) ≡ length h.lines + 1 = length-append h.lines ((number + 1, line) ∷ []) in omega (arith, n, h.counted));
  within = smaller number (length text.now) (size after) (length script) h.within (cut_size text.now line after cut);
  fewer = omega (arith, h.fewer);
}

-- a statement ends the replay
pub ends_next : {W : Type 0} (step : Answers W) (old : W) (owner script : List ℕ) (mid new : W) (number count : ℕ) (text : Bor (List ℕ)) (line : List ℕ) (after : Option (Bor (List ℕ))) (why : ScriptFault)
    → Reached step old owner script mid number count (Some text) → IsCut text.now line after → is_blank line ≡ false → Ends step mid (number + 1, sql line) why new
    → Runs step old owner (statement_lines script) (Err why) new
ends_next step old owner script mid new number count text line after why h cut filled ends = record {
  before = requests_of owner h.lines;
  request = (number + 1, sql line);
  after = map (λ (l : Numbered). let r : ℕ × AskedLine = (l.0, sql l.1) in r) (left (number + 1) after);
  are = ap (requests_of owner) (next_left step old owner script mid number count text line after h cut filled) ∙ requests_more owner h.lines ((number + 1, line) ∷ left (number + 1) after);
  mid = mid;
  done = h.run;
  ends = ends;
}

-- the opening does
pub ends_first : {W : Type 0} (step : Answers W) (old : W) (owner : List ℕ) (lines : List Numbered) (new : W) (why : ScriptFault)
    → Ends step old (0, opening owner) why new → Runs step old owner lines (Err why) new
ends_first step old owner lines new why ends = record {
  before = [];
  request = (0, opening owner);
  after = map (λ (l : Numbered). let r : ℕ × AskedLine = (l.0, sql l.1) in r) lines;
  are = refl;
  mid = old;
  done = refl;
  ends = ends;
}

-- the session is open, and no line was read
pub opened : {W : Type 0} (step : Answers W) (old : W) (owner : List ℕ) (script : Bor (List ℕ)) (new : W) → IsDone step old (opening owner) new
    → Reached step old owner script.now new 0 0 (Some script)
opened step old owner script new done = record {
  lines = [];
  split = refl;
  run = (new, done, refl);
  counted = refl;
  within = omega arith;
  fewer = omega arith;
}

-- all lines were read
pub all_done : {W : Type 0} (step : Answers W) (old : W) (owner script : List ℕ) (new : W) (number count : ℕ)
    → Reached step old owner script new number count None → Runs step old owner (statement_lines script) (Ok count) new
all_done step old owner script new number count h =
    let same : statement_lines script ≡ h.lines = h.split ∙ append-nil h.lines in
    (subst (λ ls. AreDone step old (requests_of owner ls) new) (sym same) h.run, h.counted ∙ ap length (sym same))

-- a line of which the test says that it is not blank
pub filled : (b blank : Bool) → b ≡ blank → b ≡ false → blank ≡ false
filled b blank e h = sym e ∙ h

-- the rest is known
pub reached_at : {W : Type 0} {step : Answers W} {old : W} {owner script : List ℕ} {new : W} {number count : ℕ} {rest at : Option (Bor (List ℕ))}
    → Reached step old owner script new number count rest → rest ≡ at → Reached step old owner script new number count at
reached_at {step = step} {old = old} {owner = owner} {script = script} {new = new} {number = number} {count = count} h e =
    subst (λ r. Reached step old owner script new number count r) e h
