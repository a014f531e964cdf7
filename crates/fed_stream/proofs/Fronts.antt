-- Fronts of texts that are written one behind the other.
use Rattle.std.proofs.Common.{◌≡◌, ◌≤◌, ◌+◌, ℕ, List, [], ◌∷◌, ◌++◌, length, Option, Result, Ok, Err, refl, sym, ap, ◌∙◌, subst, append_assoc, append-nil, arith}
use Rattle.std.specs.Borrow.{Bor}
use Rattle.std.proofs.KnownBytes.{Appends-nil, Appends-trans}
use Rattle.fed_stream.specs.Outlets.{Outlet, Does, WritesFront, FrontWritten, faults_at_last}
use Rattle.fed_stream.proofs.Known.{known_self, known_then}
use Rattle.fed_stream.proofs.Counts.{does_nothing, does_more}
use Rattle.fed_stream.specs.Parts.{joined}
use Rattle.fed_stream.specs.declared.source.GivenUp.{GivenUp}

-- nothing is to be written
nothing_written : (T : Type 0) (x : T) (a : Outlet) → WritesFront {T = T} a a (Ok x) []
nothing_written T x a = record { times = 0; does = does_nothing a; flushed = refl; too_many = λ e. absurd (cc e) }

pub front_nothing : {T : Type 0} (x : T) (held : Option (List ℕ)) (old : Option Outlet) → FrontWritten held held old old (Ok x) []
front_nothing {T} x held old = record { front = []; others = []; parts = refl; whole = refl; written = Appends-nil held; done = known_self old _ (nothing_written T x) }

-- all of one text and a front of the next
fronts_met : {S T : Type 0} (x : S) (result : Result T GivenUp) (first next : List ℕ) (a b c : Outlet) → WritesFront a b (Ok x) first → WritesFront b c result next → WritesFront a c result (first ++ next)
fronts_met x result first next a b c p q = record {
  times = q.times + p.times;
  does =
      (let none : faults_at_last result + 0 ≡ faults_at_last result = omega arith in
      subst (λ n. Does a c (first ++ next) (q.times + p.times) n) none (does_more a b c first next p.times q.times 0 (faults_at_last result) p.does q.does));
  flushed = q.flushed ∙ p.flushed;
  too_many = λ e. (let most : 4294967295 ≤ q.times = q.too_many e in omega (arith, most));
}

-- the text of one is its front
all_of : (text front others : List ℕ) → text ≡ front ++ others → others ≡ [] → text ≡ front
all_of text front others e none = e ∙ ap (λ l. front ++ l) none ∙ append-nil front

pub front_then : {S T : Type 0} (x : S) (result : Result T GivenUp) (held mid holds : Option (List ℕ)) (old now new : Option Outlet) (first next : List ℕ)
    → FrontWritten held mid old now (Ok x) first → FrontWritten mid holds now new result next → FrontWritten held holds old new result (first ++ next)
front_then x result held mid holds old now new first next p q =
    let same : first ≡ p.front = all_of first p.front p.others p.parts p.whole in
    record {
      front = p.front ++ q.front;
      others = q.others;
      parts = ap (λ l. l ++ next) same ∙ ap (λ l. p.front ++ l) q.parts ∙ sym (append_assoc p.front q.front q.others);
      whole = q.whole;
      written = Appends-trans held mid holds p.front q.front p.written q.written;
      done = known_then old now new _ _ _ (fronts_met x result p.front q.front) p.done q.done;
    }

-- a front of a text is one of a longer text
pub front_of_more : {T : Type 0} (f : GivenUp) (held holds : Option (List ℕ)) (old new : Option Outlet) (text more : List ℕ)
    → FrontWritten {T = T} held holds old new (Err f) text → FrontWritten {T = T} held holds old new (Err f) (text ++ more)
front_of_more f held holds old new text more p = record {
  front = p.front;
  others = p.others ++ more;
  parts = ap (λ l. l ++ more) p.parts ∙ append_assoc p.front p.others more;
  whole = tt;
  written = p.written;
  done = p.done;
}

-- no part is left
pub no_part : (parts : List (Bor (List ℕ))) (held : Option (List ℕ)) (old : Option Outlet) → length parts ≡ 0 → FrontWritten {T = Unit {0}} held held old old (Ok tt) (joined parts)
no_part [] held old e = front_nothing tt held old
no_part (part ∷ parts) held old e = absurd cc

-- the first part was written, and a front of the others
pub parts_then : {T : Type 0} (result : Result T GivenUp) (held mid holds : Option (List ℕ)) (old now new : Option Outlet) (parts others : List (Bor (List ℕ))) (part : Bor (List ℕ)) (bytes : List ℕ)
    → parts ≡ part ∷ others → bytes ≡ part.now → FrontWritten {T = Unit {0}} held mid old now (Ok tt) bytes → FrontWritten mid holds now new result (joined others)
    → FrontWritten held holds old new result (joined parts)
parts_then result held mid holds old now new parts others part bytes e same p q =
    subst (λ l. FrontWritten held holds old new result (joined l)) (sym e)
    (subst (λ l. FrontWritten held holds old new result (l ++ joined others)) same (front_then tt result held mid holds old now new bytes (joined others) p q))

-- a front of the first part was written
pub part_failed : {T : Type 0} (f : GivenUp) (held holds : Option (List ℕ)) (old new : Option Outlet) (parts others : List (Bor (List ℕ))) (part : Bor (List ℕ)) (bytes : List ℕ)
    → parts ≡ part ∷ others → bytes ≡ part.now → FrontWritten {T = T} held holds old new (Err f) bytes → FrontWritten {T = T} held holds old new (Err f) (joined parts)
part_failed {T} f held holds old new parts others part bytes e same p =
    subst (λ l. FrontWritten {T = T} held holds old new (Err f) (joined l)) (sym e)
    (subst (λ l. FrontWritten {T = T} held holds old new (Err f) (l ++ joined others)) same (front_of_more f held holds old new bytes (joined others) p))
