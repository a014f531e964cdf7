-- Runs at the front of a text, and where it may be cut.
use Rattle.std.proofs.Common.{◌≡◌, ℕ, zero, suc, ◌+◌, ◌<◌, ◌≤◌, List, [], ◌∷◌, ◌++◌, length, get_or, take, drop, refl, ap, subst, arith}
use Rattle.std.specs.Prelude.{Bool, true, false, cond}
use Rattle.std.specs.Char.{is_ascii_digit}
use Rattle.std.specs.Str.{IsUtf8, IsCharBoundary}
use Rattle.std.proofs.lemmas.Str.{IsCharBoundary-start, IsCharBoundary-after_ascii}
use Rattle.std.proofs.lemmas.Bool.Decides.{nat_tests}
use Rattle.med_lexer.specs.declared.bytes.Class.{Class}
use Rattle.med_lexer.specs.declared.bytes.Class.TheVariants as k
use Rattle.med_lexer.specs.Lexemes.{is_part, is_text, Every, Without}
use Rattle.med_lexer.specs.Cutting.{in_class, IsAscii, run}

pub run_is : (p : ℕ → Bool) (bs : List ℕ) (n : ℕ) → n ≤ length bs → ((i : ℕ) → i < n → p (get_or bs i 0) ≡ true) → (n < length bs → p (get_or bs n 0) ≡ false) → (take n bs, drop n bs) ≡ run p bs
run_is p [] zero h all stops = refl
run_is p [] (suc n) h all stops = absurd (omega arith)
run_is p (b ∷ bs) zero h all stops = let e : p b ≡ false = stops (omega arith) in rw e refl
run_is p (b ∷ bs) (suc n) h all stops =
    let e : p b ≡ true = all 0 (omega arith) in
    let more : (take n bs, drop n bs) ≡ run p bs = run_is p bs n (omega arith) (λ i l. all (suc i) (omega arith)) (λ l. stops (omega arith)) in
    rw e (ap (λ (x : List ℕ × List ℕ). (b ∷ x.0, x.1)) more)

-- ---- the bytes of a class

pub digit_ascii : (b : ℕ) → is_ascii_digit b ≡ true → b < 128
digit_ascii b h = grind (arith, nat_tests)

pub part_ascii : (b : ℕ) → is_part b ≡ true → b < 128
part_ascii b h = grind (arith, nat_tests)

text_stop : (b : ℕ) → is_text b ≡ false → b < 128
text_stop b h = grind (arith, nat_tests)

plain_stop : (q b : ℕ) → q < 128 → in_class (k.Plain q) b ≡ false → b < 128
plain_stop q b l h = grind (arith, nat_tests)

-- ---- a run ends between characters

last_ascii : (bs : List ℕ) (n : ℕ) → IsUtf8 bs → n ≤ length bs → ((i : ℕ) → i < n → get_or bs i 0 < 128) → IsCharBoundary bs n
last_ascii bs zero u h all = IsCharBoundary-start bs u
last_ascii bs (suc n) u h all = let e : n + 1 ≡ suc n = omega arith in subst (IsCharBoundary bs) e (IsCharBoundary-after_ascii bs n u (omega arith) (all n (omega arith)))

next_ascii : (bs : List ℕ) (n : ℕ) → n ≤ length bs → (n < length bs → get_or bs n 0 < 128) → IsCharBoundary bs n
next_ascii bs n h next = (h, λ l big. absurd (omega (arith, next l)))

-- the first n bytes are the longest run of the class
pub record IsRun (class : Class) (bs : List ℕ) (n : ℕ) : Type 0 where
  pub within : n ≤ length bs
  pub all : (i : ℕ) → i < n → in_class class (get_or bs i 0) ≡ true
  pub stops : n < length bs → in_class class (get_or bs n 0) ≡ false

pub run_boundary : (class : Class) (bs : List ℕ) (n : ℕ) → IsUtf8 bs → IsAscii class → IsRun class bs n → IsCharBoundary bs n
run_boundary k.Part bs n u a r = last_ascii bs n u r.within (λ i l. part_ascii (get_or bs i 0) (r.all i l))
run_boundary k.Digit bs n u a r = last_ascii bs n u r.within (λ i l. digit_ascii (get_or bs i 0) (r.all i l))
run_boundary k.Text bs n u a r = next_ascii bs n r.within (λ l. text_stop (get_or bs n 0) (r.stops l))
run_boundary (k.Plain q) bs n u a r = next_ascii bs n r.within (λ l. plain_stop q (get_or bs n 0) a (r.stops l))

pub run_cut : (class : Class) (bs : List ℕ) (n : ℕ) → IsRun class bs n → (take n bs, drop n bs) ≡ run (in_class class) bs
run_cut class bs n r = run_is (in_class class) bs n r.within r.all r.stops

pub one_boundary : (bs : List ℕ) → IsUtf8 bs → 0 < length bs → get_or bs 0 0 < 128 → IsCharBoundary bs 1
one_boundary bs u h a = IsCharBoundary-after_ascii bs 0 u h a

-- ---- what a run is

pub record Part (p : ℕ → Bool) (bs w rest : List ℕ) : Type 0 where
  pub all : Every p w
  pub ends : Without p rest
  pub whole : bs ≡ w ++ rest

pub part : (p : ℕ → Bool) (bs : List ℕ) → Part p bs (run p bs).0 (run p bs).1
part p [] = record { all = tt; ends = tt; whole = refl }
part p (b ∷ bs) =
    let r : Part p bs (run p bs).0 (run p bs).1 = part p bs in
    let go : (v : Bool) → p b ≡ v → (let x : List ℕ × List ℕ = cond v (b ∷ (run p bs).0, (run p bs).1) ([], b ∷ bs) in Part p (b ∷ bs) x.0 x.1) = elim [
      | true ↦ (λ is. record { all = (is, r.all); ends = r.ends; whole = ap (λ y. b ∷ y) r.whole })
      | false ↦ (λ is. record { all = tt; ends = is; whole = refl })
    ]
    in go (p b) refl

pub run_again : (p : ℕ → Bool) (w rest : List ℕ) → Every p w → Without p rest → run p (w ++ rest) ≡ (w, rest)
run_again p [] [] e n = refl
run_again p [] (c ∷ cs) e n = rw n refl
run_again p (b ∷ bs) rest e n = rw (e.0) (rw (run_again p bs rest e.1 n) refl)
