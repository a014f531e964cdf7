-- What was said, in one list and session by session.
use Rattle.std.proofs.Common.{◌≡◌, ◌≢◌, ℕ, ◌==◌, zero, suc, ◌<◌, Bool, true, false, List, [], ◌∷◌, ◌++◌, map, flat_map, length, slice_get}
use Rattle.std.proofs.Common.{slice_set, Some, refl, sym, ap, ◌∙◌, subst, append_assoc, append-nil, arith}
use Rattle.std.proofs.lemmas.List.{map-append}
use Rattle.std.proofs.lemmas.Grind.{flat_map-append}
use Rattle.std.proofs.lemmas.Bool.Decides.{nat_tests}
use Rattle.session_wire.specs.Run.{Steps}
use Rattle.session_wire.specs.Exchanges.{Exchange, Exchanged}
use Rattle.session_wire.specs.Lines.{Lines, line, rest, go_on}
use Rattle.fed_hub.specs.Bare.{bare}
use Rattle.fed_hub.specs.Said.{Said, exchange_of, exchanges_of, lines_in, told_in, part_of, AreOf, before}

-- ---- one list

pub exchanged-append : {W : Type 0} (step : Steps W) (old mid new : W) (xs ys : List Exchange) → Exchanged step old xs mid
    → Exchanged step mid ys new → Exchanged step old (xs ++ ys) new
exchanged-append step old mid new [] ys h k = subst (λ w. Exchanged step w ys new) h k
exchanged-append step old mid new (x ∷ xs) ys h k = (h.0, h.1, exchanged-append step h.0 mid new xs ys h.2 k)

pub said-append : {W : Type 0} (step : Steps W) (old mid new : W) (xs ys : List Said) → Exchanged step old (exchanges_of xs) mid
    → Exchanged step mid (exchanges_of ys) new → Exchanged step old (exchanges_of (xs ++ ys)) new
said-append step old mid new xs ys h k =
    subst (λ es. Exchanged step old es new) (sym (map-append (λ (s : Said). exchange_of s) xs ys)) (exchanged-append step old mid new
    (exchanges_of xs) (exchanges_of ys) h k)

-- ---- session by session

pub part-append : (sid : ℕ) (xs ys : List Said) → part_of sid (xs ++ ys) ≡ part_of sid xs ++ part_of sid ys
part-append sid [] ys = refl
part-append sid (x ∷ xs) ys = at_first (x.sid == sid) refl (part-append sid xs ys)
  where
    at_first : (t : Bool) → (x.sid == sid) ≡ t → part_of sid (xs ++ ys) ≡ part_of sid xs ++ part_of sid ys
        → part_of sid (x ∷ xs ++ ys) ≡ part_of sid (x ∷ xs) ++ part_of sid ys
    at_first true e k = rw e (ap (λ l. x ∷ l) k)
    at_first false e k = rw e k

pub part_own : (sid : ℕ) (xs : List Said) → AreOf sid xs → part_of sid xs ≡ xs
part_own sid [] h = refl
part_own sid (x ∷ xs) h =
    let own : x.sid ≡ sid = h.0 in
    let test : (x.sid == sid) ≡ true = grind (arith, nat_tests) in
    rw test (ap (λ l. x ∷ l) (part_own sid xs h.1))

pub part_other : (sid other : ℕ) (xs : List Said) → AreOf other xs → other ≢ sid → part_of sid xs ≡ []
part_other sid other [] h n = refl
part_other sid other (x ∷ xs) h n =
    let theirs : x.sid ≡ other = h.0 in
    let test : (x.sid == sid) ≡ false = grind (arith, nat_tests) in
    rw test (part_other sid other xs h.1 n)

pub own-append : (sid : ℕ) (xs ys : List Said) → AreOf sid xs → AreOf sid ys → AreOf sid (xs ++ ys)
own-append sid [] ys h k = k
own-append sid (x ∷ xs) ys h k = (h.0, own-append sid xs ys h.1 k)

-- ---- the lines of a connection

pub told-append : (xs ys : List Said) → told_in (xs ++ ys) ≡ told_in xs ++ told_in ys
told-append xs ys = flat_map-append (λ (s : Said). bare s.reply) xs ys

pub before-append : (xs : List Said) (s : Said) (more : Lines) → before (lines_in (xs ++ s ∷ [])) more ≡ before (lines_in xs)
    (line s.text more)
before-append [] s more = refl
before-append (x ∷ xs) s more = ap (line x.text) (before-append xs s more)

pub before-go_on : (texts : List (List ℕ)) (more : Lines) (f : List ℕ → Lines) → go_on (before texts more) f ≡ before texts (go_on more f)
before-go_on [] more f = refl
before-go_on (text ∷ texts) more f = ap (line text) (before-go_on texts more f)

-- ---- places

pub get_set : {A : Type 0} (xs : List A) (k : ℕ) (x : A) → k < length xs → slice_get (slice_set xs k x) k ≡ Some x
get_set [] k x h = absurd (omega arith)
get_set (y ∷ ys) zero x h = refl
get_set (y ∷ ys) (suc k) x h = get_set ys k x (omega arith)

pub get_other : {A : Type 0} (xs : List A) (k j : ℕ) (x : A) → j ≢ k → slice_get (slice_set xs k x) j ≡ slice_get xs j
get_other [] k j x h = refl
get_other (y ∷ ys) zero zero x h = absurd (h refl)
get_other (y ∷ ys) zero (suc j) x h = refl
get_other (y ∷ ys) (suc k) zero x h = refl
get_other (y ∷ ys) (suc k) (suc j) x h = get_other ys k j x (λ e. h (ap suc e))
