-- Cursors by their names: the first of a name, and the others.
use Rattle.std.proofs.Common.{◌≡◌, ℕ, suc, ◌+◌, ◌≤◌, zero, Bool, true, false, not, cond, List, [], ◌∷◌, length, map, filter, find, slice_get, Option, Some, None, bytes_eq, nat_lt, refl, ap, sym, ◌∙◌, arith}
use Rattle.std.specs.List.{AllByRecursion, position, position_or_len, prefix_len, remove}
use Rattle.std.specs.Option.{option_and_then}
use Rattle.std.proofs.lemmas.Bool.{ltb-false}
use Rattle.std.proofs.lemmas.List.Folds.{find_at}
use Rattle.std.proofs.lemmas.Map.Keys.{IsDistinct-head, IsDistinct-tail, IsDistinct-cons}
use Rattle.std.proofs.lemmas.Slice.Eq.{bytes_eq-Decides}
use Rattle.med_syntax.specs.Tree.{Name}
use Rattle.med_world.specs.declared.cursors.OpenCursor.{OpenCursor}
use Rattle.med_world.specs.Open.{Opened, opened, has_name, without_named, AreNamedApart}

-- ---- the first of a name

prefix_mapped : {X Y : Type 0} (p : Y → Bool) (f : X → Y) (xs : List X) → prefix_len p (map f xs) ≡ prefix_len (λ x. p (f x)) xs
prefix_mapped p f [] = refl
prefix_mapped p f (x ∷ xs) = ap (λ n. cond (p (f x)) (1 + n) 0) (prefix_mapped p f xs)

as_many : {X Y : Type 0} (f : X → Y) (xs : List X) → length (map f xs) ≡ length xs
as_many f [] = refl
as_many f (x ∷ xs) = ap suc (as_many f xs)

pub position_mapped : {X Y : Type 0} (p : Y → Bool) (f : X → Y) (xs : List X) → position p (map f xs) ≡ position (λ x. p (f x)) xs
position_mapped p f xs = λ i. let at = prefix_mapped (λ y. not (p y)) f xs i in cond (nat_lt at (as_many f xs i)) (Some at) None

none_behind : {X : Type 0} (xs : List X) (k : ℕ) → length xs ≤ k → slice_get xs k ≡ None
none_behind [] k le = refl
none_behind (x ∷ xs) zero le = absurd (omega (arith, le))
none_behind (x ∷ xs) (suc k) le = none_behind xs k (omega (arith, le))

-- what stands in the first place that passes is the first that passes
pub first_there : {X : Type 0} (p : X → Bool) (xs : List X) (at : Option ℕ) → at ≡ position p xs → option_and_then (slice_get xs) at ≡ find p xs
first_there p xs at e = ap (option_and_then (slice_get xs)) e ∙ go (nat_lt (position_or_len p xs) (length xs)) refl ∙ sym (find_at p xs)
  where
    go : (b : Bool) → nat_lt (position_or_len p xs) (length xs) ≡ b → option_and_then (slice_get xs) (cond b (Some (position_or_len p xs)) None) ≡ slice_get xs (position_or_len p xs)
    go true is = refl
    go false is = sym (none_behind xs (position_or_len p xs) (ltb-false (position_or_len p xs) (length xs) is))

-- ---- the others

removed_later : {X : Type 0} (x : X) (xs : List X) (k : ℕ) → remove (x ∷ xs) (1 + k) ≡ x ∷ remove xs k
removed_later x xs k = let e : 1 + k ≡ suc k = omega arith in ap (remove (x ∷ xs)) e

other_name : (name one more : Name) → bytes_eq one name ≡ true → bytes_eq one more ≡ false → (b : Bool) → bytes_eq more name ≡ b → b ≡ false
other_name name one more same apart false is = refl
other_name name one more same apart true is =
    let t : bytes_eq one more ≡ true = (bytes_eq-Decides one more).1 ((bytes_eq-Decides one name).0 same ∙ sym ((bytes_eq-Decides more name).0 is)) in absurd cc

all_gone : {X : Type 0} (k : ℕ) → remove {X = X} [] k ≡ []
all_gone zero = refl
all_gone (suc k) = refl

map_removed : {X Y : Type 0} (f : X → Y) (xs : List X) (k : ℕ) → map f (remove xs k) ≡ remove (map f xs) k
map_removed f [] zero = refl
map_removed f [] (suc k) = refl
map_removed f (x ∷ xs) zero = refl
map_removed f (x ∷ xs) (suc k) = ap (λ ys. f x ∷ ys) (map_removed f xs k)

-- where one has the name, those behind it have others
others_kept : (name one : Name) → bytes_eq one name ≡ true → (cs : List Opened) → AllByRecursion (λ y. bytes_eq one y ≡ false) (map (λ (c : Opened). c.name) cs) → without_named name cs ≡ cs
others_kept name one same [] apart = refl
others_kept name one same (c ∷ cs) apart =
    ap (λ b. cond (not b) (c ∷ without_named name cs) (without_named name cs)) (other_name name one c.name same apart.0 (has_name name c) refl) ∙ ap (λ rest. c ∷ rest) (others_kept name one same cs apart.1)

-- without the first of a name, and without all of it
pub removed_named : (name : Name) (cs : List Opened) → AreNamedApart cs → remove cs (position_or_len (has_name name) cs) ≡ without_named name cs
removed_named name [] apart = refl
removed_named name (c ∷ cs) apart = go (removed_named name cs (IsDistinct-tail bytes_eq c.name (map (λ (d : Opened). d.name) cs) apart)) (has_name name c) refl
  where
    go : remove cs (position_or_len (has_name name) cs) ≡ without_named name cs → (b : Bool) → has_name name c ≡ b → remove (c ∷ cs) (cond (not b) (1 + position_or_len (has_name name) cs) 0) ≡ cond (not b) (c ∷ without_named name cs) (without_named name cs)
    go rest true is = sym (others_kept name c.name is cs (IsDistinct-head bytes_eq c.name (map (λ (d : Opened). d.name) cs) apart))
    go rest false is = removed_later c cs (position_or_len (has_name name) cs) ∙ ap (λ others. c ∷ others) rest

pub none_named : (name : Name) (cs : List Opened) → position (has_name name) cs ≡ None → AreNamedApart cs → without_named name cs ≡ cs
none_named name cs none apart = sym (removed_named name cs apart) ∙ all_stay cs (position_or_len (has_name name) cs) (behind (nat_lt (position_or_len (has_name name) cs) (length cs)) refl none)
  where
    behind : (b : Bool) → nat_lt (position_or_len (has_name name) cs) (length cs) ≡ b → cond b (Some (position_or_len (has_name name) cs)) None ≡ None → length cs ≤ position_or_len (has_name name) cs
    behind true is e = absurd cc
    behind false is e = ltb-false (position_or_len (has_name name) cs) (length cs) is

    all_stay : (xs : List Opened) (k : ℕ) → length xs ≤ k → remove xs k ≡ xs
    all_stay [] k le = all_gone k
    all_stay (x ∷ xs) zero le = absurd (omega (arith, le))
    all_stay (x ∷ xs) (suc k) le = ap (λ rest. x ∷ rest) (all_stay xs k (omega (arith, le)))

-- the place of the first of a name, where there is one
place_of_first : (name : Name) (cs : List Opened) (k : ℕ) → Some k ≡ position (has_name name) cs → position_or_len (has_name name) cs ≡ k
place_of_first name cs k e = go (nat_lt (position_or_len (has_name name) cs) (length cs)) e
  where
    go : (b : Bool) → Some k ≡ cond b (Some (position_or_len (has_name name) cs)) None → position_or_len (has_name name) cs ≡ k
    go true is = cc
    go false is = absurd cc

pub taken_named : (name : Name) (cursors left : List OpenCursor) (k : ℕ) → Some k ≡ position (has_name name) (map opened cursors) → left ≡ remove cursors k → AreNamedApart (map opened cursors)
    → map opened left ≡ without_named name (map opened cursors)
taken_named name cursors left k at e apart =
    ap (map opened) e ∙ map_removed opened cursors k ∙ ap (remove (map opened cursors)) (sym (place_of_first name (map opened cursors) k at)) ∙ removed_named name (map opened cursors) apart

-- names that differ still do where some are left out
still_differ : (P : Name → Type 0) (q : Opened → Bool) (cs : List Opened) → AllByRecursion P (map (λ (c : Opened). c.name) cs) → AllByRecursion P (map (λ (c : Opened). c.name) (filter q cs))
still_differ P q [] h = h
still_differ P q (c ∷ cs) h = go (still_differ P q cs h.1) (q c)
  where
    go : AllByRecursion P (map (λ (d : Opened). d.name) (filter q cs)) → (b : Bool) → AllByRecursion P (map (λ (d : Opened). d.name) (cond b (c ∷ filter q cs) (filter q cs)))
    go rest true = (h.0, rest)
    go rest false = rest

pub still_apart : (q : Opened → Bool) (cs : List Opened) → AreNamedApart cs → AreNamedApart (filter q cs)
still_apart q [] apart = apart
still_apart q (c ∷ cs) apart = go (still_apart q cs (IsDistinct-tail bytes_eq c.name (map (λ (d : Opened). d.name) cs) apart)) (q c)
  where
    go : AreNamedApart (filter q cs) → (b : Bool) → AreNamedApart (cond b (c ∷ filter q cs) (filter q cs))
    go rest true = IsDistinct-cons bytes_eq c.name (map (λ (d : Opened). d.name) (filter q cs)) (still_differ (λ y. bytes_eq c.name y ≡ false) q cs (IsDistinct-head bytes_eq c.name (map (λ (d : Opened). d.name) cs) apart)) rest
    go rest false = rest
