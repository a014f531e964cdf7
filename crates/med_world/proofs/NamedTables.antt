-- Lists of things that have names: one more at the end, the first of a name changed, or gone.
use Rattle.std.proofs.Common.{◌≡◌, ◌≢◌, ℕ, Bool, true, false, cond, List, [], ◌∷◌, ◌++◌, Option, Some, None, IsSome, is_some, Contains, slice_get, map, find, refl, ap, sym, ◌∙◌, subst, zero, suc, arith, bytes_eq}
use Rattle.std.specs.Option.{option_or}
use Rattle.std.specs.List.{IsDistinct, AllByRecursion}
use Rattle.std.proofs.lemmas.Bool.{false≢true}
use Rattle.std.proofs.lemmas.List.{map-append}
use Rattle.std.proofs.lemmas.List.Folds.{find-append}
use Rattle.std.proofs.lemmas.Option.{slice_get-get_or, same_Some}
use Rattle.med_catalog.specs.Changes.{without, with_first}
use Rattle.med_world.proofs.Lists.{other_bytes, bytes_other, each_at}

-- ---- elements and their places

pub place_of : {X : Type 0} (xs : List X) (x : X) → Contains xs x → (k : ℕ) × (slice_get xs k ≡ Some x)
place_of xs x c = (c.0, slice_get-get_or xs c.0 x c.1 ∙ ap Some c.2)

pub at_place : {X : Type 0} (xs : List X) (k : ℕ) (x : X) → slice_get xs k ≡ Some x → Contains xs x
at_place [] k x at = absurd cc
at_place (y ∷ ys) zero x at = (zero, omega arith, same_Some y x at)
at_place (y ∷ ys) (suc k) x at = let r = at_place ys k x at in (suc r.0, omega arith, r.2)

pub map_place : {X Y : Type 0} (g : X → Y) (xs : List X) (k : ℕ) (x : X) → slice_get xs k ≡ Some x → slice_get (map g xs) k ≡ Some (g x)
map_place g [] k x at = absurd cc
map_place g (y ∷ ys) zero x at = ap Some (ap g (same_Some y x at))
map_place g (y ∷ ys) (suc k) x at = map_place g ys k x at

-- what is found is in its place
pub found_place : {X : Type 0} (test : X → Bool) (xs : List X) (x : X) → find test xs ≡ Some x → (k : ℕ) × (slice_get xs k ≡ Some x)
found_place {X} test [] x e = absurd cc
found_place {X} test (y ∷ ys) x e = split (λ h. found_place test ys x h) (test y) refl e
  where
    split : (find test ys ≡ Some x → (k : ℕ) × (slice_get ys k ≡ Some x)) → (b : Bool) → test y ≡ b → cond b (Some y) (find test ys) ≡ Some x → (k : ℕ) × (slice_get (y ∷ ys) k ≡ Some x)
    split rest true q h = (zero, h)
    split rest false q h = let r = rest h in (suc r.0, r.1)

-- what is found passes
pub found_passes : {X : Type 0} (test : X → Bool) (xs : List X) (x : X) → find test xs ≡ Some x → test x ≡ true
found_passes {X} test [] x e = absurd cc
found_passes {X} test (y ∷ ys) x e = split (λ h. found_passes test ys x h) (test y) refl e
  where
    split : (find test ys ≡ Some x → test x ≡ true) → (b : Bool) → test y ≡ b → cond b (Some y) (find test ys) ≡ Some x → test x ≡ true
    split rest true q h = ap test (sym (same_Some y x h)) ∙ q
    split rest false q h = rest h

-- nothing is found, and so nothing later
pub none_later : {X : Type 0} (test : X → Bool) (x : X) (xs : List X) → find test (x ∷ xs) ≡ None → (test x ≡ false) × (find test xs ≡ None)
none_later {X} test x xs e = split (test x) refl e
  where
    split : (b : Bool) → test x ≡ b → cond b (Some x) (find test xs) ≡ None → (test x ≡ false) × (find test xs ≡ None)
    split true q h = absurd cc
    split false q h = (q, h)

-- ---- names that stand once

pub distinct_push : (names : List (List ℕ)) (name : List ℕ) → ((i : ℕ) → slice_get names i ≡ Some name → ⊥) → IsDistinct bytes_eq names → IsDistinct bytes_eq (names ++ name ∷ [])
unfolding IsDistinct
distinct_push [] name none h = (tt, tt)
distinct_push (n ∷ ns) name none h = (apart ns h.0, distinct_push ns name (λ i at. none (suc i) at) h.1)
  where
    apart : (rest : List (List ℕ)) → AllByRecursion (λ y. bytes_eq n y ≡ false) rest → AllByRecursion (λ y. bytes_eq n y ≡ false) (rest ++ name ∷ [])
    apart [] k = (other_bytes n name (λ e. none zero (ap Some e)), tt)
    apart (r ∷ rs) k = (k.0, apart rs k.1)

-- a name that is not found stands in no place
pub name_nowhere : {X : Type 0} (name : X → List ℕ) (n : List ℕ) (xs : List X) → find (λ x. bytes_eq n (name x)) xs ≡ None → (i : ℕ) → slice_get (map name xs) i ≡ Some n → ⊥
name_nowhere name n [] none i at = absurd cc
name_nowhere name n (x ∷ xs) none zero at =
    bytes_other n (name x) (none_later (λ y. bytes_eq n (name y)) x xs none).0 (sym (same_Some (name x) n at))
name_nowhere name n (x ∷ xs) none (suc i) at = name_nowhere name n xs (none_later (λ y. bytes_eq n (name y)) x xs none).1 i at

pub distinct_more : {X : Type 0} (name : X → List ℕ) (xs : List X) (x : X) → find (λ y. bytes_eq (name x) (name y)) xs ≡ None → IsDistinct bytes_eq (map name xs) → IsDistinct bytes_eq (map name (xs ++ x ∷ []))
distinct_more name xs x none h =
    subst (λ (names : List (List ℕ)). IsDistinct bytes_eq names) (sym (map-append name xs (x ∷ []))) (distinct_push (map name xs) (name x) (name_nowhere name (name x) xs none) h)

all_without : {X : Type 0} (P : List ℕ → Type 0) (name : X → List ℕ) (test : X → Bool) (xs : List X) → AllByRecursion P (map name xs) → AllByRecursion P (map name (without test xs))
all_without {X} P name test [] h = h
all_without {X} P name test (x ∷ xs) h = split (all_without P name test xs h.1) (test x)
  where
    split : AllByRecursion P (map name (without test xs)) → (b : Bool) → AllByRecursion P (map name (cond b xs (x ∷ without test xs)))
    split rest true = h.1
    split rest false = (h.0, rest)

pub distinct_fewer : {X : Type 0} (name : X → List ℕ) (test : X → Bool) (xs : List X) → IsDistinct bytes_eq (map name xs) → IsDistinct bytes_eq (map name (without test xs))
unfolding IsDistinct
distinct_fewer {X} name test [] h = h
distinct_fewer {X} name test (x ∷ xs) h = split (distinct_fewer name test xs h.1) (test x)
  where
    split : IsDistinct bytes_eq (map name (without test xs)) → (b : Bool) → IsDistinct bytes_eq (map name (cond b xs (x ∷ without test xs)))
    split rest true = h.1
    split rest false = (all_without (λ y. bytes_eq (name x) y ≡ false) name test xs h.0, rest)

-- ---- the first that passes is changed

pub same_first : {X Y : Type 0} (test : X → Bool) (f : X → X) (g : X → Y) → ((x : X) → g (f x) ≡ g x) → (xs : List X) → map g (with_first test f xs) ≡ map g xs
same_first {X} {Y} test f g same [] = refl
same_first {X} {Y} test f g same (x ∷ xs) = split (same_first test f g same xs) (test x)
  where
    split : map g (with_first test f xs) ≡ map g xs → (b : Bool) → map g (cond b (f x ∷ xs) (x ∷ with_first test f xs)) ≡ g x ∷ map g xs
    split rest true = ap (λ y. y ∷ map g xs) (same x)
    split rest false = ap (λ l. g x ∷ l) rest

pub find_first : {X Y : Type 0} (p test : X → Bool) (f : X → X) (g : X → Y) → ((x : X) → p (f x) ≡ p x) → ((x : X) → g (f x) ≡ g x) → (xs : List X) (a : X) → find p xs ≡ Some a
    → (now : X) × (find p (with_first test f xs) ≡ Some now) × (g now ≡ g a)
find_first {X} {Y} p test f g keeps same [] a e = absurd cc
find_first {X} {Y} p test f g keeps same (x ∷ xs) a e = split (λ h. find_first p test f g keeps same xs a h) (test x) (p x) refl e
  where
    split : (find p xs ≡ Some a → (now : X) × (find p (with_first test f xs) ≡ Some now) × (g now ≡ g a)) → (t b : Bool) → p x ≡ b → cond b (Some x) (find p xs) ≡ Some a → (now : X) × (find p (cond t (f x ∷ xs) (x ∷ with_first test f xs)) ≡ Some now) × (g now ≡ g a)
    split rest true true q h = (f x, ap (λ c. cond c (Some (f x)) (find p xs)) (keeps x ∙ q), same x ∙ ap g (same_Some x a h))
    split rest true false q h = (a, ap (λ c. cond c (Some (f x)) (find p xs)) (keeps x ∙ q) ∙ h, refl)
    split rest false true q h = (x, ap (λ c. cond c (Some x) (find p (with_first test f xs))) q, ap g (same_Some x a h))
    split rest false false q h = let r = rest h in (r.0, ap (λ c. cond c (Some x) (find p (with_first test f xs))) q ∙ r.1, r.2)

pub back_first : {X Y : Type 0} (test : X → Bool) (f : X → X) (g : X → Y) → ((x : X) → g (f x) ≡ g x) → (xs : List X) (k : ℕ) (s : X) → slice_get (with_first test f xs) k ≡ Some s
    → (was : X) × (slice_get xs k ≡ Some was) × (g was ≡ g s)
back_first {X} {Y} test f g same [] k s at = absurd cc
back_first {X} {Y} test f g same (x ∷ xs) k s at = split (λ j h. back_first test f g same xs j s h) (test x) k at
  where
    split : ((j : ℕ) → slice_get (with_first test f xs) j ≡ Some s → (was : X) × (slice_get xs j ≡ Some was) × (g was ≡ g s)) → (b : Bool) (k : ℕ) → slice_get (cond b (f x ∷ xs) (x ∷ with_first test f xs)) k ≡ Some s → (was : X) × (slice_get (x ∷ xs) k ≡ Some was) × (g was ≡ g s)
    split rest true zero h = (x, refl, sym (same x) ∙ ap g (same_Some (f x) s h))
    split rest true (suc k) h = (s, h, refl)
    split rest false zero h = (x, refl, ap g (same_Some x s h))
    split rest false (suc k) h = rest k h

-- ---- the first that passes is gone

pub find_fewer : {X : Type 0} (p test : X → Bool) → ((x : X) → test x ≡ true → p x ≡ false) → (xs : List X) → find p (without test xs) ≡ find p xs
find_fewer {X} p test apart [] = refl
find_fewer {X} p test apart (x ∷ xs) = split (find_fewer p test apart xs) (test x) refl
  where
    split : find p (without test xs) ≡ find p xs → (b : Bool) → test x ≡ b → find p (cond b xs (x ∷ without test xs)) ≡ cond (p x) (Some x) (find p xs)
    split rest true q = sym (ap (λ c. cond c (Some x) (find p xs)) (apart x q))
    split rest false q = ap (λ o. cond (p x) (Some x) o) rest

pub back_fewer : {X : Type 0} (test : X → Bool) (xs : List X) (k : ℕ) (s : X) → slice_get (without test xs) k ≡ Some s → (j : ℕ) × (slice_get xs j ≡ Some s)
back_fewer {X} test [] k s at = absurd cc
back_fewer {X} test (x ∷ xs) k s at = split (λ j h. back_fewer test xs j s h) (test x) k at
  where
    split : ((j : ℕ) → slice_get (without test xs) j ≡ Some s → (i : ℕ) × (slice_get xs i ≡ Some s)) → (b : Bool) (k : ℕ) → slice_get (cond b xs (x ∷ without test xs)) k ≡ Some s → (j : ℕ) × (slice_get (x ∷ xs) j ≡ Some s)
    split rest true k h = (suc k, h)
    split rest false zero h = (zero, h)
    split rest false (suc k) h = let r = rest k h in (suc r.0, r.1)

-- where all have names of their own, none that is left has the name of the one that is gone
pub none_left : {X : Type 0} (name : X → List ℕ) (test : X → Bool) (xs : List X) (a : X) → IsDistinct bytes_eq (map name xs) → find test xs ≡ Some a → (k : ℕ) (s : X) → slice_get (without test xs) k ≡ Some s → name s ≢ name a
unfolding IsDistinct
none_left {X} name test [] a h found k s at = absurd cc
none_left {X} name test (x ∷ xs) a h found k s at = split (λ e j l. none_left name test xs a h.1 e j s l) (test x) refl found k at
  where
    apart : (j : ℕ) (y : X) → slice_get xs j ≡ Some y → name x ≢ name y
    apart j y there same = bytes_other (name x) (name y) (each_at (λ z. bytes_eq (name x) z ≡ false) (map name xs) j (name y) h.0 (map_place name xs j y there)) same

    split : (find test xs ≡ Some a → (j : ℕ) → slice_get (without test xs) j ≡ Some s → name s ≢ name a) → (b : Bool) → test x ≡ b → cond b (Some x) (find test xs) ≡ Some a → (k : ℕ) → slice_get (cond b xs (x ∷ without test xs)) k ≡ Some s → name s ≢ name a
    split rest true q e k l same = apart k s l (ap name (same_Some x a e) ∙ sym same)
    split rest false q e zero l same =
        let there = found_place test xs a e in
        apart there.0 a there.1 (ap name (same_Some x s l) ∙ same)
    split rest false q e (suc k) l same = rest e k l same

-- ---- one more

pub still_found : {X : Type 0} (p : X → Bool) (xs ys : List X) (a : X) → find p xs ≡ Some a → find p (xs ++ ys) ≡ Some a
still_found p xs ys a e = find-append p xs ys ∙ ap (λ o. option_or o (find p ys)) e

pub some_of : {X : Type 0} (o : Option X) → IsSome o → (x : X) × (o ≡ Some x)
some_of None h = absurd (false≢true h)
some_of (Some x) h = (x, refl)

pub none_of : {X : Type 0} (o : Option X) → is_some o ≡ false → o ≡ None
none_of None h = refl
none_of (Some x) h = absurd (false≢true (sym h))
