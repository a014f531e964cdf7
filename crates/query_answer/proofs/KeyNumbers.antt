-- Keys numbered in the order of their first rows: what a map that is filled row by row gives is what the lists mean.
use Rattle.std.proofs.Common.{◌≡◌, ◌+◌, ℕ, suc, Bool, true, false, not, ◌&&◌, ◌||◌, if◌then◌else◌, List, [], ◌∷◌, ◌++◌, map, filter, refl, sym, ap, ◌∙◌, subst, arith, append_assoc, append-nil}
use Rattle.std.proofs.lemmas.List.{map-append}
use Rattle.std.proofs.lemmas.List.Elements.{filter-append}
use Rattle.std.proofs.lemmas.List.Folds.{list_any-append}
use Rattle.std.specs.List.{list_any, position_or_len}
use Rattle.std.proofs.lemmas.Bool.{or_parts}
use Rattle.indexmap.specs.IndexSet.{insert_key}
use Rattle.med_query.specs.Lists.{distinct}
use Rattle.query_answer.specs.Keys.{number_in, keys_after, numbers_after, put_at, gathered}

-- what a set of elements is, seen by a view
pub any_seen : {X K : Type 0} (f : X → K) (test : K → Bool) (xs : List X) → list_any (λ x. test (f x)) xs ≡ list_any test (map f xs)
any_seen f test [] = refl
any_seen f test (x ∷ xs) = ap (λ b. test (f x) || b) (any_seen f test xs)

put_seen : {X K : Type 0} (f : X → K) (keys : List X) (k : X) (b : Bool) → map f (if b then keys else keys ++ k ∷ []) ≡ (if b then map f keys else map f keys ++ f k ∷ [])
put_seen f keys k true = refl
put_seen f keys k false = map-append f keys (k ∷ [])

pub inserted_seen : {X K : Type 0} (f : X → K) (eq : K → K → Bool) (keys : List X) (k : X) → map f (insert_key (λ a b. eq (f a) (f b)) keys k) ≡ insert_key eq (map f keys) (f k)
inserted_seen f eq keys k = ap (λ b. map f (if b then keys else keys ++ k ∷ [])) (any_seen f (eq (f k)) keys) ∙ put_seen f keys k (list_any (eq (f k)) (map f keys))

number_by : {X K : Type 0} (f : X → K) (eq : K → K → Bool) (k : K) (x : X) (rest : ℕ) (more : ℕ) (b : Bool) → eq k (f x) ≡ b → rest ≡ more → (if not b then 1 + rest else 0) ≡ (if b then 0 else suc more)
number_by f eq k x rest more true e h = refl
number_by f eq k x rest more false e h = omega (arith, h)

pub number_seen : {X K : Type 0} (f : X → K) (eq : K → K → Bool) (keys : List X) (k : K) → position_or_len (λ x. eq k (f x)) keys ≡ number_in eq (map f keys) k
number_seen f eq [] k = refl
number_seen f eq (x ∷ xs) k = number_by f eq k x (position_or_len (λ y. eq k (f y)) xs) (number_in eq (map f xs) k) (eq k (f x)) refl (number_seen f eq xs k)

-- two filters in one
join_one : {X : Type 0} (p q r : X → Bool) (x : X) (xs : List X) (b c : Bool) → q x ≡ b → p x ≡ c → r x ≡ (b && c) → filter r xs ≡ filter p (filter q xs) → filter r (x ∷ xs) ≡ filter p (filter q (x ∷ xs))
join_one p q r x xs true true e f g h = rw (e, g) (rw f (ap (λ l. x ∷ l) h))
join_one p q r x xs true false e f g h = rw (e, g) (rw f h)
join_one p q r x xs false c e f g h = rw (e, g) h

filters_joined : {X : Type 0} (p q r : X → Bool) → ((x : X) → r x ≡ (q x && p x)) → (xs : List X) → filter r xs ≡ filter p (filter q xs)
filters_joined p q r h [] = refl
filters_joined p q r h (x ∷ xs) = join_one p q r x xs (q x) (p x) refl refl (h x) (filters_joined p q r h xs)

all_kept : {X : Type 0} (p : X → Bool) → ((x : X) → p x ≡ true) → (xs : List X) → filter p xs ≡ xs
all_kept p h [] = refl
all_kept p h (x ∷ xs) = rw (h x) (ap (λ l. x ∷ l) (all_kept p h xs))

join_tests : (a e : Bool) → not (a || (e || false)) ≡ (not e && not a)
join_tests true true = refl
join_tests true false = refl
join_tests false true = refl
join_tests false false = refl

-- which a key is not among known ones
abbrev fresh : {K : Type 0} → (K → K → Bool) → List K → K → Bool
fresh eq known z = not (list_any (eq z) known)

-- the keys after some, and after some more
pub keys_after-append : {K : Type 0} (eq : K → K → Bool) (known xs ys : List K) → keys_after eq (keys_after eq known xs) ys ≡ keys_after eq known (xs ++ ys)
keys_after-append eq known [] ys = refl
keys_after-append eq known (x ∷ xs) ys = keys_after-append eq (insert_key eq known x) xs ys

module _ {K : Type 0} (eq : K → K → Bool) (only : (x y : K) → eq x y ≡ true → x ≡ y) (self : (x : K) → eq x x ≡ true) where
  turned_by : (x y : K) (b c : Bool) → eq x y ≡ b → eq y x ≡ c → b ≡ c
  turned_by x y true true e f = refl
  turned_by x y false false e f = refl
  turned_by x y true false e f = absurd (let s : x ≡ y = only x y e in let t : eq y x ≡ true = rw s (self y) in cc)
  turned_by x y false true e f = absurd (let s : y ≡ x = only y x f in let t : eq x y ≡ true = rw s (self x) in cc)

  turned : (x y : K) → eq x y ≡ eq y x
  turned x y = turned_by x y (eq x y) (eq y x) refl refl

  -- a key that is among known ones: what is fresh is another
  still_by : (known : List K) (k z : K) (b a : Bool) → eq k z ≡ b → list_any (eq z) known ≡ a → list_any (eq k) known ≡ true → not a ≡ (not b && not a)
  still_by known k z true true e f h = refl
  still_by known k z true false e f h = absurd (let s : k ≡ z = only k z e in let t : list_any (eq z) known ≡ true = subst (λ w. list_any (eq w) known ≡ true) s h in cc)
  still_by known k z false a e f h = refl

  grown : (known : List K) (k : K) (z : K) → fresh eq (known ++ k ∷ []) z ≡ (not (eq k z) && fresh eq known z)
  grown known k z = ap not (list_any-append (eq z) known (k ∷ [])) ∙ rw (turned z k) (join_tests (list_any (eq z) known) (eq k z))

  after_by : (known ks : List K) (k : K) (b : Bool) → list_any (eq k) known ≡ b → ((seen : List K) → keys_after eq seen ks ≡ seen ++ filter (fresh eq seen) (distinct eq ks)) → keys_after eq (if b then known else known ++ k ∷ []) ks ≡ known ++ filter (fresh eq known) (k ∷ filter (λ z. not (eq k z)) (distinct eq ks))
  after_by known ks k true e h = rw e (h known ∙ ap (λ l. known ++ l) (filters_joined (fresh eq known) (λ z. not (eq k z)) (fresh eq known) (λ z. still_by known k z (eq k z) (list_any (eq z) known) refl refl e) (distinct eq ks)))
  after_by known ks k false e h = rw e (h (known ++ k ∷ []) ∙ append_assoc known (k ∷ []) (filter (fresh eq (known ++ k ∷ [])) (distinct eq ks)) ∙ ap (λ l. known ++ k ∷ l) (filters_joined (fresh eq known) (λ z. not (eq k z)) (fresh eq (known ++ k ∷ [])) (grown known k) (distinct eq ks)))

  after : (ks known : List K) → keys_after eq known ks ≡ known ++ filter (fresh eq known) (distinct eq ks)
  after [] known = sym (append-nil known)
  after (k ∷ ks) known = after_by known ks k (list_any (eq k) known) refl (after ks)

  -- the keys of a list, each once, are its distinct elements
  pub all_keys : (ks : List K) → keys_after eq [] ks ≡ distinct eq ks
  all_keys ks = after ks [] ∙ all_kept (fresh eq []) (λ z. refl) (distinct eq ks)

  -- keys of which no two are equal
  abbrev Apart : List K → Type 0
  Apart [] = Unit {0}
  Apart (s ∷ ss) = (list_any (eq s) ss ≡ false) × Apart ss

  more_apart : (known : List K) (k : K) → list_any (eq k) known ≡ false → Apart known → Apart (known ++ k ∷ [])
  more_apart [] k e a = (refl, tt)
  more_apart (s ∷ ss) k e a =
      let t = or_parts (eq k s) (list_any (eq k) ss) e in
      (list_any-append (eq s) ss (k ∷ []) ∙ rw (a.0, turned s k, t.0) refl, more_apart ss k t.1 a.1)

  apart_by : (known : List K) (k : K) (b : Bool) → list_any (eq k) known ≡ b → Apart known → Apart (if b then known else known ++ k ∷ [])
  apart_by known k true e a = a
  apart_by known k false e a = more_apart known k e a

  module _ {X : Type 0} (key : X → K) where
    -- the elements of a key
    abbrev pub members : List X → K → List X
    members xs k = filter (λ x. eq k (key x)) xs

    one_more : (done : List X) (x : X) (k : K) (b : Bool) → eq k (key x) ≡ b → members (done ++ x ∷ []) k ≡ (if b then members done k ++ x ∷ [] else members done k)
    one_more done x k true e = filter-append (λ y. eq k (key y)) done (x ∷ []) ∙ rw e refl
    one_more done x k false e = filter-append (λ y. eq k (key y)) done (x ∷ []) ∙ rw e (append-nil (members done k))

    -- keys without that of the element
    others_stay : (ss : List K) (done : List X) (x : X) → list_any (eq (key x)) ss ≡ false → map (members done) ss ≡ map (members (done ++ x ∷ [])) ss
    others_stay [] done x e = refl
    others_stay (s ∷ ss) done x e =
        let t = or_parts (eq (key x) s) (list_any (eq (key x)) ss) e in
        ap (λ l. l ∷ map (members done) ss) (sym (one_more done x s false (turned s (key x) ∙ t.0))) ∙ ap (λ l. members (done ++ x ∷ []) s ∷ l) (others_stay ss done x t.1)

    there_by : (s : K) (ss : List K) (done : List X) (x : X) (b : Bool) → eq (key x) s ≡ b → list_any (eq s) ss ≡ false → (b || list_any (eq (key x)) ss) ≡ true
        → (list_any (eq (key x)) ss ≡ true → put_at (map (members done) ss) (number_in eq ss (key x)) x ≡ map (members (done ++ x ∷ [])) ss)
        → put_at (members done s ∷ map (members done) ss) (if b then 0 else suc (number_in eq ss (key x))) x ≡ members (done ++ x ∷ []) s ∷ map (members (done ++ x ∷ [])) ss
    there_by s ss done x true e a n h =
        let o : list_any (eq (key x)) ss ≡ false = subst (λ w. list_any (eq w) ss ≡ false) (sym (only (key x) s e)) a in
        ap (λ l. l ∷ map (members done) ss) (sym (one_more done x s true (turned s (key x) ∙ e))) ∙ ap (λ l. members (done ++ x ∷ []) s ∷ l) (others_stay ss done x o)
    there_by s ss done x false e a n h = ap (λ l. l ∷ put_at (map (members done) ss) (number_in eq ss (key x)) x) (sym (one_more done x s false (turned s (key x) ∙ e))) ∙ ap (λ l. members (done ++ x ∷ []) s ∷ l) (h n)

    put_there : (known : List K) (done : List X) (x : X) → Apart known → list_any (eq (key x)) known ≡ true → put_at (map (members done) known) (number_in eq known (key x)) x ≡ map (members (done ++ x ∷ [])) known
    put_there [] done x a e = absurd cc
    put_there (s ∷ ss) done x a e = there_by s ss done x (eq (key x) s) refl a.0 e (put_there ss done x a.1)

    new_by : (s : K) (ss : List K) (done : List X) (x : X) (b : Bool) → eq (key x) s ≡ b → (b || list_any (eq (key x)) ss) ≡ false
        → (list_any (eq (key x)) ss ≡ false → put_at (map (members done) ss) (number_in eq ss (key x)) x ≡ map (members (done ++ x ∷ [])) ss ++ (x ∷ []) ∷ [])
        → put_at (members done s ∷ map (members done) ss) (if b then 0 else suc (number_in eq ss (key x))) x ≡ members (done ++ x ∷ []) s ∷ (map (members (done ++ x ∷ [])) ss ++ (x ∷ []) ∷ [])
    new_by s ss done x true e n h = absurd cc
    new_by s ss done x false e n h = ap (λ l. l ∷ put_at (map (members done) ss) (number_in eq ss (key x)) x) (sym (one_more done x s false (turned s (key x) ∙ e))) ∙ ap (λ l. members (done ++ x ∷ []) s ∷ l) (h n)

    put_new : (known : List K) (done : List X) (x : X) → list_any (eq (key x)) known ≡ false → put_at (map (members done) known) (number_in eq known (key x)) x ≡ map (members (done ++ x ∷ [])) known ++ (x ∷ []) ∷ []
    put_new [] done x e = refl
    put_new (s ∷ ss) done x e = new_by s ss done x (eq (key x) s) refl e (put_new ss done x)

    -- no element has a key that is not known
    abbrev Covers : List K → List X → Type 0
    Covers known done = (k : K) → list_any (eq k) known ≡ false → members done k ≡ []

    put_by : (known : List K) (done : List X) (x : X) (b : Bool) → list_any (eq (key x)) known ≡ b → Apart known → Covers known done → put_at (map (members done) known) (number_in eq known (key x)) x ≡ map (members (done ++ x ∷ [])) (if b then known else known ++ key x ∷ [])
    put_by known done x true e a c = put_there known done x a e
    put_by known done x false e a c =
        let own : members (done ++ x ∷ []) (key x) ≡ x ∷ [] = one_more done x (key x) true (self (key x)) ∙ ap (λ l. l ++ x ∷ []) (c (key x) e) in
        put_new known done x e ∙ ap (λ l. map (members (done ++ x ∷ [])) known ++ l ∷ []) (sym own) ∙ sym (map-append (members (done ++ x ∷ [])) known (key x ∷ []))

    covers_more : (known : List K) (done : List X) (x : X) (k : K) (d : Bool) → eq k (key x) ≡ d → d ≡ false → members done k ≡ [] → members (done ++ x ∷ []) k ≡ []
    covers_more known done x k d e f h = one_more done x k false (e ∙ f) ∙ h

    other_key : (known : List K) (x : X) (k : K) (d : Bool) → eq k (key x) ≡ d → list_any (eq (key x)) known ≡ true → list_any (eq k) known ≡ false → d ≡ false
    other_key known x k true e t n = absurd (let s : key x ≡ k = sym (only k (key x) e) in let u : list_any (eq k) known ≡ true = subst (λ w. list_any (eq w) known ≡ true) s t in cc)
    other_key known x k false e t n = refl

    covers_by : (known : List K) (done : List X) (x : X) (b : Bool) → list_any (eq (key x)) known ≡ b → Covers known done → Covers (if b then known else known ++ key x ∷ []) (done ++ x ∷ [])
    covers_by known done x true e c = λ k n. covers_more known done x k (eq k (key x)) refl (other_key known x k (eq k (key x)) refl e n) (c k n)
    covers_by known done x false e c = λ k n.
        let t = or_parts (list_any (eq k) known) (eq k (key x) || false) (sym (list_any-append (eq k) known (key x ∷ [])) ∙ n) in
        covers_more known done x k (eq k (key x)) refl (or_parts (eq k (key x)) false t.1).0 (c k t.0)

    gathers : (xs : List X) (known : List K) (done : List X) → Apart known → Covers known done → gathered (map (members done) known) (numbers_after eq known (map key xs)) xs ≡ map (members (done ++ xs)) (keys_after eq known (map key xs))
    gathers [] known done a c = ap (λ l. map (members l) known) (sym (append-nil done))
    gathers (x ∷ xs) known done a c =
        let b = list_any (eq (key x)) known in
        ap (λ g. gathered g (numbers_after eq (insert_key eq known (key x)) (map key xs)) xs) (put_by known done x b refl a c)
        ∙ gathers xs (insert_key eq known (key x)) (done ++ x ∷ []) (apart_by known (key x) b refl a) (covers_by known done x b refl c)
        ∙ ap (λ l. map (members l) (keys_after eq (insert_key eq known (key x)) (map key xs))) (append_assoc done (x ∷ []) xs)

    -- elements gathered by the numbers of their keys: for each distinct key those that have it
    pub all_gathered : (xs : List X) → gathered [] (numbers_after eq [] (map key xs)) xs ≡ map (members xs) (distinct eq (map key xs))
    all_gathered xs = gathers xs [] [] tt (λ k n. refl) ∙ ap (map (members xs)) (all_keys (map key xs))
