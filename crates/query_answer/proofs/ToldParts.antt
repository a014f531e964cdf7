-- What is told element by element, of a test and where it is passed of more, is told of all tests or of the rest.
use Rattle.std.proofs.Common.{◌≡◌, Bool, true, false, cond, List, [], ◌∷◌, ◌++◌, filter, flat_map, refl, Contains, append-nil, ◌⊎◌, inl, inr}
use Rattle.std.proofs.lemmas.List.Elements.{Contains-append_left, Contains-append_right, Contains-append_cases}
use Rattle.tri_expr.specs.declared.expr.Fault.{Fault}

-- the faults of a test, and those of the elements that pass
abbrev pub both_told : {X : Type 0} → (X → List Fault) → (X → List Fault) → (X → Bool) → List X → List Fault
both_told f g p xs = flat_map f xs ++ flat_map g (filter p xs)

abbrev pub one_told : {X : Type 0} → (X → List Fault) → (X → List Fault) → (X → Bool) → X → List Fault
one_told f g p x = f x ++ cond (p x) (g x) []

pub nothing_left : {X : Type 0} (xs ys : List X) → xs ++ ys ≡ [] → (xs ≡ []) × (ys ≡ [])
nothing_left [] ys e = (refl, e)
nothing_left (x ∷ xs) ys e = absurd cc

quiet_one : {X : Type 0} (f g : X → List Fault) (p : X → Bool) (x : X) (xs : List X) (b : Bool) → p x ≡ b → one_told f g p x ≡ [] → both_told f g p xs ≡ [] → both_told f g p (x ∷ xs) ≡ []
quiet_one f g p x xs true e here rest =
    let a = nothing_left (f x) (cond (p x) (g x) []) here in
    let b = nothing_left (flat_map f xs) (flat_map g (filter p xs)) rest in
    let d : g x ≡ [] = rw e at a.1 in
    rw (e, a.0, b.0, d, b.1) refl
quiet_one f g p x xs false e here rest =
    let a = nothing_left (f x) (cond (p x) (g x) []) here in
    rw (e, a.0) rest

pub quiet_parts : {X : Type 0} (f g : X → List Fault) (p : X → Bool) (xs : List X) → flat_map (one_told f g p) xs ≡ [] → both_told f g p xs ≡ []
quiet_parts f g p [] e = refl
quiet_parts f g p (x ∷ xs) e =
    let a = nothing_left (one_told f g p x) (flat_map (one_told f g p) xs) e in
    quiet_one f g p x xs (p x) refl a.0 (quiet_parts f g p xs a.1)

of_test : {X : Type 0} (f g : X → List Fault) (x : X) (xs passing : List X) (c : Fault) → Contains (f x) c → Contains (flat_map f (x ∷ xs) ++ flat_map g passing) c
of_test f g x xs passing c h = Contains-append_left (flat_map f (x ∷ xs)) (flat_map g passing) c (Contains-append_left (f x) (flat_map f xs) c h)

of_rest : {X : Type 0} (f g : X → List Fault) (x : X) (xs old new : List X) (c : Fault) → ((d : Fault) → Contains (flat_map g old) d → Contains (flat_map g new) d) → Contains (flat_map f xs ++ flat_map g old) c → Contains (flat_map f (x ∷ xs) ++ flat_map g new) c
of_rest f g x xs old new c more h = elim (Contains-append_cases (flat_map f xs) (flat_map g old) c h) [
  | inl a ↦ Contains-append_left (flat_map f (x ∷ xs)) (flat_map g new) c (Contains-append_right (f x) (flat_map f xs) c a)
  | inr b ↦ Contains-append_right (flat_map f (x ∷ xs)) (flat_map g new) c (more c b)
]

told_one : {X : Type 0} (f g : X → List Fault) (p : X → Bool) (x : X) (xs : List X) (b : Bool) (c : Fault) → p x ≡ b → Contains (f x ++ cond b (g x) []) c ⊎ Contains (both_told f g p xs) c → Contains (both_told f g p (x ∷ xs)) c
told_one f g p x xs true c e (inl h) = rw e (elim (Contains-append_cases (f x) (g x) c h) [
  | inl a ↦ of_test f g x xs (x ∷ filter p xs) c a
  | inr b ↦ Contains-append_right (flat_map f (x ∷ xs)) (flat_map g (x ∷ filter p xs)) c (Contains-append_left (g x) (flat_map g (filter p xs)) c b)
])
told_one f g p x xs false c e (inl h) = rw e (of_test f g x xs (filter p xs) c (rw append-nil at h))
told_one f g p x xs true c e (inr h) = rw e (of_rest f g x xs (filter p xs) (x ∷ filter p xs) c (λ d k. Contains-append_right (g x) (flat_map g (filter p xs)) d k) h)
told_one f g p x xs false c e (inr h) = rw e (of_rest f g x xs (filter p xs) (filter p xs) c (λ d k. k) h)

pub told_parts : {X : Type 0} (f g : X → List Fault) (p : X → Bool) (xs : List X) (c : Fault) → Contains (flat_map (one_told f g p) xs) c → Contains (both_told f g p xs) c
told_parts f g p [] c h = h
told_parts f g p (x ∷ xs) c h = told_one f g p x xs (p x) c refl (elim (Contains-append_cases (one_told f g p x) (flat_map (one_told f g p) xs) c h) [
  | inl a ↦ inl a
  | inr b ↦ inr (told_parts f g p xs c b)
])
