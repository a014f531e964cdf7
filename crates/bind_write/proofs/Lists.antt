-- Lists of causes and their parts.
use Rattle.std.proofs.Common.{◌≡◌, ◌⊎◌, inl, inr, zero, suc, List, [], ◌∷◌, ◌++◌, map, flat_map, Contains, refl, sym, ap, ◌∙◌, subst, arith}
use Rattle.med_value.specs.declared.cause.Cause.{Cause}
use Rattle.med_value.specs.declared.cause.Cause.TheVariants.{OutOfMemory}
use Rattle.bind_names.specs.Telling.{TellsCause}
use Rattle.med_binder.specs.Turns.{TellsInTurn}

pub left_empty : (xs ys : List Cause) → xs ++ ys ≡ [] → xs ≡ []
left_empty [] ys h = refl
left_empty (x ∷ xs) ys h = absurd cc

pub right_empty : (xs ys : List Cause) → xs ++ ys ≡ [] → ys ≡ []
right_empty [] ys h = h
right_empty (x ∷ xs) ys h = absurd cc

pub empty_by : (xs : List Cause) → ((c : Cause) → Contains xs c → ⊥) → xs ≡ []
empty_by [] h = refl
empty_by (x ∷ xs) h = absurd (h x (0, omega arith, refl))

pub none_in : (xs : List Cause) (c : Cause) → xs ≡ [] → Contains xs c → ⊥
none_in xs c e h = absurd (let within = (subst (λ ys. Contains ys c) e h).1 in omega arith)

-- one in either part
pub of_two : (xs ys : List Cause) (c : Cause) → Contains (xs ++ ys) c → Contains xs c ⊎ Contains ys c
of_two [] ys c h = inr h
of_two (x ∷ xs) ys c (zero, within, is) = inl (0, omega arith, is)
of_two (x ∷ xs) ys c (suc i, within, is) = by (of_two xs ys c (i, omega (arith, within), is))
  where
    by : Contains xs c ⊎ Contains ys c → Contains (x ∷ xs) c ⊎ Contains ys c
    by (inl (j, w, e)) = inl (suc j, omega (arith, w), e)
    by (inr k) = inr k

-- behind a map
pub flat_over : {X Y Z : Type 0} (f : Y → List Z) (g : X → Y) (xs : List X) → flat_map f (map g xs) ≡ flat_map (λ x. f (g x)) xs
flat_over f g [] = refl
flat_over f g (x ∷ xs) = ap (λ zs. f (g x) ++ zs) (flat_over f g xs)

-- ---- what is told in turn

-- names alike, and a cause of types that is one of more
pub in_turn_by : (ns ms ts us : List Cause) (c : Cause) → ns ≡ ms → (Contains ts c → Contains us c) → TellsInTurn ns ts c → TellsInTurn ms us c
in_turn_by ns ms ts us c e f t = record { told = by t.told }
  where
    by : (c ≡ OutOfMemory) ⊎ (Contains ns c ⊎ ((ns ≡ []) × Contains ts c)) → (c ≡ OutOfMemory) ⊎ (Contains ms c ⊎ ((ms ≡ []) × Contains us c))
    by (inl h) = inl h
    by (inr (inl h)) = inr (inl (subst (λ xs. Contains xs c) e h))
    by (inr (inr (none, h))) = inr (inr (sym e ∙ none, f h))

-- a cause of names
pub names_in_turn : (xs ns ts : List Cause) (c : Cause) → ((d : Cause) → Contains xs d → Contains ns d) → TellsCause xs c → TellsInTurn ns ts c
names_in_turn xs ns ts c f t = record { told = by t.told }
  where
    by : (c ≡ OutOfMemory) ⊎ Contains xs c → (c ≡ OutOfMemory) ⊎ (Contains ns c ⊎ ((ns ≡ []) × Contains ts c))
    by (inl h) = inl h
    by (inr h) = inr (inl (f c h))

-- a cause of types, where none of names stands
pub types_in_turn : (ns xs ts : List Cause) (c : Cause) → ns ≡ [] → ((d : Cause) → Contains xs d → Contains ts d) → TellsCause xs c → TellsInTurn ns ts c
types_in_turn ns xs ts c e f t = record { told = by t.told }
  where
    by : (c ≡ OutOfMemory) ⊎ Contains xs c → (c ≡ OutOfMemory) ⊎ (Contains ns c ⊎ ((ns ≡ []) × Contains ts c))
    by (inl h) = inl h
    by (inr h) = inr (inr (e, f c h))
