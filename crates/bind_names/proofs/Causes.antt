-- Causes of a part are causes of the whole.
use Rattle.std.proofs.Common.{◌≡◌, List, [], ◌∷◌, ◌++◌, Contains, refl, sym, ap, ◌∙◌, subst, inl, inr, ◌⊎◌, arith}
use Rattle.std.proofs.lemmas.List.Elements.{Contains-append_left, Contains-append_right}
use Rattle.med_value.specs.declared.cause.Cause.{Cause}
use Rattle.med_value.specs.declared.cause.Cause.TheVariants.{OutOfMemory}
use Rattle.bind_names.specs.Telling.{TellsCause}

widened : (xs ys : List Cause) (c : Cause) → ((x : Cause) → Contains xs x → Contains ys x) → (c ≡ OutOfMemory) ⊎ Contains xs c → (c ≡ OutOfMemory) ⊎ Contains ys c
widened xs ys c f (inl h) = inl h
widened xs ys c f (inr h) = inr (f c h)

pub tells_left : (xs ys : List Cause) (c : Cause) → TellsCause xs c → TellsCause (xs ++ ys) c
tells_left xs ys c t = record { told = widened xs (xs ++ ys) c (λ x. Contains-append_left xs ys x) t.told }

pub tells_right : (xs ys : List Cause) (c : Cause) → TellsCause ys c → TellsCause (xs ++ ys) c
tells_right xs ys c t = record { told = widened ys (xs ++ ys) c (λ x. Contains-append_right xs ys x) t.told }

pub tells_memory : (xs : List Cause) (c : Cause) → c ≡ OutOfMemory → TellsCause xs c
tells_memory xs c h = record { told = inl h }

pub tells_one : (xs : List Cause) (c : Cause) → xs ≡ c ∷ [] → TellsCause xs c
tells_one xs c h = record { told = inr (subst (λ ys. Contains ys c) (sym h) (0, omega arith, refl)) }

pub tells_same : (xs ys : List Cause) (c : Cause) → xs ≡ ys → TellsCause xs c → TellsCause ys c
tells_same xs ys c e t = subst (λ zs. TellsCause zs c) e t

pub none_of_two : (xs ys : List Cause) → xs ≡ [] → ys ≡ [] → xs ++ ys ≡ []
none_of_two xs ys p q = rw (p, q) refl

-- ---- of a list, part by part

pub tells_first : (all xs ys : List Cause) (c : Cause) → all ≡ xs ++ ys → TellsCause xs c → TellsCause all c
tells_first all xs ys c e t = tells_same (xs ++ ys) all c (sym e) (tells_left xs ys c t)

pub next_causes : (all xs ys : List Cause) → all ≡ xs ++ ys → xs ≡ [] → all ≡ ys
next_causes all xs ys e h = e ∙ ap (λ zs. zs ++ ys) h
