-- The rows of VALUES.
use Rattle.std.proofs.Common.{◌≡◌, ◌<◌, ◌≤◌, ℕ, zero, suc, ◌-◌, nat_eq, arith, length, List, [], ◌∷◌, map, Some, option_map, slice_get, get_or, refl, sym, ap, ◌∙◌, subst, take, drop}
use Rattle.std.proofs.lemmas.List.{length-map}
use Rattle.std.proofs.lemmas.Option.{slice_get-map, slice_get-get_or}
use Rattle.std.specs.List.{list_all}
use Rattle.med_value.specs.declared.cause.Cause.TheVariants.{ValuesSyntax}
use Rattle.bind_types.specs.Typing.{unless}
use Rattle.bind_write.specs.Typing.{length_causes}

pub lengths_by : {X : Type 0} (rows : List (List X)) (first : List X) (others : List (List X)) (n : ℕ) → rows ≡ first ∷ others → n ≡ length first
    → length_causes rows ≡ unless (list_all (λ s. nat_eq (length s) n) others) ValuesSyntax
lengths_by rows first others n e k = rw (e, k) refl

take_whole : {X : Type 0} (xs : List X) (n : ℕ) → length xs ≤ n → take n xs ≡ xs
take_whole [] zero h = refl
take_whole [] (suc n) h = refl
take_whole (x ∷ xs) zero h = absurd (omega (arith, h))
take_whole (x ∷ xs) (suc n) h = ap (λ ys. x ∷ ys) (take_whole xs n (omega (arith, h)))

pub take_rest : {X : Type 0} (xs : List X) → take (length xs - 1) (drop 1 xs) ≡ drop 1 xs
take_rest [] = take_whole [] (0 - 1) (omega arith)
take_rest (x ∷ xs) = take_whole xs (length (x ∷ xs) - 1) (omega arith)

-- ---- the row in a place

read_at : {X Y : Type 0} (f : X → Y) (xs : List X) (i : ℕ) (x : X) → i < length xs → x ≡ get_or xs i x → slice_get (map f xs) i ≡ Some (f x)
read_at f xs i x lt is = slice_get-map f xs i ∙ ap (option_map f) (slice_get-get_or xs i x lt ∙ ap Some (sym is))

pub same_at : {X Y Z W : Type 0} (f : X → Z) (g : W → Z) (h : Y → W) (xs : List X) (ys : List Y) (i : ℕ) (x : X) (y : Y) → map f xs ≡ map g (map h ys)
    → i < length ys → y ≡ get_or ys i y → x ≡ get_or xs i x → f x ≡ g (h y)
same_at f g h xs ys i x y e lt at_y at_x =
    let n : length xs ≡ length ys = sym (length-map xs f) ∙ ap length e ∙ length-map (map h ys) g ∙ length-map ys h in
    some_is _ _ (sym (read_at f xs i x (subst (λ k. i < k) (sym n) lt) at_x) ∙ ap (λ zs. slice_get zs i) e ∙ slice_get-map g (map h ys) i ∙ ap (option_map g) (read_at h ys i y lt at_y))
  where
    some_is : {V : Type 0} (a b : V) → Some a ≡ Some b → a ≡ b
    some_is a b q = cc
