-- A list gathered by an operation, from its last element on, and values that are equal.
use Rattle.std.specs.Prelude.{Bool, List, [], ◌∷◌}
use Rattle.std.specs.Ordering.{is_eq}
use Rattle.med_value.specs.Prelude.{Datum, datum_cmp}

-- a sum, a least, a greatest: `start` stands for no element
abbrev pub gather : {X A : Type 0} → (X → A → A) → A → List X → A
gather op start [] = start
gather op start (x ∷ xs) = op x (gather op start xs)

-- values of which neither is distinct from the other: two NULLs are equal here
abbrev pub datum_eq : Datum → Datum → Bool
datum_eq v w = is_eq (datum_cmp v w)
