-- What the functions on types answer.
use Rattle.std.specs.Prelude.{◌≡◌, List, [], ◌∷◌, ◌++◌, flat_map, Option, Result, Ok, Err, Vec}
use Rattle.med_value.specs.declared.value.ColType.{ColType}
use Rattle.med_value.specs.declared.cause.Cause.{Cause}
use Rattle.med_syntax.specs.QueryTree.{KeyTree, CoreTree}
use Rattle.bind_names.specs.Scope.{Scope}
use Rattle.bind_types.specs.Typing.{comparing, type_causes, item_type_causes, condition_type_causes}

-- among operands that are compared, the answered type stands for these two; or the two have no type in common
abbrev pub Meets : Option ColType → Option ColType → Result (Option ColType) Cause → Type 0
Meets a b (Ok m) = (ts : List (Option ColType)) → comparing (a ∷ b ∷ ts) ≡ comparing (m ∷ ts)
Meets a b (Err c) = (ts : List (Option ColType)) → comparing (a ∷ b ∷ ts) ≡ c ∷ []

-- of a key of ORDER BY: the position of an output and its name have no causes of types, nor has a number or a column
abbrev pub written_key_causes : Scope → KeyTree → List Cause
written_key_causes s k = type_causes s k.key

-- of the types of what a core asks of its entries
abbrev pub asked_type_causes : Scope → CoreTree → List Cause
asked_type_causes s c = flat_map (item_type_causes s) c.items ++ (condition_type_causes s c.condition ++ condition_type_causes s c.having)

-- the types of a row of outputs
abbrev pub types_in : {A : Type 0} → Vec (Option ColType) A → List (Option ColType)
types_in v = v.items
