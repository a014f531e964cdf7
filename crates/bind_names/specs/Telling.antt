-- What the functions of the crate answer.
use Rattle.std.specs.Prelude.{◌≡◌, ◌⊎◌, ◌<◌, ℕ, List, [], ◌∷◌, ◌++◌, length, Contains, Option, Result, Ok, Err}
use Rattle.med_value.specs.declared.value.ColType.{ColType}
use Rattle.med_value.specs.declared.cause.Cause.{Cause}
use Rattle.med_value.specs.declared.cause.Cause.TheVariants.{OutOfMemory}
use Rattle.med_syntax.specs.Tree.{Name}
use Rattle.bind_names.specs.Scope.{Scope, candidates, columns_of, kind_among}
use Rattle.bind_names.specs.Naming.{column_causes}
use Rattle.bind_names.specs.declared.scope.FoundPlaces.{FoundPlaces}
use Rattle.bind_names.specs.declared.scope.FoundPlaces.TheVariants.{Nothing, One, Several}

-- one of the causes is told, or that memory was refused
pub record TellsCause (causes : List Cause) (c : Cause) : Type 0 where
  pub told : (c ≡ OutOfMemory) ⊎ Contains causes c

-- What was answered, seen by view, is this, and no cause stands; a refusal tells one that does, or that memory was refused.
abbrev pub Means : {X Y : Type 0} → (X → Y) → List Cause → Y → Result X Cause → Type 0
Means view causes y (Ok x) = (view x ≡ y) × (causes ≡ [])
Means view causes y (Err c) = TellsCause causes c

-- nothing stands, or one of the causes is told
abbrev pub Passes : {X : Type 0} → List Cause → Result X Cause → Type 0
Passes causes (Ok x) = causes ≡ []
Passes causes (Err c) = TellsCause causes c

-- one more column was found in this place
abbrev pub with_place : FoundPlaces → ℕ → FoundPlaces
with_place Nothing p = One p
with_place (One r) p = Several
with_place Several p = Several

-- these were found beside what was found before
abbrev pub with_places : FoundPlaces → List ℕ → FoundPlaces
with_places f [] = f
with_places f (p ∷ ps) = with_places (with_place f p) ps

-- More columns are in view than 64 bits can count. What takes no memory tells 53200 there, and nowhere else.
abbrev pub IsOverfull : Scope → Type 0
IsOverfull s = 18446744073709551615 < length (columns_of s)

abbrev pub TellsOverfull : Scope → Cause → Type 0
TellsOverfull s c = (c ≡ OutOfMemory) × IsOverfull s

-- what was found is the places of the columns that a name can mean, unless there are too many columns to count
abbrev pub Gathers : Scope → Option Name → Name → Result FoundPlaces Cause → Type 0
Gathers s q n (Ok f) = f ≡ with_places Nothing (candidates s q n)
Gathers s q n (Err c) = TellsOverfull s c

-- the place of the column that a name means, or why it means none
abbrev pub FindsColumn : Scope → Option Name → Name → Result ℕ Cause → Type 0
FindsColumn s q n (Ok p) = (candidates s q n ≡ p ∷ []) × (column_causes s q n ≡ [])
FindsColumn s q n (Err c) = TellsCause (column_causes s q n) c

-- the type, unless there are too many columns to count
abbrev pub FindsKind : Scope → Option ColType → Result (Option ColType) Cause → Type 0
FindsKind s k (Ok r) = r ≡ k
FindsKind s k (Err c) = TellsOverfull s c

-- the type of the one column that a name means
abbrev pub FindsNamed : Scope → Option Name → Name → Result (Option ColType) Cause → Type 0
FindsNamed s q n = FindsKind s (kind_among s (candidates s q n))

-- these stand behind what was there, and no cause stands
abbrev pub Adds : {X Y : Type 0} → List Cause → List Y → List Y → List Y → Result X Cause → Type 0
Adds causes more old new (Ok x) = (new ≡ old ++ more) × (causes ≡ [])
Adds causes more old new (Err c) = TellsCause causes c
