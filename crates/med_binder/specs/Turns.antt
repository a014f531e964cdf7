-- What looking names up answers, and binding: causes of names come before those of types.
use Rattle.std.specs.Prelude.{◌≡◌, ◌⊎◌, List, [], Contains, Result, Ok, Err}
use Rattle.med_value.specs.declared.cause.Cause.{Cause}
use Rattle.med_value.specs.declared.cause.Cause.TheVariants.{OutOfMemory}
use Rattle.bind_names.specs.Meaning.{Meant}
use Rattle.med_binder.specs.Binding.{IsMeant, AsksMeant}
use Rattle.med_binder.specs.declared.bound.BoundEntry.{BoundEntry}
use Rattle.med_binder.specs.declared.bound.BoundQuery.{BoundQuery}

-- a cause of names is told, or one of types where none of names stands, or that memory was refused
pub record TellsInTurn (names types : List Cause) (c : Cause) : Type 0 where
  pub told : (c ≡ OutOfMemory) ⊎ Contains names c ⊎ ((names ≡ []) × Contains types c)

abbrev pub Binds : List Cause → List Cause → Meant → Result BoundQuery Cause → Type 0
Binds names types m (Ok b) = IsMeant m b × (names ≡ []) × (types ≡ [])
Binds names types m (Err c) = TellsInTurn names types c

-- the same of a query whose entries are these
abbrev pub BindsKnown : List Cause → List Cause → Meant → List BoundEntry → Result BoundQuery Cause → Type 0
BindsKnown names types m es (Ok b) = AsksMeant m b × (b.entries.items ≡ es) × (names ≡ []) × (types ≡ [])
BindsKnown names types m es (Err c) = TellsInTurn names types c
