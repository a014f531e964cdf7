-- What the functions over slots and bound tables do.
use Rattle.std.specs.Prelude.{◌≡◌, ℕ, List, [], ◌∷◌, ◌++◌, Option}
use Rattle.med_value.specs.declared.cause.Cause.{Cause}
use Rattle.med_value.specs.declared.cause.Cause.TheVariants.{OutOfMemory}
use Rattle.fdw_api.specs.Prelude.{Column, OptionForm, BoxState, Binds, RefusesBind}
use Rattle.fdw_api.specs.declared.interface.Fault.{Fault}
use Rattle.med_exec.specs.Slots.{ChangesAt}
use Rattle.med_binder.specs.Places.{Attached}
use Rattle.med_world.specs.Fetching.{cause_of}

-- the table is bound in the box in this place, and stands last
pub record BindsLast (place : ℕ) (remote : List ℕ) (columns : List Column) (settings : List OptionForm)
    (boxes : List (Option BoxState)) (bound : List Attached) (new_boxes : List (Option BoxState)) (new_bound : List Attached) : Type 0 where
  pub number : ℕ
  pub binds : ChangesAt boxes place (λ s t. Binds s remote columns settings number t) new_boxes
  pub appends : new_bound ≡ bound ++ record { source = place; number = number } ∷ []

-- the bind was refused, or memory before it
pub data BindFails (place : ℕ) (remote : List ℕ) (columns : List Column) (settings : List OptionForm) (c : Cause)
    (old new : List (Option BoxState)) : Type 0 where
  before_bind : c ≡ OutOfMemory → new ≡ old → BindFails place remote columns settings c old new
  by_fault : (fault : Fault) → c ≡ cause_of fault → ChangesAt old place (λ s t. RefusesBind s remote columns settings fault t) new
      → BindFails place remote columns settings c old new
