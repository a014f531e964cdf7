-- Why a new table is not bound and noted in the catalogue: nothing but what a box counts is changed then.
use Rattle.std.specs.Prelude.{◌≡◌, ℕ}
use Rattle.med_value.specs.declared.cause.Cause.{Cause}
use Rattle.med_value.specs.declared.cause.Cause.TheVariants.{UnableToConnect, OutOfMemory}
use Rattle.fdw_api.specs.Calls.{RefusesBind}
use Rattle.fdw_api.specs.declared.interface.Fault.{Fault}
use Rattle.med_exec.specs.Slots.{ChangesAt}
use Rattle.med_catalog.specs.Prelude.{ServerObject, TableObject, new_server}
use Rattle.med_world.specs.Prelude.{Shown, IsServerAt, with_change, IsFreeAt, BindsInVain, cause_of}

pub data TableFails (old : Shown) (t : TableObject) (c : Cause) (new : Shown) : Type 0 where
  -- memory was refused before the bind
  no_memory : c ≡ OutOfMemory → new ≡ old → TableFails old t c new
  -- the box refused it
  fails_by : (place : ℕ) → IsServerAt old t.server place → (fault : Fault) → c ≡ cause_of fault
      → ChangesAt old.boxes place (λ a b. RefusesBind a t.remote t.columns t.settings fault b) new.boxes
      → new ≡ record old { boxes = new.boxes } → TableFails old t c new
  -- memory was refused behind the bind, and the table was let go
  undone : (place : ℕ) → c ≡ OutOfMemory → ChangesAt old.boxes place (BindsInVain t) new.boxes
      → new ≡ record old { boxes = new.boxes } → TableFails old t c new

-- a new server is noted in the catalogue, and its source was free
pub record TakesSource (old : Shown) (s : ServerObject) (new : Shown) : Type 0 where
  pub place : ℕ
  pub free : IsFreeAt old s place
  pub is : new ≡ with_change old (new_server s)

-- why it is not: its source is not free, or memory was refused
pub data ServerFails (old : Shown) (s : ServerObject) (c : Cause) : Type 0 where
  source_taken : c ≡ UnableToConnect → ((place : ℕ) → IsFreeAt old s place → ⊥) → ServerFails old s c
  memory_refused : c ≡ OutOfMemory → ServerFails old s c
