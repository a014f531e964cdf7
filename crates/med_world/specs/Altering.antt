-- What the engine's statements on objects do, and why they are refused.
use Rattle.std.specs.Prelude.{◌≡◌, ◌≤◌, ℕ, false}
use Rattle.med_value.specs.declared.cause.Cause.{Cause}
use Rattle.med_value.specs.declared.cause.Cause.TheVariants.{UnableToConnect, OutOfMemory}
use Rattle.med_syntax.specs.Prelude.{Name, DdlTree}
use Rattle.fdw_api.specs.Prelude.{BoxState, Binds, Unbinds, RefusesBind}
use Rattle.fdw_api.specs.declared.interface.Fault.{Fault}
use Rattle.med_exec.specs.Slots.{ChangesAt}
use Rattle.med_catalog.specs.Prelude.{ServerObject, TableObject, ObjectChange, new_server, new_table, Asks, DdlCauses, phase}
use Rattle.sql_meaning.specs.World.{is_taken}
use Rattle.med_world.specs.Engine.{Shown, leased, IsServerAt, IsStandingAt, Alters}
use Rattle.med_world.specs.Fetching.{cause_of}

-- the source that a new server names stands in this place, is of its kind, and no server has taken it
pub record IsFreeAt (e : Shown) (s : ServerObject) (place : ℕ) : Type 0 where
  pub stands : IsStandingAt e s place
  pub untaken : is_taken e.catalog s.source ≡ false

-- the catalogue and the leases show no cause, and this is the change that is asked
pub record IsAllowed (e : Shown) (user : Name) (d : DdlTree) (change : ObjectChange) : Type 0 where
  pub clear : (c : Cause) → DdlCauses e.catalog (leased e) user d c → ⊥
  pub asks : Asks e.catalog user d change

-- a new server's source is free
abbrev pub SourcesAllow : Shown → ObjectChange → Type 0
SourcesAllow e (new_server s) = (place : ℕ) × IsFreeAt e s place
SourcesAllow e other = Unit {0}

-- the statement was done
pub record IsAltered (old : Shown) (user : Name) (d : DdlTree) (new : Shown) : Type 0 where
  pub change : ObjectChange
  pub allowed : IsAllowed old user d change
  pub sources : SourcesAllow old change
  pub alters : Alters old change new

-- a table was bound, and then unbound, since memory was refused behind the bind
pub record BindsInVain (t : TableObject) (old new : BoxState) : Type 0 where
  pub number : ℕ
  pub mid : BoxState
  pub binds : Binds old t.remote t.columns t.settings number mid
  pub unbinds : Unbinds mid number new

-- Why it was not, and what that changes: nothing but what a box counts.
pub data NotAltered (old : Shown) (user : Name) (d : DdlTree) (c : Cause) (new : Shown) : Type 0 where
  catalog_shows : DdlCauses old.catalog (leased old) user d c
      → ((x : Cause) → DdlCauses old.catalog (leased old) user d x → phase c ≤ phase x) → new ≡ old → NotAltered old user d c new
  not_free : (s : ServerObject) → IsAllowed old user d (new_server s) → ((place : ℕ) → IsFreeAt old s place → ⊥) → c ≡ UnableToConnect
      → new ≡ old → NotAltered old user d c new
  no_memory : c ≡ OutOfMemory → new ≡ old → NotAltered old user d c new
  bind_fails : (t : TableObject) → IsAllowed old user d (new_table t) → (place : ℕ) → IsServerAt old t.server place → (fault : Fault)
      → c ≡ cause_of fault → ChangesAt old.boxes place (λ a b. RefusesBind a t.remote t.columns t.settings fault b) new.boxes
      → new ≡ record old { boxes = new.boxes } → NotAltered old user d c new
  bind_undone : (t : TableObject) (place : ℕ) → c ≡ OutOfMemory → ChangesAt old.boxes place (BindsInVain t) new.boxes
      → new ≡ record old { boxes = new.boxes } → NotAltered old user d c new
