-- What a write leads to in the worlds that agree, before its statement is looked at.
use Rattle.std.proofs.Common.{◌≡◌, ◌<◌, ◌≤◌, ◌⊎◌, ℕ, true}
use Rattle.med_value.specs.declared.cause.Cause.{Cause}
use Rattle.med_value.specs.declared.cause.Cause.TheVariants.{LimitExceeded, OutOfMemory, SourceFault}
use Rattle.med_syntax.specs.Prelude.{Name, WriteTree}
use Rattle.med_parser.specs.CommandTree.{on_rows}
use Rattle.med_exec.specs.Running.{SlotShows, HasFailed, IsUsedUp}
use Rattle.sql_meaning.specs.Prelude.{Pick, World, OfQuery, reads_shared, writes_shared, RowCauses, IsRowPick, MayShow, WritesIn}
use Rattle.med_world.specs.Engine.{Shown, Agrees, EachRises}
use Rattle.med_catalog.specs.DdlCauses.{phase}

-- In a world the write of n rows is done: under a pick no cause stands, and the world after it agrees with the engine after it.
pub record RowsDoneIn (w : World) (user : Name) (t : WriteTree) (n : ℕ) (new : Shown) : Type 0 where
  pub pick : Pick
  pub picks : IsRowPick w user t pick
  pub none : (c : Cause) → RowCauses w user pick t c → ⊥
  pub after : World
  pub writes : WritesIn w pick t n after
  pub agrees : Agrees new after

-- so in each world that agrees
pub record RowsDone (old : Shown) (user : Name) (t : WriteTree) (n : ℕ) (new : Shown) : Type 0 where
  pub rises : EachRises old.boxes new.boxes
  pub each : (w : World) → Agrees old w → RowsDoneIn w user t n new

-- In a world this cause of the least phase stands under a pick.
pub record RowsToldIn (w : World) (user : Name) (t : WriteTree) (c : Cause) : Type 0 where
  pub pick : Pick
  pub picks : IsRowPick w user t pick
  pub stands : RowCauses w user pick t c
  pub least : (d : Cause) → RowCauses w user pick t d → phase c ≤ phase d

-- its table or its query is of a shared source
abbrev pub RestsIn : World → WriteTree → Type 0
RestsIn w t = (writes_shared w t ≡ true) ⊎ OfQuery (λ q. reads_shared w q ≡ true) t

-- no cause of phases 3 and 4 stands, whatever is picked
abbrev pub NoneBeforeRows : Shown → Name → WriteTree → Type 0
NoneBeforeRows old user t = (w : World) → Agrees old w → (p : Pick) (d : Cause) → RowCauses w user p t d → 4 < phase d

-- In a world this cause is told; or the write rests on a shared source, which may show it, and no cause of an earlier phase stands.
pub data RowsRefusedIn (w : World) (user : Name) (t : WriteTree) (c : Cause) : Type 0 where
  told_in : RowsToldIn w user t c → RowsRefusedIn w user t c
  shared_in : RestsIn w t → MayShow (on_rows t) c → ((p : Pick) (d : Cause) → RowCauses w user p t d → 5 < phase d) → RowsRefusedIn w user t c

-- Why the write is not done: a cause is told; or memory was refused, a source failed, or ticket numbers are used up.
pub data WhyNotDone (old : Shown) (user : Name) (t : WriteTree) (c : Cause) (new : Shown) : Type 0 where
  is_told : ((w : World) → Agrees old w → RowsRefusedIn w user t c) → WhyNotDone old user t c new
  lacks_memory : c ≡ OutOfMemory → WhyNotDone old user t c new
  source_fails : c ≡ SourceFault → SlotShows old.boxes new.boxes HasFailed → NoneBeforeRows old user t → WhyNotDone old user t c new
  numbers_end : c ≡ LimitExceeded → SlotShows old.boxes new.boxes IsUsedUp → NoneBeforeRows old user t → WhyNotDone old user t c new

-- the engine agrees with the same worlds
pub record RowsNotDone (old : Shown) (user : Name) (t : WriteTree) (c : Cause) (new : Shown) : Type 0 where
  pub rises : EachRises old.boxes new.boxes
  pub kept : (w : World) → Agrees old w → Agrees new w
  pub why : WhyNotDone old user t c new
