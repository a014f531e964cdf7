-- What the log says of a file that is replaced: by the draft beside it, right after a look that showed it unchanged.
use Rattle.std.specs.Prelude.{◌≡◌, ◌+◌, ◌<◌, ◌≤◌, ◌⊎◌, ℕ, true, false, List, [], ◌∷◌, ◌++◌, Option, Some, None, Result, Ok, Err, IfSome}
use Rattle.blob_store.specs.Logs.{Call, Looked, Probed, ToldDraft, Synced, Renamed, Settled, Released, OpenedFile, ToldFile, ReadFile, ClosedFile, Undone}
use Rattle.blob_store.specs.Logs.{holds_lock, written, asked_mode, probed, renames, refused, failed, first_mode, HasRights, IsCleared, IsQuiet, KeepsRest, KeepsDraft}
use Rattle.blob_store.specs.Logs.{IsSameFile, IsSameTold, IsSameLook, IsDue}
use Rattle.blob_store.specs.Files.{MayBeWritten, IsUnchanged, count_of}
use Rattle.blob_store.specs.declared.disk.Told.{Told}
use Rattle.blob_store.specs.declared.disk.Kind.TheVariants.{Regular}
use Rattle.blob_store.specs.declared.disk.DiskFault.{DiskFault}
use Rattle.blob_store.specs.declared.marks.Mark.{Mark}
use Rattle.blob_store.specs.declared.marks.Mark.TheVariants.{Seen, Unseen}
use Rattle.blob_store.specs.declared.steps.PutFault.{PutFault}
use Rattle.blob_store.specs.declared.steps.PutFault.TheVariants.{NoMemory, Failed, Barred}

-- of a fault: whether memory is the reason
abbrev pub memory_of : PutFault → ℕ
memory_of NoMemory = 1
memory_of Failed = 0
memory_of Barred = 0

-- why a file was not replaced: a call failed, where no look is the reason
abbrev pub IsPutDue : List Call → List Call → PutFault → Type 0
IsPutDue old new fault = (refused old + memory_of fault ≤ refused new) × (failed old + count_of fault ≤ failed new)

-- a file that stands there was probed, right after the look at it
abbrev pub looked_over : List ℕ → Option Told → List Call → List Call
looked_over path None old = Looked path None ∷ old
looked_over path (Some told) old = Probed path ∷ Looked path (Some told) ∷ old

-- A file is looked at, and may be replaced: where one stands there, it was probed, and the program may write it.
pub record LookedOver (old new : List Call) (path : List ℕ) (mark : Mark) (told : Option Told) : Type 0 where
  pub calls : new ≡ looked_over path told old
  pub writable : MayBeWritten told
  pub unchanged : IsUnchanged told mark

pub record NotLookedOver (old new : List Call) (fault : PutFault) : Type 0 where
  pub keeps : KeepsDraft old new
  pub due : IsPutDue old new fault

abbrev pub LooksOverOrNot : List Call → List Call → List ℕ → Mark → Result (Option Told) PutFault → Type 0
LooksOverOrNot old new path mark (Ok told) = LookedOver old new path mark told
LooksOverOrNot old new path mark (Err fault) = NotLookedOver old new fault

-- the draft's handle and its path tell of one file
pub record SeesOwn (old new : List Call) (draft : List ℕ) : Type 0 where
  pub made : Told
  pub there : Told
  pub same : IsSameFile made.stamp there.stamp
  pub calls : new ≡ Looked draft (Some there) ∷ ToldDraft made ∷ old

abbrev pub SeesOwnOrNot : {T : Type 0} → List Call → List Call → List ℕ → Result T PutFault → Type 0
SeesOwnOrNot old new draft (Ok x) = SeesOwn old new draft
SeesOwnOrNot old new draft (Err fault) = KeepsDraft old new × IsPutDue old new fault

-- what stands there is what was seen
pub record SawAgain (old new : List Call) (path : List ℕ) (seen : Option Told) : Type 0 where
  pub last : Option Told
  pub unchanged : IsSameLook seen last
  pub calls : new ≡ Looked path last ∷ old

abbrev pub SeesAgain : {T : Type 0} → List Call → List Call → List ℕ → Option Told → Result T PutFault → Type 0
SeesAgain old new path seen (Ok x) = SawAgain old new path seen
SeesAgain old new path seen (Err fault) = KeepsDraft old new × IsPutDue old new fault

-- The draft took the place of what was seen there: it was written, synced and found under its path, and then the place was looked at once
-- more. It was as it had been seen, and the next call was the rename.
pub record FilledBy (old new : List Call) (draft path bytes : List ℕ) (seen : Option Told) : Type 0 where
  pub made : Told
  pub there : Told
  pub same : IsSameFile made.stamp there.stamp
  pub last : Option Told
  pub unchanged : IsSameLook seen last
  pub before : List Call
  pub calls : new ≡ Renamed draft path ∷ Looked path last ∷ Looked draft (Some there) ∷ ToldDraft made ∷ Synced ∷ before
  pub rest : KeepsRest old before
  pub quiet : IsQuiet old before
  pub written : written before ≡ written old ++ bytes

pub record NotFilled (old new : List Call) (fault : PutFault) : Type 0 where
  pub lock : holds_lock new ≡ holds_lock old
  pub renames : renames new ≡ renames old
  pub due : IsPutDue old new fault

abbrev pub FillsBy : {T : Type 0} → List Call → List Call → List ℕ → List ℕ → List ℕ → Option Told → Result T PutFault → Type 0
FillsBy old new draft path bytes seen (Ok x) = FilledBy old new draft path bytes seen
FillsBy old new draft path bytes seen (Err fault) = NotFilled old new fault

-- after the rename the draft's handle tells its stamp; or that fails, and it is not known
pub record TellsStamp (old new : List Call) (mark : Mark) : Type 0 where
  pub told : Told
  pub calls : new ≡ ToldDraft told ∷ old
  pub stamped : mark ≡ Seen told.stamp

pub record TellsNothing (old new : List Call) (mark : Mark) : Type 0 where
  pub fault : DiskFault
  pub calls : new ≡ Undone fault ∷ old
  pub unseen : mark ≡ Unseen

abbrev pub Tells : List Call → List Call → Mark → Type 0
Tells old new mark = TellsStamp old new mark ⊎ TellsNothing old new mark

-- and then the folder is synced, or that fails
pub record EndsBy (old new : List Call) : Type 0 where
  pub call : Call
  pub calls : new ≡ call ∷ old
  pub settles : (call ≡ Settled) ⊎ ((fault : DiskFault) × (call ≡ Undone fault))

pub record LandedBy (old new : List Call) (draft path bytes : List ℕ) (seen : Option Told) (mark : Mark) : Type 0 where
  pub filled : List Call
  pub fills : FilledBy old filled draft path bytes seen
  pub between : List Call
  pub tells : Tells filled between mark
  pub ends : EndsBy between new

pub record NotLandedBy (old new : List Call) (draft : List ℕ) (fault : PutFault) : Type 0 where
  pub lock : holds_lock new ≡ holds_lock old
  pub cleared : IsCleared new draft
  pub renames : renames new ≡ renames old
  pub due : IsPutDue old new fault

abbrev pub LandsBy : List Call → List Call → List ℕ → List ℕ → List ℕ → Option Told → Result Mark PutFault → Type 0
LandsBy old new draft path bytes seen (Ok mark) = LandedBy old new draft path bytes seen mark
LandsBy old new draft path bytes seen (Err fault) = NotLandedBy old new draft fault

-- A file is replaced: it was open and unchanged, and probed; the draft was made for its owner alone where it takes a file's place, was given
-- that file's mode, and took its place by the one rename.
pub record PutBy (old new : List Call) (draft path bytes : List ℕ) (mark now : Mark) : Type 0 where
  pub seen : Option Told
  pub writable : MayBeWritten seen
  pub unchanged : IsUnchanged seen mark
  pub started : List Call
  pub probe : IfSome seen (λ _. probed started ≡ Some path)
  pub asked : asked_mode started ≡ Some (first_mode seen)
  pub empty : written started ≡ []
  pub rights : HasRights started seen
  pub renames : renames started ≡ renames old
  pub lands : LandedBy started new draft path bytes seen now

-- It is not, in a folder that is held: nothing was renamed, a call failed or a look showed the reason, and no draft is left under the lock.
pub record NotPutHeld (old new : List Call) (draft : List ℕ) (fault : PutFault) : Type 0 where
  pub renames : renames new ≡ renames old
  pub due : IsPutDue old new fault
  pub cleared : IsCleared new draft

-- the draft is made and takes the place of a file that was looked over
pub record StartedAndLanded (old new : List Call) (draft path bytes : List ℕ) (seen : Option Told) (now : Mark) : Type 0 where
  pub started : List Call
  pub probed : probed started ≡ probed old
  pub asked : asked_mode started ≡ Some (first_mode seen)
  pub empty : written started ≡ []
  pub rights : HasRights started seen
  pub renames : renames started ≡ renames old
  pub lands : LandedBy started new draft path bytes seen now

abbrev pub PutsSeenBy : List Call → List Call → List ℕ → List ℕ → List ℕ → Option Told → Result Mark PutFault → Type 0
PutsSeenBy old new draft path bytes seen (Ok now) = StartedAndLanded old new draft path bytes seen now
PutsSeenBy old new draft path bytes seen (Err fault) = NotPutHeld old new draft fault

abbrev pub PutsHeld : List Call → List Call → List ℕ → List ℕ → List ℕ → Mark → Result Mark PutFault → Type 0
PutsHeld old new draft path bytes mark (Ok now) = PutBy old new draft path bytes mark now
PutsHeld old new draft path bytes mark (Err fault) = NotPutHeld old new draft fault

-- It is not: nothing was renamed, a call failed or a look showed the reason, and no draft is left under the lock.
pub record NotPutBy (old new : List Call) (draft : List ℕ) (fault : PutFault) : Type 0 where
  pub renames : renames new ≡ renames old
  pub due : IsPutDue old new fault
  pub cleared : holds_lock old ≡ false → IsCleared new draft

abbrev pub PutsBy : List Call → List Call → List ℕ → List ℕ → List ℕ → Mark → Result Mark PutFault → Type 0
PutsBy old new draft path bytes mark (Ok now) = PutBy old new draft path bytes mark now
PutsBy old new draft path bytes mark (Err fault) = NotPutBy old new draft fault

-- and then draft and folder are closed, which was the last call
pub record PutsReleased (old new : List Call) (draft path bytes : List ℕ) (mark : Mark) (result : Result Mark PutFault) : Type 0 where
  pub before : List Call
  pub puts : PutsBy old before draft path bytes mark result
  pub released : new ≡ Released ∷ before
