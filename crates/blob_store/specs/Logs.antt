-- The calls that were made on a disk, the last first, each with its answer; and what they say of a file that is replaced or read.
use Rattle.std.specs.Prelude.{◌≡◌, ◌≢◌, ◌+◌, ◌<◌, ◌≤◌, ◌⊎◌, ℕ, Bool, true, false, List, [], ◌∷◌, ◌++◌, Option, Some, None, Result, Ok, Err, IfSome}
use Rattle.blob_store.specs.Drives.{HasNoLocks, fault_count}
use Rattle.blob_store.specs.declared.disk.Told.{Told}
use Rattle.blob_store.specs.declared.disk.Stamp.{Stamp}
use Rattle.blob_store.specs.declared.disk.Time.{Time}
use Rattle.blob_store.specs.declared.disk.Kind.TheVariants.{Regular}
use Rattle.blob_store.specs.declared.disk.DiskFault.{DiskFault}
use Rattle.blob_store.specs.declared.disk.DiskFault.TheVariants.{NoMemory, Failed}
use Rattle.blob_store.specs.declared.disk.LockTry.{LockTry}
use Rattle.blob_store.specs.declared.disk.LockTry.TheVariants.{Taken, Busy, Refused}

-- A call that was done, with its answer; a remove that failed; and any other call that failed.
pub data Call : Type 0 where
  Looked : List ℕ → Option Told → Call
  Followed : List ℕ → Told → Call
  Probed : List ℕ → Call
  OpenedFolder : List ℕ → Call
  Tried : LockTry → Call
  Waited : Call
  Created : List ℕ → ℕ → Call
  ToldDraft : Told → Call
  SetMode : ℕ → Call
  SetGroup : ℕ → Call
  SetOwner : ℕ → Bool → Call
  Wrote : List ℕ → Call
  Synced : Call
  Renamed : List ℕ → List ℕ → Call
  Removed : List ℕ → Call
  Unremoved : List ℕ → Call
  Settled : Call
  Released : Call
  OpenedFile : List ℕ → Call
  ToldFile : Told → Call
  ReadFile : ℕ → List ℕ → Call
  ClosedFile : Call
  Undone : DiskFault → Call

-- one call more
abbrev pub Notes : List Call → List Call → Call → Type 0
Notes old new call = new ≡ call ∷ old

-- one call more, which was done or failed
abbrev pub Says : {T : Type 0} → List Call → List Call → Result T DiskFault → (T → Call) → Type 0
Says old new (Ok x) call = new ≡ call x ∷ old
Says old new (Err fault) call = new ≡ Undone fault ∷ old

abbrev pub Drops : {T : Type 0} → List Call → List Call → List ℕ → Result T DiskFault → Type 0
Drops old new path (Ok x) = new ≡ Removed path ∷ old
Drops old new path (Err fault) = new ≡ Unremoved path ∷ old

-- the folder that is open is locked
abbrev pub holds_lock : List Call → Bool
holds_lock [] = false
holds_lock (Tried Taken ∷ log) = true
holds_lock (OpenedFolder folder ∷ log) = false
holds_lock (Released ∷ log) = false
holds_lock (call ∷ log) = holds_lock log

-- a draft was made since the folder was opened, and was neither renamed nor removed
abbrev pub draft_left : List Call → Bool
draft_left [] = false
draft_left (Created path mode ∷ log) = true
draft_left (Removed path ∷ log) = false
draft_left (Renamed from to ∷ log) = false
draft_left (OpenedFolder folder ∷ log) = false
draft_left (call ∷ log) = draft_left log

-- a draft may stand in the folder: until one was removed or renamed nothing is known, and one that was made stands there
abbrev pub may_stand : List Call → Bool
may_stand [] = true
may_stand (Created path mode ∷ log) = true
may_stand (Removed path ∷ log) = false
may_stand (Renamed from to ∷ log) = false
may_stand (call ∷ log) = may_stand log

-- the mode that the draft was made with
abbrev pub asked_mode : List Call → Option ℕ
asked_mode [] = None
asked_mode (Created path mode ∷ log) = Some mode
asked_mode (call ∷ log) = asked_mode log

-- the bytes that were written to the draft since it was made
abbrev pub written : List Call → List ℕ
written [] = []
written (Created path mode ∷ log) = []
written (Wrote bytes ∷ log) = written log ++ bytes
written (call ∷ log) = written log

-- the file that was probed last, since the folder was opened
abbrev pub probed : List Call → Option (List ℕ)
probed [] = None
probed (Probed path ∷ log) = Some path
probed (OpenedFolder folder ∷ log) = None
probed (call ∷ log) = probed log

-- how many renames were done
abbrev pub renames : List Call → ℕ
renames [] = 0
renames (Renamed from to ∷ log) = renames log + 1
renames (call ∷ log) = renames log

-- of a fault: whether memory is the reason
abbrev pub memory_count : DiskFault → ℕ
memory_count NoMemory = 1
memory_count Failed = 0

-- how many calls failed for want of memory
abbrev pub refused : List Call → ℕ
refused [] = 0
refused (Undone fault ∷ log) = refused log + memory_count fault
refused (call ∷ log) = refused log

-- how many failed otherwise, a lock that another program had among them
abbrev pub failed : List Call → ℕ
failed [] = 0
failed (Undone fault ∷ log) = failed log + fault_count fault
failed (Unremoved path ∷ log) = failed log + 1
failed (Tried Busy ∷ log) = failed log + 1
failed (Tried (Refused code) ∷ log) = failed log + 1
failed (call ∷ log) = failed log

-- Why a call over these calls failed: one of them did.
abbrev pub IsDue : List Call → List Call → DiskFault → Type 0
IsDue old new fault = (refused old + memory_count fault ≤ refused new) × (failed old + fault_count fault ≤ failed new)

-- two tell of one file
abbrev pub IsSameFile : Stamp → Stamp → Type 0
IsSameFile a b = (a.device ≡ b.device) × (a.inode ≡ b.inode)

-- two stamps are one: of a file with the same number, length and times
abbrev pub IsSameTime : Time → Time → Type 0
IsSameTime a b = (a.seconds ≡ b.seconds) × (a.nanoseconds ≡ b.nanoseconds)

abbrev pub IsSameStamp : Stamp → Stamp → Type 0
IsSameStamp a b = IsSameFile a b × ((a.length ≡ b.length) × (IsSameTime a.written b.written × IsSameTime a.changed b.changed))

-- nothing changed between two looks at a file: the stamp, the mode and the kind are the same
abbrev pub IsSameTold : Told → Told → Type 0
IsSameTold a b = IsSameStamp a.stamp b.stamp × ((a.mode ≡ b.mode) × (a.kind ≡ b.kind))

-- nor between two looks at a place
abbrev pub IsSameLook : Option Told → Option Told → Type 0
IsSameLook None None = Unit {0}
IsSameLook None (Some b) = ⊥
IsSameLook (Some a) None = ⊥
IsSameLook (Some a) (Some b) = IsSameTold a b

-- the last two calls saw that the draft stands under its path
pub record IsOwn (log : List Call) (draft : List ℕ) : Type 0 where
  pub made : Told
  pub there : Told
  pub before : List Call
  pub is : log ≡ Looked draft (Some there) ∷ ToldDraft made ∷ before
  pub same : IsSameFile made.stamp there.stamp

-- The last call looked at the place; before it, it was seen that the draft stands under its path, and before that it was synced.
pub record MayRename (log : List Call) (from to : List ℕ) : Type 0 where
  pub last : Option Told
  pub made : Told
  pub there : Told
  pub before : List Call
  pub is : log ≡ Looked to last ∷ Looked from (Some there) ∷ ToldDraft made ∷ Synced ∷ before
  pub same : IsSameFile made.stamp there.stamp

-- without the lock only the draft may be removed
abbrev pub MayDrop : List Call → List ℕ → Type 0
MayDrop log path = holds_lock log ≡ false → IsOwn log path

-- the last two calls opened a file and saw that it is a regular one
pub record MayRead (log : List Call) (path : List ℕ) : Type 0 where
  pub told : Told
  pub before : List Call
  pub is : log ≡ ToldFile told ∷ OpenedFile path ∷ before
  pub regular : told.kind ≡ Regular

-- whether a folder is locked, by the answer of its lock
abbrev pub Answers : LockTry → Result Bool DiskFault → Type 0
Answers Taken (Ok locked) = locked ≡ true
Answers Taken (Err fault) = ⊥
Answers Busy (Ok locked) = ⊥
Answers Busy (Err fault) = fault ≡ Failed
Answers (Refused code) (Ok locked) = (locked ≡ false) × HasNoLocks code
Answers (Refused code) (Err fault) = (fault ≡ Failed) × (HasNoLocks code → ⊥)

-- nothing was renamed, no draft made, and the counts of calls that failed did not fall
pub record IsQuiet (old new : List Call) : Type 0 where
  pub renames : renames new ≡ renames old
  pub refused : refused old ≤ refused new
  pub failed : failed old ≤ failed new

-- a folder is open and not locked, and no draft was made in it
pub record IsFree (old new : List Call) : Type 0 where
  pub free : holds_lock new ≡ false
  pub none : draft_left new ≡ false
  pub quiet : IsQuiet old new

-- A folder is held: the last call asked for its lock, and it is locked where the answer was so.
pub record Asked (new : List Call) (locked : Bool) : Type 0 where
  pub said : LockTry
  pub before : List Call
  pub is : new ≡ Tried said ∷ before
  pub answers : Answers said (Ok locked)
  pub free : holds_lock before ≡ false
  pub draft : draft_left before ≡ false

-- or it is not, and its lock was not taken
pub record NotHeld (old new : List Call) (fault : DiskFault) : Type 0 where
  pub renames : renames new ≡ renames old
  pub due : IsDue old new fault
  pub free : holds_lock old ≡ false → holds_lock new ≡ false

abbrev pub HoldsOrNot : List Call → List Call → Result Bool DiskFault → Type 0
HoldsOrNot old new (Ok locked) = IsQuiet old new × Asked new locked
HoldsOrNot old new (Err fault) = NotHeld old new fault

-- the lock, the draft and its first mode are as they were, and nothing was renamed
pub record KeepsRest (old new : List Call) : Type 0 where
  pub lock : holds_lock new ≡ holds_lock old
  pub draft : draft_left new ≡ draft_left old
  pub asked : asked_mode new ≡ asked_mode old
  pub probed : probed new ≡ probed old
  pub renames : renames new ≡ renames old

-- nor was anything written to it
pub record KeepsDraft (old new : List Call) : Type 0 where
  pub rest : KeepsRest old new
  pub written : written new ≡ written old

-- the draft has the mode of a file, which was the last call
abbrev pub IsGiven : List Call → Told → Type 0
IsGiven [] like = ⊥
IsGiven (call ∷ log) like = call ≡ SetMode like.mode

abbrev pub GivesPart : {T : Type 0} → List Call → List Call → Result T DiskFault → Type 0
GivesPart old new (Ok x) = KeepsDraft old new × IsQuiet old new
GivesPart old new (Err fault) = KeepsDraft old new × IsDue old new fault

abbrev pub GivesRights : {T : Type 0} → List Call → List Call → Told → Result T DiskFault → Type 0
GivesRights old new like (Ok x) = KeepsDraft old new × IsQuiet old new × IsGiven new like
GivesRights old new like (Err fault) = KeepsDraft old new × IsDue old new fault

-- the last call was a remove that failed
abbrev pub IsUnremoved : List Call → List ℕ → Type 0
IsUnremoved [] path = ⊥
IsUnremoved (call ∷ log) path = call ≡ Unremoved path

-- No draft is left where the folder is locked, or the remove of it failed.
abbrev pub IsCleared : List Call → List ℕ → Type 0
IsCleared log draft = holds_lock log ≡ true → draft_left log ≡ true → IsUnremoved log draft

-- Nor is one that another program left there.
abbrev pub IsGone : List Call → List ℕ → Type 0
IsGone log draft = holds_lock log ≡ true → may_stand log ≡ true → IsUnremoved log draft

-- a draft is dropped
pub record DropsDraft (old new : List Call) (draft : List ℕ) : Type 0 where
  pub lock : holds_lock new ≡ holds_lock old
  pub cleared : IsCleared new draft
  pub gone : IsGone new draft
  pub quiet : IsQuiet old new

-- no draft is left, and where the folder is locked, none of another program
pub record CanMake (log : List Call) : Type 0 where
  pub none : draft_left log ≡ false
  pub gone : holds_lock log ≡ true → may_stand log ≡ false

-- the place of the draft is cleared, where the folder is locked; or a remove failed
pub record ClearsDraft (old new : List Call) : Type 0 where
  pub lock : holds_lock new ≡ holds_lock old
  pub probed : probed new ≡ probed old
  pub can : CanMake new
  pub quiet : IsQuiet old new

abbrev pub ClearsBy : {T : Type 0} → List Call → List Call → List ℕ → Result T DiskFault → Type 0
ClearsBy old new draft (Ok x) = ClearsDraft old new
ClearsBy old new draft (Err fault) = (new ≡ Unremoved draft ∷ old) × (fault ≡ Failed)

-- The mode that a draft is made with: that of any new file, or, where it takes a file's place, one that opens it to nobody else.
abbrev pub first_mode : Option Told → ℕ
first_mode None = 0o666
first_mode (Some like) = 0o600

abbrev pub HasRights : List Call → Option Told → Type 0
HasRights log None = Unit {0}
HasRights log (Some like) = IsGiven log like

-- A draft is made, without bytes and with the rights of the file that it is to replace; or it is not, and none is left under the lock.
pub record StartsDraft (old new : List Call) (like : Option Told) : Type 0 where
  pub lock : holds_lock new ≡ holds_lock old
  pub probed : probed new ≡ probed old
  pub asked : asked_mode new ≡ Some (first_mode like)
  pub written : written new ≡ []
  pub rights : HasRights new like
  pub quiet : IsQuiet old new

pub record StartsNone (old new : List Call) (draft : List ℕ) (fault : DiskFault) : Type 0 where
  pub lock : holds_lock new ≡ holds_lock old
  pub cleared : IsCleared new draft
  pub gone : IsGone new draft
  pub renames : renames new ≡ renames old
  pub due : IsDue old new fault

abbrev pub StartsOrNot : {T : Type 0} → List Call → List Call → List ℕ → Option Told → Result T DiskFault → Type 0
StartsOrNot old new draft like (Ok x) = StartsDraft old new like
StartsOrNot old new draft like (Err fault) = StartsNone old new draft fault

-- bytes are written after those of the draft
abbrev pub WritesOrNot : {T : Type 0} → List Call → List Call → List ℕ → Result T DiskFault → Type 0
WritesOrNot old new bytes (Ok x) = KeepsRest old new × IsQuiet old new × (written new ≡ written old ++ bytes)
WritesOrNot old new bytes (Err fault) = KeepsRest old new × IsDue old new fault

-- and then the draft is synced
pub record SyncedBy (old new : List Call) (bytes : List ℕ) : Type 0 where
  pub before : List Call
  pub calls : new ≡ Synced ∷ before
  pub rest : KeepsRest old before
  pub quiet : IsQuiet old before
  pub written : written before ≡ written old ++ bytes

abbrev pub SyncsOrNot : {T : Type 0} → List Call → List Call → List ℕ → Result T DiskFault → Type 0
SyncsOrNot old new bytes (Ok x) = SyncedBy old new bytes
SyncsOrNot old new bytes (Err fault) = KeepsRest old new × IsDue old new fault
