-- What a disk holds, and what its calls do. `old` is before the call and `new` after it.
use Rattle.std.specs.Prelude.{◌≡◌, ◌≢◌, ◌+◌, ◌⊎◌, ℕ, Bool, true, false, List, [], ◌∷◌, ◌++◌, length, take, Vec, Option, Some, None, option_map, Result, Ok, Err, OnOk, IfSome}
use Rattle.blob_store.specs.declared.disk.Told.{Told}
use Rattle.blob_store.specs.declared.disk.LockTry.{LockTry}
use Rattle.blob_store.specs.declared.disk.LockTry.TheVariants.{Taken, Busy, Refused}
use Rattle.blob_store.specs.declared.disk.Kind.TheVariants.{Regular}
use Rattle.blob_store.specs.declared.disk.DiskFault.{DiskFault}
use Rattle.blob_store.specs.declared.disk.DiskFault.TheVariants.{NoMemory, Failed}

-- What stands under a path: what is told of it, the bytes that a read of it gives, and whether they were synced.
pub record Entry : Type 0 where
  pub told : Told
  pub bytes : List ℕ
  pub synced : Bool

-- A disk: what stands under each path; the folder that is open, and whether it is locked; how often its lock was another program's since it
-- was opened; the path of the draft; whether the folder was synced after the last rename; and how many calls failed.
pub record Drive : Type 0 where
  pub at : List ℕ → Option Entry
  pub held : Option (List ℕ)
  pub locked : Bool
  pub waits : ℕ
  pub making : Option (List ℕ)
  pub settled : Bool
  pub faults : ℕ

-- by these error numbers alone, EINVAL, ENOSYS and EOPNOTSUPP, the system says that a file system has no locks
abbrev pub HasNoLocks : ℕ → Type 0
HasNoLocks code = (code ≡ 22) ⊎ ((code ≡ 38) ⊎ (code ≡ 95))

-- a call does nothing: for want of memory, or it failed and is counted
abbrev pub Refuses : DiskFault → Drive → Drive → Type 0
Refuses NoMemory old new = new ≡ old
Refuses Failed old new = new ≡ record old { faults = old.faults + 1 }

-- a call did what it says, or nothing
abbrev pub Does : {T : Type 0} → Drive → Drive → Result T DiskFault → (T → Type 0) → Type 0
Does old new (Ok x) did = did x
Does old new (Err fault) did = Refuses fault old new

-- under a path stands this now, and all else as before
pub record Puts (old new : Drive) (path : List ℕ) (entry : Option Entry) : Type 0 where
  pub there : new.at path ≡ entry
  pub others : (other : List ℕ) → other ≢ path → new.at other ≡ old.at other

-- what is told of what stands under a path
abbrev pub told_at : Drive → List ℕ → Option Told
told_at d path = option_map (λ e. e.told) (d.at path)

-- what stands there is looked at
pub record LooksAt (old new : Drive) (path : List ℕ) (told : Option Told) : Type 0 where
  pub same : new ≡ old
  pub tells : told ≡ told_at old path

-- what a link leads to is looked at
abbrev pub FollowsAt : Drive → Drive → List ℕ → Told → Type 0
FollowsAt old new path told = (new ≡ old) × (told_at old path ≢ None)

-- a folder is opened, and is not locked
abbrev pub Opens : Drive → Drive → List ℕ → Type 0
Opens old new folder = new ≡ record old { held = Some folder; locked = false; waits = 0 }

-- Its lock is asked for. A lock that another program has is no call that failed, nor is a file system without locks: EINVAL (22), ENOSYS
-- (38) and EOPNOTSUPP (95).
abbrev pub Tries : Drive → Drive → LockTry → Type 0
Tries old new Taken = new ≡ record old { locked = true }
Tries old new Busy = new ≡ record old { waits = old.waits + 1 }
Tries old new (Refused code) = (HasNoLocks code → new ≡ old) × ((HasNoLocks code → ⊥) → new ≡ record old { faults = old.faults + 1 })

-- a path is one in the folder that is held
abbrev pub IsIn : Option (List ℕ) → List ℕ → Type 0
IsIn None path = ⊥
IsIn (Some folder) path = take (length folder + 1) path ≡ folder ++ 47 ∷ []

abbrev pub IsInHeld : Drive → List ℕ → Type 0
IsInHeld d path = IsIn d.held path

-- a new file without bytes is made
pub record Creates (old new : Drive) (path : List ℕ) : Type 0 where
  pub free : old.at path ≡ None
  pub told : Told
  pub puts : Puts old new path (Some (record { told = told; bytes = []; synced = false }))
  pub kind : told.kind ≡ Regular
  pub making : new.making ≡ Some path
  pub held : new.held ≡ old.held
  pub locked : new.locked ≡ old.locked
  pub faults : new.faults ≡ old.faults

-- a regular file stands there
abbrev pub IsRegularFile : Option Entry → Type 0
IsRegularFile None = ⊥
IsRegularFile (Some entry) = entry.told.kind ≡ Regular

-- a file is being made under this path, and stands there
pub record IsDraft (d : Drive) (path : List ℕ) : Type 0 where
  pub making : d.making ≡ Some path
  pub file : IsRegularFile (d.at path)

-- Where the folder is not locked, another program may be making what stands under a path: then no file may be removed but the one that
-- this disk is making.
abbrev pub MayRemove : Drive → List ℕ → Type 0
MayRemove d path = d.locked ≡ false → d.making ≡ Some path

-- what is told of the draft by its handle is what is told of the file under its path
abbrev pub TellsDraft : Drive → Drive → List ℕ → Told → Type 0
TellsDraft old new path told = (new ≡ old) × (told_at old path ≡ Some told)

-- what is told of the draft changes, and its bytes stay
pub record Alters (old new : Drive) (path : List ℕ) : Type 0 where
  pub was : Entry
  pub now : Entry
  pub there : old.at path ≡ Some was
  pub puts : Puts old new path (Some now)
  pub bytes : now.bytes ≡ was.bytes
  pub synced : now.synced ≡ was.synced
  pub kind : now.told.kind ≡ was.told.kind
  pub held : new.held ≡ old.held
  pub locked : new.locked ≡ old.locked
  pub making : new.making ≡ old.making
  pub faults : new.faults ≡ old.faults

-- what stands under a path has this mode
abbrev pub HasMode : Drive → List ℕ → ℕ → Type 0
HasMode d path mode = IfSome (told_at d path) (λ told. told.mode ≡ mode)

pub record SetsMode (old new : Drive) (path : List ℕ) (mode : ℕ) : Type 0 where
  pub alters : Alters old new path
  pub has : HasMode new path mode

abbrev pub fault_count : DiskFault → ℕ
fault_count NoMemory = 0
fault_count Failed = 1

abbrev pub faults_of : {T : Type 0} → Result T DiskFault → ℕ
faults_of (Ok x) = 0
faults_of (Err fault) = fault_count fault

-- A write to a file that is being made: it has these bytes more, all that were to be written or a front of them where it was refused. Of
-- what is told of it kind and mode stay.
pub record Writes {T : Type 0} (old new : Drive) (path bytes : List ℕ) (result : Result T DiskFault) : Type 0 where
  pub was : Entry
  pub now : Entry
  pub front : List ℕ
  pub there : old.at path ≡ Some was
  pub puts : Puts old new path (Some now)
  pub content : now.bytes ≡ was.bytes ++ front
  pub kind : now.told.kind ≡ was.told.kind
  pub mode : now.told.mode ≡ was.told.mode
  pub whole : OnOk result (front ≡ bytes)
  pub held : new.held ≡ old.held
  pub locked : new.locked ≡ old.locked
  pub making : new.making ≡ old.making
  pub faults : new.faults ≡ old.faults + faults_of result

-- a sync of a file that is being made
pub record Syncs (old new : Drive) (path : List ℕ) : Type 0 where
  pub was : Entry
  pub told : Told
  pub there : old.at path ≡ Some was
  pub puts : Puts old new path (Some (record { told = told; bytes = was.bytes; synced = true }))
  pub kind : told.kind ≡ was.told.kind
  pub mode : told.mode ≡ was.told.mode
  pub held : new.held ≡ old.held
  pub locked : new.locked ≡ old.locked
  pub making : new.making ≡ old.making
  pub faults : new.faults ≡ old.faults

-- a regular file stands there whose bytes were synced
abbrev pub IsWholeFile : Option Entry → Type 0
IsWholeFile None = ⊥
IsWholeFile (Some entry) = (entry.synced ≡ true) × (entry.told.kind ≡ Regular)

abbrev pub IsWhole : Drive → List ℕ → Type 0
IsWhole d path = IsWholeFile (d.at path)

-- A file is put in the place of another: kind, mode, bytes and whether they were synced stay. The draft's handle goes with it.
pub record Renames (old new : Drive) (from to : List ℕ) : Type 0 where
  pub was : Entry
  pub now : Entry
  pub moved : old.at from ≡ Some was
  pub there : new.at to ≡ Some now
  pub bytes : now.bytes ≡ was.bytes
  pub synced : now.synced ≡ was.synced
  pub kind : now.told.kind ≡ was.told.kind
  pub mode : now.told.mode ≡ was.told.mode
  pub gone : new.at from ≡ None
  pub others : (other : List ℕ) → other ≢ from → other ≢ to → new.at other ≡ old.at other
  pub making : old.making ≡ Some from → new.making ≡ Some to
  pub held : new.held ≡ old.held
  pub locked : new.locked ≡ old.locked
  pub settled : new.settled ≡ false
  pub faults : new.faults ≡ old.faults

-- nothing stands under a path any more
pub record Removes (old new : Drive) (path : List ℕ) : Type 0 where
  pub puts : Puts old new path None
  pub held : new.held ≡ old.held
  pub locked : new.locked ≡ old.locked
  pub faults : new.faults ≡ old.faults

-- a file that stands there is opened to be read
abbrev pub OpensFile : Drive → Drive → List ℕ → Type 0
OpensFile old new path = (new ≡ old) × (told_at old path ≢ None)

-- what is told of the file that is open: of a regular file what is told of it by its path
pub record TellsFile (old new : Drive) (path : List ℕ) (told : Told) : Type 0 where
  pub same : new ≡ old
  pub tells : IfSome (told_at old path) (λ there. there.kind ≡ Regular → told ≡ there)

-- the first bytes of what stands there are read
pub record ReadsAt {A : Type 0} (old new : Drive) (path : List ℕ) (most : ℕ) (bytes : Vec ℕ A) : Type 0 where
  pub same : new ≡ old
  pub finds : IfSome (old.at path) (λ e. bytes.items ≡ take most e.bytes)
