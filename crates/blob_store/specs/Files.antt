-- What the files of a folder show as a store of blobs, and how one of them is replaced.
use Rattle.std.specs.Prelude.{◌≡◌, ◌≢◌, ◌+◌, ◌<◌, ◌≤◌, ◌⊎◌, ℕ, Bool, true, false, bit_and, List, [], ◌∷◌, ◌++◌, length, take, Vec, Option, Some, None, option_map, Result, Ok, Err, IfSome, if◌then◌else◌}
use Rattle.blob_store.specs.Names.{is_blob_name}
use Rattle.blob_store.specs.Marks.{mark_under}
use Rattle.blob_store.specs.Shelves.{Shelf, Standing, Known, Unknown}
use Rattle.blob_store.specs.Drives.{Drive, Entry, told_at, fault_count, IsInHeld, IsDraft, Alters, HasMode}
use Rattle.blob_store.specs.Logs.{IsSameStamp, IsSameFile}
use Rattle.blob_store.specs.declared.disk.Told.{Told}
use Rattle.blob_store.specs.declared.disk.Stamp.{Stamp}
use Rattle.blob_store.specs.declared.disk.DiskFault.{DiskFault}
use Rattle.blob_store.specs.declared.disk.Kind.TheVariants.{Regular}
use Rattle.blob_store.specs.declared.disk.DiskFault.TheVariants as disk_faults
use Rattle.blob_store.specs.declared.blobs.BlobFault.{BlobFault}
use Rattle.blob_store.specs.declared.blobs.BlobFault.TheVariants as blob_faults
use Rattle.blob_store.specs.declared.folder.Folder.{Folder}
use Rattle.blob_store.specs.declared.reads.Found.{Found}
use Rattle.blob_store.specs.declared.marks.Mark.{Mark}
use Rattle.blob_store.specs.declared.marks.Mark.TheVariants.{Never, Absent, Seen, Unseen}
use Rattle.blob_store.specs.declared.steps.PutFault.{PutFault}
use Rattle.blob_store.specs.declared.steps.PutFault.TheVariants.{NoMemory, Failed, Barred}

-- the path of a file in a folder: a slash (47) between them
abbrev pub path_in : List ℕ → List ℕ → List ℕ
path_in folder name = folder ++ 47 ∷ name

-- the name of the file that is being made: `.fedq.tmp`
abbrev pub draft_name : List ℕ
draft_name = 46 ∷ 102 ∷ 101 ∷ 100 ∷ 113 ∷ 46 ∷ 116 ∷ 109 ∷ 112 ∷ []

-- how many bytes of a file are read at most
abbrev pub most_bytes : ℕ
most_bytes = 67108865

-- the blob that stands under a name: the first bytes of its file
abbrev pub blob_in : Drive → List ℕ → List ℕ → Option (List ℕ)
blob_in d folder name = option_map (λ e. take most_bytes e.bytes) (d.at (path_in folder name))

-- what stands under a name: of a name that no blob has nothing is told
abbrev pub standing_in : Drive → List ℕ → List ℕ → Standing
standing_in d folder name = if is_blob_name name then Known (blob_in d folder name) else Unknown

-- what is known of a name, where what the disk holds is known or not
abbrev pub under_in : Option Drive → List ℕ → List ℕ → Standing
under_in None folder name = Unknown
under_in (Some d) folder name = standing_in d folder name

-- what the files of a folder show
abbrev pub folder_shelf : Option Drive → List ℕ → ℕ → Shelf
folder_shelf d folder failures = record { under = under_in d folder; failures = failures }

-- what stands there is what was read or put there last
abbrev pub IsUnchanged : Option Told → Mark → Type 0
IsUnchanged told Never = Unit {0}
IsUnchanged told Unseen = ⊥
IsUnchanged None Absent = Unit {0}
IsUnchanged (Some told) Absent = ⊥
IsUnchanged None (Seen stamp) = ⊥
IsUnchanged (Some told) (Seen stamp) = IsSameStamp told.stamp stamp

-- nothing stands there, or a regular file that somebody may write
abbrev pub MayBeWritten : Option Told → Type 0
MayBeWritten None = Unit {0}
MayBeWritten (Some told) = (told.kind ≡ Regular) × (bit_and told.mode 0o222 ≢ 0)

abbrev pub put_fault : DiskFault → PutFault
put_fault disk_faults.NoMemory = NoMemory
put_fault disk_faults.Failed = Failed

-- how many calls that failed a fault tells of
abbrev pub count_of : PutFault → ℕ
count_of NoMemory = 0
count_of Failed = 1
count_of Barred = 0

-- how often the lock of a folder is asked for
abbrev pub tries : ℕ
tries = 500

-- A folder is open, and its lock was another program's each time that it was asked for, before this round.
pub record Waits (old new : Drive) (folder : List ℕ) (round : ℕ) : Type 0 where
  pub at : new.at ≡ old.at
  pub held : new.held ≡ Some folder
  pub lock : new.locked ≡ false
  pub faults : new.faults ≡ old.faults
  pub waits : new.waits + 1 ≡ round

-- A folder is held, locked or not.
pub record HoldsFolder (old new : Drive) (folder : List ℕ) (locked : Bool) : Type 0 where
  pub at : new.at ≡ old.at
  pub held : new.held ≡ Some folder
  pub lock : new.locked ≡ locked
  pub faults : new.faults ≡ old.faults

-- Or it is not: a call that failed is counted, or another program had its lock each time.
pub record HoldsNone (old new : Drive) (fault : DiskFault) : Type 0 where
  pub at : new.at ≡ old.at
  pub failed : fault ≡ disk_faults.Failed → (old.faults < new.faults) ⊎ (new.waits ≡ tries)

abbrev pub Holds : Drive → Drive → List ℕ → Result Bool DiskFault → Type 0
Holds old new folder (Ok locked) = HoldsFolder old new folder locked
Holds old new folder (Err fault) = HoldsNone old new fault

-- the draft stands under its path
abbrev pub IsOwnLook : Told → Option Told → Type 0
IsOwnLook made None = ⊥
IsOwnLook made (Some there) = IsSameFile made.stamp there.stamp

-- What is known of the drive is looked at: nothing changes, or a call failed.
abbrev pub Sees : {T : Type 0} → Drive → Drive → Result T PutFault → Type 0
Sees old new (Ok x) = new ≡ old
Sees old new (Err fault) = (fault ≢ Barred) × (new ≡ record old { faults = old.faults + count_of fault })

-- the draft is seen: never is memory the reason why not
abbrev pub SeesDraft : {T : Type 0} → Drive → Drive → Result T PutFault → Type 0
SeesDraft old new (Ok x) = new ≡ old
SeesDraft old new (Err fault) = (fault ≡ Failed) × (new ≡ record old { faults = old.faults + 1 })

-- Of a file that was made beside another, put in its place or given up: what of the drive stays.
pub record KeepsOthers (old new : Drive) (draft path : List ℕ) : Type 0 where
  pub others : (other : List ℕ) → other ≢ draft → other ≢ path → new.at other ≡ old.at other
  pub held : new.held ≡ old.held

-- The draft took the place of the file: it has these bytes more, all synced, and the draft's kind and mode.
pub record Fills (old new : Drive) (draft path bytes : List ℕ) : Type 0 where
  pub was : Entry
  pub drafted : old.at draft ≡ Some was
  pub now : Entry
  pub there : new.at path ≡ Some now
  pub content : now.bytes ≡ was.bytes ++ bytes
  pub synced : now.synced ≡ true
  pub kind : now.told.kind ≡ was.told.kind
  pub mode : now.told.mode ≡ was.told.mode
  pub gone : new.at draft ≡ None
  pub making : new.making ≡ Some path
  pub keeps : KeepsOthers old new draft path
  pub faults : new.faults ≡ old.faults

-- All but the draft stays, which is still being made.
pub record GivesUp (old new : Drive) (draft : List ℕ) (fault : PutFault) : Type 0 where
  pub true_fault : fault ≢ Barred
  pub others : (other : List ℕ) → other ≢ draft → new.at other ≡ old.at other
  pub drafted : IsDraft new draft
  pub held : new.held ≡ old.held
  pub locked : new.locked ≡ old.locked
  pub faults : new.faults ≡ old.faults + count_of fault

-- The draft has these bytes more, all synced.
pub record DraftWritten (old new : Drive) (draft bytes : List ℕ) : Type 0 where
  pub was : Entry
  pub now : Entry
  pub there : old.at draft ≡ Some was
  pub here : new.at draft ≡ Some now
  pub content : now.bytes ≡ was.bytes ++ bytes
  pub synced : now.synced ≡ true
  pub kind : now.told.kind ≡ was.told.kind
  pub mode : now.told.mode ≡ was.told.mode
  pub others : (other : List ℕ) → other ≢ draft → new.at other ≡ old.at other
  pub held : new.held ≡ old.held
  pub locked : new.locked ≡ old.locked
  pub making : new.making ≡ old.making
  pub faults : new.faults ≡ old.faults

abbrev pub WritesDraft : {T : Type 0} → Drive → Drive → List ℕ → List ℕ → Result T DiskFault → Type 0
WritesDraft old new draft bytes (Ok x) = DraftWritten old new draft bytes
WritesDraft old new draft bytes (Err fault) = GivesUp old new draft (put_fault fault)

abbrev pub FillsOrNot : {T : Type 0} → Drive → Drive → List ℕ → List ℕ → List ℕ → Result T PutFault → Type 0
FillsOrNot old new draft path bytes (Ok x) = Fills old new draft path bytes
FillsOrNot old new draft path bytes (Err fault) = GivesUp old new draft fault

-- a draft is being made, to take the place of a file in the folder that is held
pub record IsReady (d : Drive) (draft path : List ℕ) : Type 0 where
  pub drafted : IsDraft d draft
  pub held : IsInHeld d path

-- What is seen of the new file: its stamp, or nothing where a call that failed is counted.
abbrev pub IsStamped : Mark → Told → ℕ → ℕ → Type 0
IsStamped (Seen stamp) told old new = told.stamp ≡ stamp
IsStamped Unseen told old new = old < new
IsStamped Never told old new = ⊥
IsStamped Absent told old new = ⊥

-- the stamp of the draft, or a call failed
abbrev pub TellsMark : Drive → Drive → List ℕ → Mark → Type 0
TellsMark old new path (Seen stamp) = (new ≡ old) × IfSome (told_at old path) (λ told. told.stamp ≡ stamp)
TellsMark old new path Unseen = new ≡ record old { faults = old.faults + 1 }
TellsMark old new path Never = ⊥
TellsMark old new path Absent = ⊥

-- A file is replaced whole: these bytes stand there, all synced, with the mode of the file that stood there, which was open and
-- unchanged. `now` is what is seen of it. The folder is released.
pub record ReplacesWhole (old new : Drive) (draft path : List ℕ) (mark : Mark) (bytes : List ℕ) (now : Mark) : Type 0 where
  pub writable : MayBeWritten (told_at old path)
  pub unchanged : IsUnchanged (told_at old path) mark
  pub entry : Entry
  pub there : new.at path ≡ Some entry
  pub content : entry.bytes ≡ bytes
  pub synced : entry.synced ≡ true
  pub kind : entry.told.kind ≡ Regular
  pub mode : IfSome (told_at old path) (λ l. entry.told.mode ≡ l.mode)
  pub stamped : IsStamped now entry.told old.faults new.faults
  pub gone : new.at draft ≡ None
  pub others : (other : List ℕ) → other ≢ draft → other ≢ path → new.at other ≡ old.at other
  pub settled : new.faults ≡ old.faults → new.settled ≡ true

-- A file is not replaced: all but the draft is as it was, and a draft that was made is gone, or it could not be removed. Where a call is
-- the reason it is counted, or another program had the folder's lock each time that it was asked for.
pub record Keeps (old new : Drive) (draft path : List ℕ) (mark : Mark) (fault : PutFault) : Type 0 where
  pub failed : fault ≡ Failed → (old.faults < new.faults) ⊎ (new.waits ≡ tries)
  pub barred : fault ≡ Barred → MayBeWritten (told_at old path) → IsUnchanged (told_at old path) mark → ⊥
  pub others : (other : List ℕ) → other ≢ draft → new.at other ≡ old.at other
  pub cleared : new.at draft ≢ None → new.at draft ≢ old.at draft → old.faults + count_of fault < new.faults

-- The same of a file that was seen to be open and unchanged.
pub record PutSeen (old new : Drive) (draft path : List ℕ) (seen : Option Told) (bytes : List ℕ) (now : Mark) : Type 0 where
  pub entry : Entry
  pub there : new.at path ≡ Some entry
  pub content : entry.bytes ≡ bytes
  pub synced : entry.synced ≡ true
  pub kind : entry.told.kind ≡ Regular
  pub mode : IfSome seen (λ l. entry.told.mode ≡ l.mode)
  pub stamped : IsStamped now entry.told old.faults new.faults
  pub gone : new.at draft ≡ None
  pub others : (other : List ℕ) → other ≢ draft → other ≢ path → new.at other ≡ old.at other
  pub settled : new.faults ≡ old.faults → new.settled ≡ true

pub record KeepsSeen (old new : Drive) (draft : List ℕ) (fault : PutFault) : Type 0 where
  pub true_fault : fault ≢ Barred
  pub failed : fault ≡ Failed → old.faults < new.faults
  pub others : (other : List ℕ) → other ≢ draft → new.at other ≡ old.at other
  pub cleared : new.at draft ≢ None → new.at draft ≢ old.at draft → old.faults + count_of fault < new.faults

abbrev pub PutsSeen : Drive → Drive → List ℕ → List ℕ → Option Told → List ℕ → Result Mark PutFault → Type 0
PutsSeen old new draft path seen bytes (Ok now) = PutSeen old new draft path seen bytes now
PutsSeen old new draft path seen bytes (Err fault) = KeepsSeen old new draft fault

abbrev pub PutsOrNot : Drive → Drive → List ℕ → List ℕ → Mark → List ℕ → Result Mark PutFault → Type 0
PutsOrNot old new draft path mark bytes (Ok now) = ReplacesWhole old new draft path mark bytes now
PutsOrNot old new draft path mark bytes (Err fault) = Keeps old new draft path mark fault

-- and the folder is released
pub record PutsAll (old new : Drive) (draft path : List ℕ) (mark : Mark) (bytes : List ℕ) (result : Result Mark PutFault) : Type 0 where
  pub puts : PutsOrNot old new draft path mark bytes result
  pub released : new.held ≡ None

-- A file is looked at, and may be replaced; or not, and a call that failed is counted.
abbrev pub LooksOver : Drive → Drive → List ℕ → Mark → Result (Option Told) PutFault → Type 0
LooksOver old new path mark (Ok told) = (new ≡ old) × (told ≡ told_at old path) × MayBeWritten told × IsUnchanged told mark
LooksOver old new path mark (Err fault) =
    (new ≡ record old { faults = old.faults + count_of fault })
    × (fault ≡ Barred → MayBeWritten (told_at old path) → IsUnchanged (told_at old path) mark → ⊥)

-- the draft has the mode of a file; or a call failed, and it is still being made
pub record GivesTo (old new : Drive) (draft : List ℕ) (count : ℕ) : Type 0 where
  pub was : Entry
  pub now : Entry
  pub there : old.at draft ≡ Some was
  pub here : new.at draft ≡ Some now
  pub others : (other : List ℕ) → other ≢ draft → new.at other ≡ old.at other
  pub bytes : now.bytes ≡ was.bytes
  pub kind : now.told.kind ≡ was.told.kind
  pub held : new.held ≡ old.held
  pub locked : new.locked ≡ old.locked
  pub making : new.making ≡ old.making
  pub faults : new.faults ≡ old.faults + count

abbrev pub GivesOrNot : {T : Type 0} → Drive → Drive → List ℕ → Result T DiskFault → Type 0
GivesOrNot old new draft (Ok x) = GivesTo old new draft 0
GivesOrNot old new draft (Err fault) = GivesTo old new draft (fault_count fault)

abbrev pub GivesMode : {T : Type 0} → Drive → Drive → List ℕ → ℕ → Result T DiskFault → Type 0
GivesMode old new draft mode (Ok x) = GivesTo old new draft 0 × HasMode new draft mode
GivesMode old new draft mode (Err fault) = GivesTo old new draft (fault_count fault)

-- the place of the draft is cleared, where the folder is locked
pub record ClearedPlace (old new : Drive) (draft : List ℕ) : Type 0 where
  pub left : old.locked ≡ false → new.at draft ≡ old.at draft
  pub gone : old.locked ≡ true → new.at draft ≡ None
  pub others : (other : List ℕ) → other ≢ draft → new.at other ≡ old.at other
  pub held : new.held ≡ old.held
  pub locked : new.locked ≡ old.locked
  pub faults : new.faults ≡ old.faults

abbrev pub ClearsPlace : {T : Type 0} → Drive → Drive → List ℕ → Result T DiskFault → Type 0
ClearsPlace old new draft (Ok x) = ClearedPlace old new draft
ClearsPlace old new draft (Err fault) = new ≡ record old { faults = old.faults + fault_count fault }

-- the folder is synced, or a call that failed is counted
abbrev pub Settles : Drive → Drive → Type 0
Settles old new = (new ≡ record old { settled = true }) ⊎ (new ≡ record old { faults = old.faults + 1 })

-- A draft is removed, or a call that failed is counted.
pub record DropsAt (old new : Drive) (draft : List ℕ) : Type 0 where
  pub others : (other : List ℕ) → other ≢ draft → new.at other ≡ old.at other
  pub cleared : new.at draft ≢ None → old.faults < new.faults
  pub held : new.held ≡ old.held
  pub faults : old.faults ≤ new.faults

-- The draft is made: a regular file without bytes. Where the folder is not locked, nothing stood there before.
pub record Started (old new : Drive) (draft : List ℕ) (like : Option Told) : Type 0 where
  pub free : old.locked ≡ false → old.at draft ≡ None
  pub entry : Entry
  pub there : new.at draft ≡ Some entry
  pub bytes : entry.bytes ≡ []
  pub kind : entry.told.kind ≡ Regular
  pub mode : IfSome like (λ l. entry.told.mode ≡ l.mode)
  pub others : (other : List ℕ) → other ≢ draft → new.at other ≡ old.at other
  pub making : new.making ≡ Some draft
  pub held : new.held ≡ old.held
  pub locked : old.locked ≡ false → new.locked ≡ false
  pub faults : new.faults ≡ old.faults

-- It is not made: nothing new stands there, or a further call that failed is counted, the remove of it.
pub record NotStarted (old new : Drive) (draft : List ℕ) (fault : DiskFault) : Type 0 where
  pub cleared : new.at draft ≢ None → new.at draft ≢ old.at draft → old.faults + fault_count fault < new.faults
  pub others : (other : List ℕ) → other ≢ draft → new.at other ≡ old.at other
  pub held : new.held ≡ old.held
  pub faults : old.faults + fault_count fault ≤ new.faults

abbrev pub Starts : {T : Type 0} → Drive → Drive → List ℕ → Option Told → Result T DiskFault → Type 0
Starts old new draft like (Ok x) = Started old new draft like
Starts old new draft like (Err fault) = NotStarted old new draft fault

-- The draft took the place of the file, and the folder was synced, or a call that failed is counted.
pub record Landed (old new : Drive) (draft path bytes : List ℕ) (now : Mark) : Type 0 where
  pub was : Entry
  pub drafted : old.at draft ≡ Some was
  pub entry : Entry
  pub there : new.at path ≡ Some entry
  pub content : entry.bytes ≡ was.bytes ++ bytes
  pub synced : entry.synced ≡ true
  pub kind : entry.told.kind ≡ was.told.kind
  pub mode : entry.told.mode ≡ was.told.mode
  pub stamped : IsStamped now entry.told old.faults new.faults
  pub gone : new.at draft ≡ None
  pub keeps : KeepsOthers old new draft path
  pub settled : new.faults ≡ old.faults → new.settled ≡ true

-- It did not, and is gone, or a further call that failed is counted.
pub record NotLanded (old new : Drive) (draft : List ℕ) (fault : PutFault) : Type 0 where
  pub true_fault : fault ≢ Barred
  pub cleared : new.at draft ≢ None → old.faults + count_of fault < new.faults
  pub others : (other : List ℕ) → other ≢ draft → new.at other ≡ old.at other
  pub held : new.held ≡ old.held
  pub faults : old.faults + count_of fault ≤ new.faults

abbrev pub Lands : Drive → Drive → List ℕ → List ℕ → List ℕ → Result Mark PutFault → Type 0
Lands old new draft path bytes (Ok now) = Landed old new draft path bytes now
Lands old new draft path bytes (Err fault) = NotLanded old new draft fault

-- no regular file stands there, but something does
abbrev pub IsNotRegular : Option Entry → Type 0
IsNotRegular None = ⊥
IsNotRegular (Some entry) = entry.told.kind ≢ Regular

-- what a read found: the first bytes of what stands there, and of a regular file what is told of it
abbrev pub FoundIn : Option Entry → ℕ → Option Found → Type 0
FoundIn None most None = Unit {0}
FoundIn None most (Some found) = ⊥
FoundIn (Some entry) most None = ⊥
FoundIn (Some entry) most (Some found) =
    (found.bytes.items ≡ take most entry.bytes) × (entry.told.kind ≡ Regular → found.told ≡ entry.told)

-- a read fails: for want of memory, or since a call failed, or what stands there is no regular file
abbrev pub ReadFails : Drive → Drive → List ℕ → DiskFault → Type 0
ReadFails old new path disk_faults.NoMemory = new ≡ old
ReadFails old new path disk_faults.Failed = (new ≡ record old { faults = old.faults + 1 }) ⊎ ((new ≡ old) × IsNotRegular (old.at path))

abbrev pub ReadsFile : Drive → Drive → List ℕ → ℕ → Result (Option Found) DiskFault → Type 0
ReadsFile old new path most (Ok found) = (new ≡ old) × FoundIn (old.at path) most found
ReadsFile old new path most (Err fault) = ReadFails old new path fault

-- one try to read a file: nothing is found where it changed meanwhile
abbrev pub TriesFile : Drive → Drive → List ℕ → ℕ → Result (Option Found) DiskFault → Type 0
TriesFile old new path most (Ok None) = (new ≡ old) × IsNotRegular (old.at path)
TriesFile old new path most (Ok (Some found)) = (new ≡ old) × FoundIn (old.at path) most (Some found)
TriesFile old new path most (Err fault) = ReadFails old new path fault

-- what stands there is read
abbrev pub FindsThere : Drive → Drive → List ℕ → ℕ → Result Found DiskFault → Type 0
FindsThere old new path most (Ok found) = (new ≡ old) × FoundIn (old.at path) most (Some found)
FindsThere old new path most (Err fault) = ReadFails old new path fault

abbrev pub SeesRegular : {T : Type 0} → Drive → Drive → List ℕ → Result T DiskFault → Type 0
SeesRegular old new path (Ok x) = new ≡ old
SeesRegular old new path (Err fault) = ReadFails old new path fault

abbrev pub disk_fault : DiskFault → BlobFault
disk_fault disk_faults.NoMemory = blob_faults.NoMemory
disk_fault disk_faults.Failed = blob_faults.Device

abbrev pub blob_fault : PutFault → BlobFault
blob_fault NoMemory = blob_faults.NoMemory
blob_fault Failed = blob_faults.Device
blob_fault Barred = blob_faults.Device

-- The first bytes of what stands under a path are found, or not: nothing changes but the count of calls that failed.
abbrev pub FindsFile : {A : Type 0} → Drive → Drive → List ℕ → Result (Option (Vec ℕ A)) BlobFault → Type 0
FindsFile old new path (Ok found) =
    (new ≡ old) × (option_map (λ v. v.items) found ≡ option_map (λ e. take most_bytes e.bytes) (old.at path))
FindsFile old new path (Err blob_faults.NoMemory) = new ≡ old
FindsFile old new path (Err blob_faults.Device) = (new ≡ record old { faults = old.faults + 1 }) ⊎ ((new ≡ old) × IsNotRegular (old.at path))
FindsFile old new path (Err blob_faults.Worn) = ⊥

-- what was seen last of the file of a blob
abbrev pub mark_of : {D : Type 0} → Folder D → List ℕ → Mark
mark_of f name = mark_under f.marks name

-- what was seen of the file of a blob, where it is a regular one: that it is not there, or its stamp
abbrev pub IsSeen : Option Entry → Mark → Type 0
IsSeen None mark = mark ≡ Absent
IsSeen (Some entry) mark = entry.told.kind ≡ Regular → mark ≡ Seen entry.told.stamp

-- of the other blobs it stays what it was
abbrev pub KeepsMarks : {D : Type 0} → Folder D → Folder D → List ℕ → Type 0
KeepsMarks old new name = (other : List ℕ) → other ≢ name → mark_of new other ≡ mark_of old other

-- A blob's file is replaced, or all but the draft stays: for want of memory, or since a call failed, another program had the folder's lock
-- each time, the file is not open or not what was seen last, or the blob is too large.
pub record PutsBlob (old new : Drive) (folder name : List ℕ) (mark now : Mark) (bytes : List ℕ) : Type 0 where
  pub puts : ReplacesWhole old new (path_in folder draft_name) (path_in folder name) mark bytes now
  pub size : length bytes ≤ most_bytes

pub record KeepsBlobs (old new : Drive) (folder name : List ℕ) (mark : Mark) (bytes : List ℕ) (fault : BlobFault) : Type 0 where
  pub not_worn : fault ≢ blob_faults.Worn
  pub others : (other : List ℕ) → other ≢ path_in folder draft_name → new.at other ≡ old.at other
  pub device : fault ≡ blob_faults.Device → new.faults ≡ old.faults → new.waits ≢ tries → length bytes ≤ most_bytes
      → MayBeWritten (told_at old (path_in folder name)) → IsUnchanged (told_at old (path_in folder name)) mark → ⊥
  pub cleared : new.at (path_in folder draft_name) ≢ None → new.at (path_in folder draft_name) ≢ old.at (path_in folder draft_name)
      → old.faults < new.faults

-- `mark` is what was seen last before, and `now` what is afterwards
abbrev pub PutsFile : {T : Type 0} → Drive → Drive → List ℕ → List ℕ → Mark → Mark → List ℕ → Result T BlobFault → Type 0
PutsFile old new folder name mark now bytes (Ok x) = PutsBlob old new folder name mark now bytes
PutsFile old new folder name mark now bytes (Err fault) = KeepsBlobs old new folder name mark bytes fault

-- the same by what is seen of the new file
abbrev pub PutsStamped : Drive → Drive → List ℕ → List ℕ → Mark → List ℕ → Result Mark BlobFault → Type 0
PutsStamped old new folder name mark bytes (Ok now) = PutsBlob old new folder name mark now bytes
PutsStamped old new folder name mark bytes (Err fault) = KeepsBlobs old new folder name mark bytes fault
