-- What the log says of a file that is read.
use Rattle.std.specs.Prelude.{◌≡◌, ◌+◌, ◌≤◌, ℕ, List, [], ◌∷◌, Vec, Option, Some, None, Result, Ok, Err}
use Rattle.blob_store.specs.Logs.{Call, Looked, OpenedFile, ToldFile, ReadFile, ClosedFile, IsSameTold}
use Rattle.blob_store.specs.declared.disk.Told.{Told}
use Rattle.blob_store.specs.declared.disk.DiskFault.{DiskFault}
use Rattle.blob_store.specs.declared.disk.Kind.TheVariants.{Regular}
use Rattle.blob_store.specs.declared.reads.Found.{Found}

-- how often a file was opened to be read
abbrev pub opens : List Call → ℕ
opens [] = 0
opens (OpenedFile path ∷ log) = opens log + 1
opens (call ∷ log) = opens log

-- A file was opened, seen to be a regular one, and read; and what is told of it did not change meanwhile. Then it was closed.
pub record ReadOnce (new : List Call) (path : List ℕ) (most : ℕ) (found : Found) : Type 0 where
  pub before : List Call
  pub again : Told
  pub calls : new ≡ ClosedFile ∷ ToldFile again ∷ ReadFile most found.bytes.items ∷ ToldFile found.told ∷ OpenedFile path ∷ before
  pub regular : found.told.kind ≡ Regular
  pub unchanged : IsSameTold found.told again

-- the last call opened a file
pub record IsOpened (log : List Call) (path : List ℕ) : Type 0 where
  pub before : List Call
  pub is : log ≡ OpenedFile path ∷ before

-- the file that is open is seen to be a regular one and read, and what is told of it does not change
pub record ReadOpen (old new : List Call) (most : ℕ) (found : Found) : Type 0 where
  pub again : Told
  pub calls : new ≡ ToldFile again ∷ ReadFile most found.bytes.items ∷ ToldFile found.told ∷ old
  pub regular : found.told.kind ≡ Regular
  pub unchanged : IsSameTold found.told again

-- or it is not, or it changed meanwhile
abbrev pub ReadsOpen : List Call → List Call → ℕ → Result (Option Found) DiskFault → Type 0
ReadsOpen old new most (Ok None) = opens new ≡ opens old
ReadsOpen old new most (Ok (Some found)) = ReadOpen old new most found
ReadsOpen old new most (Err fault) = opens new ≡ opens old

-- a file is opened at most so many times more, and read in one of these tries
abbrev pub TriesBy : ℕ → List Call → List Call → List ℕ → ℕ → Result (Option Found) DiskFault → Type 0
TriesBy more old new path most (Ok None) = opens new ≤ opens old + more
TriesBy more old new path most (Ok (Some found)) = ReadOnce new path most found × (opens new ≤ opens old + more)
TriesBy more old new path most (Err fault) = opens new ≤ opens old + more

-- A file is read in one of three tries; or nothing stands there, which was the last call.
abbrev pub ReadsBy : List Call → List Call → List ℕ → ℕ → Result (Option Found) DiskFault → Type 0
ReadsBy old new path most (Ok None) = new ≡ Looked path None ∷ old
ReadsBy old new path most (Ok (Some found)) = ReadOnce new path most found × (opens new ≤ opens old + 3)
ReadsBy old new path most (Err fault) = opens new ≤ opens old + 3

abbrev pub ReadsThere : List Call → List Call → List ℕ → ℕ → Result Found DiskFault → Type 0
ReadsThere old new path most (Ok found) = ReadOnce new path most found × (opens new ≤ opens old + 3)
ReadsThere old new path most (Err fault) = opens new ≤ opens old + 3
