-- How a table and its blob are written. `old` is what the blobs show before and `new` after it.
use Rattle.std.specs.Prelude.{◌≡◌, ℕ, List, Bool, true, false, Result, Ok, Err}
use Rattle.fdw_api.specs.Prelude.{Change, bumped}
use Rattle.fdw_api.specs.declared.interface.Fault.{Fault}
use Rattle.fdw_api.specs.declared.interface.Fault.TheVariants.{NoMemory, Source, Refused}
use Rattle.blob_store.specs.Shelves.{Shelf, Replaces}
use Rattle.place_wrapper.specs.Forms.{Form, Rewrites, Same, RefusesChanges}

-- the blobs are as they were: for want of memory, or by a fault of theirs that is counted
abbrev pub Fails : Fault → Shelf → Shelf → Type 0
Fails NoMemory old new = new ≡ old
Fails Source old new = new ≡ record old { failures = bumped old.failures }
Fails (Refused c) old new = ⊥

-- an image is put in the place of a blob, or not
abbrev pub PutsOrNot : {T : Type 0} → Shelf → List ℕ → List ℕ → Shelf → Result T Fault → Type 0
PutsOrNot old remote image new (Ok x) = Replaces old remote image new
PutsOrNot old remote image new (Err fault) = Fails fault old new

-- a draft was kept, or given up
abbrev pub Ends : {T : Type 0} → (T → Type 0) → (T → Type 0) → Bool → T → Type 0
Ends makes leaves true t = makes t
Ends makes leaves false t = leaves t

-- changes are not written: by a cause of the run that stands for them, or since the blobs fail
abbrev pub Unwrites : {T : Type 0} → Form T → T → List Change → Fault → Shelf → Shelf → Type 0
Unwrites F t changes NoMemory old new = new ≡ old
Unwrites F t changes Source old new = Fails Source old new
Unwrites F t changes (Refused c) old new = RefusesChanges F t changes (Refused c) × (new ≡ old)

-- u is the table after changes, and its image stands in its blob
pub record Written {T : Type 0} (F : Form T) (t : T) (changes : List Change) (u : T) (old new : Shelf) : Type 0 where
  pub image : List ℕ
  pub replaces : Replaces old (F.bound t).remote image new
  pub rewrites : Rewrites F t changes u image

-- it is, or it is the table as it was
abbrev pub WritesOrNot : {A T : Type 0} → Form T → T → List Change → T → Shelf → Shelf → Result A Fault → Type 0
WritesOrNot F t changes u old new (Ok x) = Written F t changes u old new
WritesOrNot F t changes u old new (Err fault) = Same F t u × Unwrites F t changes fault old new
