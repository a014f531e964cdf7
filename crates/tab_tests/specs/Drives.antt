-- What stands on a disk in memory.
use Rattle.std.specs.Prelude.{◌≡◌, ◌≢◌, ℕ, Bool, List, ◌++◌, Option, Some, option_map, string_bytes}
use Rattle.std.specs.BTreeMap.{get_by_text}
use Rattle.blob_store.specs.Drives.{Drive, Entry}
use Rattle.tab_tests.specs.declared.files.Stored.{Stored}
use Rattle.tab_tests.specs.declared.files.Files.{Files}
use Rattle.tab_tests.specs.declared.disk.MemoryDisk.{MemoryDisk}

-- a file
abbrev pub entry_of : Stored → Entry
entry_of s = record { told = s.told; bytes = s.bytes.items; synced = s.synced }

-- what stands under a path
abbrev pub at_path : Files → List ℕ → Option Entry
at_path f path = option_map entry_of (get_by_text f.files path)

abbrev pub drive_of : MemoryDisk → Drive
drive_of d = record {
  at = at_path d.files;
  held = option_map string_bytes d.held;
  locked = d.locked;
  waits = d.waits;
  making = option_map string_bytes d.making;
  settled = d.settled;
  faults = d.faults;
}

-- a file has these bytes more, synced or not, and all others are as before
pub record ChangesAt (old new : List ℕ → Option Entry) (path bytes : List ℕ) (synced : Bool) : Type 0 where
  pub was : Entry
  pub there : old path ≡ Some was
  pub now : new path ≡ Some (record { told = was.told; bytes = was.bytes ++ bytes; synced = synced })
  pub others : (other : List ℕ) → other ≢ path → new other ≡ old other
