-- What blobs in memory show whose device fails once.
use Rattle.std.specs.Prelude.{ℕ}
use Rattle.blob_store.specs.Shelves.{Shelf}
use Rattle.blob_store.specs.declared.memory.MemoryBlobs.{MemoryBlobs}
use Rattle.blob_store.specs.Memory.{shelf_of}

-- what they show, with this count of failures
abbrev pub faulty : MemoryBlobs → ℕ → Shelf
faulty m failures = record { under = (shelf_of m).under; failures = failures }
