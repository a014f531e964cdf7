-- What blobs are as what a source holds.
use Rattle.std.specs.Prelude.{ℕ, List, None, option_map, if◌then◌else◌}
use Rattle.fdw_api.specs.Kinds.{Bytes, Holding, Known, Unknown}
use Rattle.fdw_api.specs.declared.interface.Fault.{Fault}
use Rattle.fdw_api.specs.declared.interface.Fault.TheVariants.{NoMemory, Source}
use Rattle.blob_store.specs.Names.{is_blob_name}
use Rattle.blob_store.specs.Shelves.{Shelf, Standing, Known as KnownBlob, Unknown as UnknownBlob}
use Rattle.blob_store.specs.declared.blobs.BlobFault.{BlobFault}
use Rattle.blob_store.specs.declared.blobs.BlobFault.TheVariants as blob

-- what is known of a blob is known of the remote table of its name
abbrev pub holding_of : Standing → Holding
holding_of (KnownBlob found) = Known (option_map Bytes found)
holding_of UnknownBlob = Unknown

-- what stands under a remote name: the blob of this name, and nothing under what is no blob's name
abbrev pub held_under : Shelf → List ℕ → Holding
held_under shelf remote = if is_blob_name remote then holding_of (shelf.under remote) else Known None

-- a fault of the blobs as it is told: want of memory, or the source's
abbrev pub fault_is : BlobFault → Fault
fault_is blob.NoMemory = NoMemory
fault_is blob.Device = Source
fault_is blob.Worn = Source
