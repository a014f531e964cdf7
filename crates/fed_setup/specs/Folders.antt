-- The folder whose files a source has.
use Rattle.std.specs.Prelude.{Option, Some, None}
use Rattle.wrapper_parts.specs.declared.either.EitherSource.{EitherSource}
use Rattle.wrapper_parts.specs.declared.either.EitherSource.TheVariants.{First, Second}
use Rattle.fdw_api.specs.declared.lift.Lift.{Lift}
use Rattle.blob_store.specs.declared.folder.Folder.{Folder}
use Rattle.csv_wrapper.specs.declared.wrapper.CsvWrapper.{CsvWrapper}
use Rattle.jsonl_wrapper.specs.declared.wrapper.JsonlWrapper.{JsonlWrapper}

-- the folder of a source of CSV files or of JSON lines; no other has one (`g` and `h` are what makes a folder a store of blobs)
abbrev pub folder_in : {L D V : Type 0} {g h : _}
    → EitherSource L (EitherSource (EitherSource (Lift (CsvWrapper (Folder V) g)) (Lift (JsonlWrapper (Folder V) h))) D) → Option (Folder V)
folder_in (First list) = None
folder_in (Second (First (First csv))) = Some csv.inner.inner.blobs
folder_in (Second (First (Second jsonl))) = Some jsonl.inner.inner.blobs
folder_in (Second (Second database)) = None
