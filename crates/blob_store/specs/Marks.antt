-- What was seen last of the files of a folder.
use Rattle.std.specs.Prelude.{ℕ, List, unwrap_or}
use Rattle.std.specs.BTreeMap.{get_by_text}
use Rattle.blob_store.specs.declared.marks.Marks.{Marks}
use Rattle.blob_store.specs.declared.marks.Mark.{Mark}
use Rattle.blob_store.specs.declared.marks.Mark.TheVariants.{Never}

-- what was seen last of the file of this name
abbrev pub mark_under : Marks → List ℕ → Mark
mark_under m name = unwrap_or (get_by_text m.marks name) Never
