-- Whether the files at the path of a database are still those that were opened.
use Rattle.std.specs.Prelude.{◌≡◌, ◌+◌, ◌%◌, ◌^◌, Bool, true, false, ◌&&◌, Option, Some, None, nat_eq}
use Rattle.sqlite_writes.specs.declared.watch.FileId.{FileId}
use Rattle.sqlite_writes.specs.declared.watch.FilePair.{FilePair}
use Rattle.sqlite_writes.specs.declared.watch.Place.{Place}
use Rattle.sqlite_writes.specs.declared.watch.Watch.{Watch}

-- two names are of one file: of the same device and the same inode
abbrev pub is_file : FileId → FileId → Bool
is_file a b = nat_eq a.device b.device && nat_eq a.inode b.inode

-- the database file and the log are the same
abbrev pub are_files : FilePair → FilePair → Bool
are_files a b = is_file a.db b.db && is_file a.log b.log

-- these files were found; nothing is found where a path has no file
abbrev pub are_found : FilePair → Option FilePair → Bool
are_found files None = false
are_found files (Some found) = are_files files found

-- a look at a place: it is counted, and it says whether the files that were opened were found
abbrev pub LooksAt : Option Place → Watch → Watch → Bool → Type 0
LooksAt None old new same = (new ≡ old) × (same ≡ true)
LooksAt (Some place) old new same = (new.looks ≡ (old.looks + 1) % 2 ^ 64) × (same ≡ are_found place.files new.found)

-- A watch has looked once, and says whether the files at its path are those that were opened. Of a database in memory it says so always.
abbrev pub Looks : Watch → Watch → Bool → Type 0
Looks old new same = (new.place ≡ old.place) × LooksAt old.place old new same
