-- A write that is under way, as the interface of wrappers shows it.
use Rattle.std.specs.Prelude.{true, [], ◌∷◌, ◌++◌, map}
use Rattle.med_value.specs.Datum.{tuple}
use Rattle.fdw_api.specs.Prelude.{Change, Inserts, Updates, Deletes, Staging}
use Rattle.wrapper_parts.specs.declared.changes.RowChange.{RowChange}
use Rattle.wrapper_parts.specs.declared.changes.RowChange.TheVariants.{Insert, Update, Delete}
use Rattle.wrapper_parts.specs.declared.changes.StagedWrite.{StagedWrite}

abbrev pub change_is : RowChange → Change
change_is (Insert r) = Inserts (tuple r)
change_is (Update id r) = Updates id (tuple r)
change_is (Delete id) = Deletes id

abbrev pub write_is : StagedWrite → Staging
write_is w = record { table = w.table; changes = map change_is w.changes.items; broken = w.broken }

-- a write with one change more, and one that is broken
abbrev pub with_change : StagedWrite → Change → Staging
with_change w c = record { table = w.table; changes = map change_is w.changes.items ++ c ∷ []; broken = w.broken }

abbrev pub broken_write : StagedWrite → Staging
broken_write w = record { table = w.table; changes = map change_is w.changes.items; broken = true }
