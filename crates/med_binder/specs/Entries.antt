-- What looking up the tables of FROM answers.
use Rattle.std.specs.Prelude.{◌≡◌, List, [], map, All, flat_map, Result, Ok, Err, Vec}
use Rattle.med_value.specs.declared.cause.Cause.{Cause}
use Rattle.med_syntax.specs.QueryTree.{EntryTree}
use Rattle.bind_names.specs.Prelude.{table_shape, entry_place, entry_causes, TellsCause}
use Rattle.bind_names.specs.declared.table.TableView.{TableView}
use Rattle.med_binder.specs.Binding.{IsEntryOf}
use Rattle.med_binder.specs.declared.bound.BoundEntry.{BoundEntry}

-- the table that an entry stands for
abbrev pub BindsEntry : List TableView → EntryTree → Result BoundEntry Cause → Type 0
BindsEntry tables e (Ok b) =
    IsEntryOf tables b × (b.place ≡ entry_place (map table_shape tables) e) × (entry_causes (map table_shape tables) e ≡ [])
BindsEntry tables e (Err c) = TellsCause (entry_causes (map table_shape tables) e) c

-- these entries stand for tables, at these places
pub record AreEntriesOf (tables : List TableView) (es : List EntryTree) (bs : List BoundEntry) : Type 0 where
  pub each : All (IsEntryOf tables) bs
  pub places : map (λ (e : BoundEntry). e.place) bs ≡ map (entry_place (map table_shape tables)) es

abbrev pub BindsEntries : {A : Type 0} → List TableView → List EntryTree → Result (Vec BoundEntry A) Cause → Type 0
BindsEntries tables es (Ok v) = AreEntriesOf tables es v.items × (flat_map (entry_causes (map table_shape tables)) es ≡ [])
BindsEntries tables es (Err c) = TellsCause (flat_map (entry_causes (map table_shape tables)) es) c
