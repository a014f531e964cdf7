-- The table that is written.
use Rattle.std.proofs.Common.{◌≡◌, ◌<◌, ℕ, length, List, [], ◌∷◌, Some, None, option_map, map, slice_get, slice_index_or, ap, sym, subst, refl, ◌∙◌}
use Rattle.std.proofs.lemmas.Option.{slice_get-map, slice_get-get_or}
use Rattle.med_value.specs.declared.cause.Cause.TheVariants.{UndefinedTable}
use Rattle.med_syntax.specs.Prelude.{Name, EntryTree}
use Rattle.bind_names.specs.Scope.{place_named}
use Rattle.med_catalog.specs.Prelude.{TableObject, Objects, table_named, mode_for}
use Rattle.med_binder.specs.Prelude.{writing_causes, table_causes, target_right_causes, shapes, AreNamedOnce, attached, IsPlaceOf}
use Rattle.med_binder.specs.declared.bound_table.BoundTable.{BoundTable}
use Rattle.med_binder.proofs.Rows.{causes_missing, causes_there, columns_there, place_found, within_by}
use Rattle.bind_write.specs.Meaning.{columns_in}
use Rattle.bind_write.specs.Naming.{target_causes}

abbrev entry_of : Name → EntryTree
entry_of name = record { table = name; alias = None }

pub target_missing : (o : Objects) (name : Name) → table_named o name ≡ None → target_causes (shapes o) name ≡ UndefinedTable ∷ []
target_missing o name h = causes_missing o (entry_of name) h

pub target_known : (o : Objects) (name : Name) (t : TableObject) → table_named o name ≡ Some t → target_causes (shapes o) name ≡ []
target_known o name t h = causes_there o (entry_of name) t h

pub target_columns : (o : Objects) (name : Name) (t : TableObject) → table_named o name ≡ Some t → columns_in (shapes o) name ≡ t.columns
target_columns o name t h = columns_there o (entry_of name) t h

pub rights_there : (o : Objects) (user name : Name) (t : TableObject) → table_named o name ≡ Some t → target_right_causes o user name ≡ writing_causes (mode_for o user t.server)
rights_there o user name t h = ap (table_causes writing_causes o user) h

pub target_placed : (o : Objects) (name : Name) (t : TableObject) (place : ℕ) → AreNamedOnce o → slice_get o.tables place ≡ Some t → t.name ≡ name → place_named (shapes o) name ≡ Some place
target_placed o name t place once there is = place_found o.tables name place t once there is

pub place_within : (o : Objects) (bound : List BoundTable) (place : ℕ) (t : TableObject) → length bound ≡ length o.tables → slice_get o.tables place ≡ Some t → place < length bound
place_within o bound place t many there = subst (λ n. place < n) (sym many) (within_by o.tables place t there)

pub place_there : (bound : List BoundTable) (place : ℕ) (else : BoundTable) → place < length bound
    → IsPlaceOf (map attached bound) place (record { source = (slice_index_or bound place else).source; table = (slice_index_or bound place else).number.number })
place_there bound place else within = record {
  at = attached (slice_index_or bound place else);
  there = slice_get-map attached bound place ∙ ap (option_map attached) (slice_get-get_or bound place else within);
  source = refl;
  number = refl;
}
