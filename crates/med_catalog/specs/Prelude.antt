-- The names of this crate that the crates above cite most, passed on from one place. Declares nothing.
pub use Rattle.med_catalog.specs.Changes.{AreDeclared, Asks, CanChange, IsDeclared, IsNewMapping, IsNewServer, IsNewTable, Makes, ObjectChange, changed, is_skipped, makes, new_mapping, new_server, new_table, new_wrapper, no_mapping, no_server, no_table, no_wrapper, nothing, skips, with_first, without}
pub use Rattle.med_catalog.specs.DdlCauses.{CauseRow, DdlCauses, IsTold, NoneStands, Stands, are_options_unknown, are_texts_bad, create_table_rows, create_table_rows_at, ddl_rows, drop_table_rows, has_dependents, has_mappings, is_bound, lease_rows, nothing_leased, object_rows, phase, some_options}
pub use Rattle.med_catalog.specs.Objects.{MappingObject, Objects, ServerObject, TableObject, server_named, table_named}
pub use Rattle.med_catalog.specs.Options.{column_settings, has_bad_text, has_unknown, is_refused, is_unknown, only, remote_label, repeats, setting_at, shares_member, table_settings, text_of, texts_of}
pub use Rattle.med_catalog.specs.Rights.{mode_for, user_meant}
pub use Rattle.med_catalog.specs.Telling.{AreClear}
pub use Rattle.med_catalog.specs.View.{change_of, objects, server_of, table_of}
