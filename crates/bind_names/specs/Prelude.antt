-- The names of this crate that the crates above cite most, passed on from one place. Declares nothing.
pub use Rattle.bind_names.specs.Aggregates.{has_aggregate, is_ungrouped}
pub use Rattle.bind_names.specs.Meaning.{Meant, Output, SortKey, Sorting, aggregate_of, by_keys, by_places, chain_meant, chains_meant, columns_from, conditions_of, core_meant, core_outputs, cores_meant, expression, expression_name, first_value, function_named, group_meant, group_of, group_place, groups_rows, is_empty, is_named, item_at, item_outputs, join_meant, joined, joins_meant, key_direction, key_meant, key_place, keys_sorting, limit_of, meant, meant_in, one_place, output_name, output_place, output_values, outputs_of, places_named, position, resolved, resolved_all, shown_name, sort_key, sorted_by, sorting_in, sorting_of, starred, starred_in, with_join}
pub use Rattle.bind_names.specs.Naming.{NameCauses, alias_causes, are_same, asked_causes, chain_name_causes, column_causes, condition_name_causes, core_alias_causes, core_asked_causes, core_causes_in, counted_causes, distinct_causes, entered_causes, entry_causes, group_name_causes, item_name_causes, joins_name_causes, key_name_causes, name_causes, name_causes_of_all, on_name_causes, once_known, order_causes_in, order_name_causes, output_key_causes, output_name_causes, place_name_causes, position_causes, select_name_causes, sort_key_causes, star_causes, statement_name_causes, twice_causes}
pub use Rattle.bind_names.specs.Scope.{Scope, TableShape, candidates, candidates_from, chain_entries, columns_of, entries_of, entry_columns, entry_place, entry_shape, exposed_name, from_scope, has_entry, is_known, is_meant, joined_entry, kind_among, kind_at, place_from, place_named, places_from, query_entries, query_scope, scope_of, shapes_of, table_named, table_shape, visible}
pub use Rattle.bind_names.specs.Seen.{name_of, seen_entry}
pub use Rattle.bind_names.specs.Telling.{Adds, FindsKind, Means, Passes, TellsCause, with_places}
