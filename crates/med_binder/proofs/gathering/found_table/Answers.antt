use Rattle.std.proofs.Common.{◌≡◌, ◌<◌, ◌∙◌, length, map, Some, option_map, slice_get, slice_index_or, ap, sym, subst, refl}
use Rattle.std.proofs.lemmas.List.{length-map}
use Rattle.std.proofs.lemmas.Option.{slice_get-map, slice_get-get_or}
use Rattle.med_value.specs.Column.{column_of}
use Rattle.med_syntax.specs.QueryView.{entry_tree}
use Rattle.bind_names.specs.Prelude.{TableShape, place_named, entry_causes}
use Rattle.bind_names.proofs.Causes.{tells_one}
use Rattle.med_binder.proofs.EntrySteps.{entry_placed}
use Rattle.med_catalog.specs.Prelude.{table_named, objects, table_of}
use Rattle.med_binder.specs.Tables.{shapes}
use Rattle.med_binder.specs.Places.{attached}
use Rattle.med_binder.proofs.Rows.{causes_missing, causes_there, columns_there, place_found, within_by}
use Rattle.med_binder.proofs.gathering.found_table.Goals as goal

pub returns-in-None-clause-table : goal.returns-in-None-clause-table
returns-in-None-clause-table c =
    let o = objects c.args.catalog.now in
    let e = entry_tree c.args.entry.now in
    tells_one (entry_causes (shapes o) e) _ (causes_missing o e (sym (ap (table_named o) c.as_str-name.ensures.value) ∙ c.in-None.ensures.named))

pub returns-in-Some-clause-table : goal.returns-in-Some-clause-table
returns-in-Some-clause-table c =
    let o = objects c.args.catalog.now in
    let e = entry_tree c.args.entry.now in
    let t = table_of c.as_str-name.result.now c.in-Some.table.now in
    let named = sym (ap (table_named o) c.as_str-name.ensures.value) ∙ c.in-Some.ensures.named in (
      ap (λ n. let s : TableShape = record { name = n; columns = map column_of c.as_slice-columns.result.now } in s) c.as_str-name.ensures.value
          ∙ ap (λ cs. let s : TableShape = record { name = e.table; columns = cs } in s)
          (ap (map column_of) c.as_slice-columns.ensures.value ∙ sym (columns_there o e t named)),
      causes_there o e t named,
    )

pub returns-in-Some-clause-place : goal.returns-in-Some-clause-place
returns-in-Some-clause-place c =
    let o = objects c.args.catalog.now in
    let e = entry_tree c.args.entry.now in
    let t = table_of c.as_str-name.result.now c.in-Some.table.now in
    let place = c.in-Some.place in
    let there : slice_get o.tables place ≡ Some t = c.in-Some.ensures.there in
    let found : place_named (shapes o) e.table ≡ Some place = place_found o.tables e.table place t c.requires.once there c.as_str-name.ensures.value in
    let within : place < length c.args.bound.now = subst (λ n. place < n) (sym c.requires.many) (within_by o.tables place t there) in
    sym (ap (slice_get (map attached c.args.bound.now)) (sym (entry_placed (shapes o) e place found))
    ∙ slice_get-map attached c.args.bound.now place ∙ ap (option_map attached) (slice_get-get_or c.args.bound.now place _ within))

pub returns-in-Some-clause-entry : goal.returns-in-Some-clause-entry
returns-in-Some-clause-entry c =
    let o = objects c.args.catalog.now in
    let e = entry_tree c.args.entry.now in
    let t = table_of c.as_str-name.result.now c.in-Some.table.now in
    let place = c.in-Some.place in
    let there : slice_get o.tables place ≡ Some t = c.in-Some.ensures.there in
    let named = sym (ap (table_named o) c.as_str-name.ensures.value) ∙ c.in-Some.ensures.named in
    let found : place_named (shapes o) e.table ≡ Some place = place_found o.tables e.table place t c.requires.once there c.as_str-name.ensures.value in
    let within : place < length c.args.bound.now = subst (λ n. place < n) (sym c.requires.many) (within_by o.tables place t there) in
    record {
      place = entry_placed (shapes o) e place found;
      width = ap (λ xs. length xs) c.as_slice-columns.ensures.value ∙ sym (ap (λ xs. length xs) (columns_there o e t named) ∙ length-map c.in-Some.table.now.columns.items column_of);
      there = record { at = attached (slice_index_or c.args.bound.now place _); there = slice_get-map attached c.args.bound.now place ∙ ap (option_map attached) (slice_get-get_or c.args.bound.now place _ within); source = refl; number = refl };
    }
