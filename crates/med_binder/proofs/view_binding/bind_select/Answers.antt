use Rattle.std.proofs.Common.{map, flat_map, ap, sym, ◌∙◌}
use Rattle.std.proofs.lemmas.Result.{err_from_is_err_and}
use Rattle.med_syntax.specs.QueryView.{select_tree}
use Rattle.bind_names.specs.Prelude.{meant_in, entry_causes, select_name_causes, table_shape, entry_place, seen_entry}
use Rattle.bind_types.specs.Typing.{select_type_causes}
use Rattle.med_binder.specs.Binding.{IsEntryOf}
use Rattle.med_binder.proofs.Binds.{names_first, binds_over, entries_over}
use Rattle.med_binder.proofs.LookSteps.{table_told}
use Rattle.med_binder.proofs.view_binding.bind_select.Goals as goal

pub returns-in_err-entries-clause-binds : goal.returns-in_err-entries-clause-binds
returns-in_err-entries-clause-binds c =
    let tables = map table_shape c.args.tables.now in
    let q = select_tree c.args.select.now in
    let p = err_from_is_err_and c.from_residual-in_err-entries.result c.from_residual-in_err-entries.ensures.1 in
    rw (p.1, p.2) (names_first (select_name_causes tables q) (select_type_causes tables q) _
    (table_told tables q _ _ (ap (map seen_entry) c.as_slice.ensures.value ∙ c.in_ok-written.ensures.0) c.in_err-entries.ensures))

pub bind_known-requires : goal.bind_known-requires
bind_known-requires c =
    let tables = map table_shape c.args.tables.now in
    ap (flat_map (entry_causes tables)) (sym (ap (map seen_entry) c.as_slice.ensures.value ∙ c.in_ok-written.ensures.0)) ∙ c.in_ok-entries.ensures.1

pub returns-clause-binds : goal.returns-clause-binds
returns-clause-binds c =
    let tables = map table_shape c.args.tables.now in
    let q = select_tree c.args.select.now in
    let e = ap (map seen_entry) c.as_slice.ensures.value ∙ c.in_ok-written.ensures.0 in
    binds_over (select_name_causes tables q) (select_type_causes tables q) (meant_in tables q) _ c.bind_known.result (c.in_ok-entries.ensures.0.places ∙ ap (map (entry_place tables)) e) c.bind_known.ensures.binds

pub returns-clause-entries : goal.returns-clause-entries
returns-clause-entries c =
    let tables = map table_shape c.args.tables.now in
    let q = select_tree c.args.select.now in
    entries_over (IsEntryOf c.args.tables.now) (select_name_causes tables q) (select_type_causes tables q) (meant_in tables q) _ c.bind_known.result c.in_ok-entries.ensures.0.each c.bind_known.ensures.binds
