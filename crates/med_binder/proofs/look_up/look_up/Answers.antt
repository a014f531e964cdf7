use Rattle.std.proofs.Common.{◌+◌, ◌∷◌, List, length, map, flat_map, ap, refl, sym, ◌∙◌}
use Rattle.std.proofs.lemmas.Result.{err_from_is_err_and}
use Rattle.med_syntax.specs.declared.statement.Chain.{Chain}
use Rattle.med_syntax.specs.QueryView.{chain_tree, core_tree, key_tree, select_tree}
use Rattle.bind_names.specs.Prelude.{key_direction, sorting_of, core_meant, cores_meant, core_alias_causes, core_asked_causes, table_shape, scope_of, entries_of, from_scope}
use Rattle.bind_names.proofs.Causes.{tells_left, tells_right, tells_same, none_of_two}
use Rattle.bind_query.specs.Resolving.{sorting_form}
use Rattle.bind_types.specs.Typing.{core_types}
use Rattle.med_binder.proofs.CoreSteps.{others_sorted}
use Rattle.med_binder.proofs.LookSteps.{alias_same, name_told, entered_clear, head_told, cores_told, all_clear}
use Rattle.med_binder.proofs.look_up.look_up.Goals as goal

pub returns-in_err-check_names : goal.returns-in_err-check_names
returns-in_err-check_names c =
    let tables = map table_shape c.args.tables.now in
    let q = select_tree c.args.select.now in
    let own = c.in_ok-seen.ensures.0 ∙ ap (λ (chains : List Chain). from_scope tables (map chain_tree chains)) c.as_slice.ensures.value in
    let p = err_from_is_err_and c.from_residual-in_err-check_names.result c.from_residual-in_err-check_names.ensures.1 in
    rw (p.1, p.2) (name_told tables q _ (tells_left (core_alias_causes q.core) (flat_map core_alias_causes q.others) _
    (tells_same _ _ _ (alias_same tables q.core _ _ c.as_slice-2.ensures.value own) c.in_err-check_names.ensures)))

pub returns-in_err-check_each_names : goal.returns-in_err-check_each_names
returns-in_err-check_each_names c =
    let tables = map table_shape c.args.tables.now in
    let q = select_tree c.args.select.now in
    let p = err_from_is_err_and c.from_residual-in_err-check_each_names.result c.from_residual-in_err-check_each_names.ensures.1 in
    rw (p.1, p.2) (name_told tables q _ (tells_right (core_alias_causes q.core) (flat_map core_alias_causes q.others) _
    (tells_same _ _ _ (ap (λ xs. flat_map core_alias_causes (map core_tree xs)) c.as_slice-3.ensures.value) c.in_err-check_each_names.ensures)))

pub first_core-requires : goal.first_core-requires
first_core-requires c =
    ap scope_of c.as_slice-4.ensures.value ∙ c.in_ok-seen.ensures.0 ∙ ap (λ (chains : List Chain). from_scope (map table_shape c.args.tables.now) (map chain_tree chains)) c.as_slice.ensures.value

pub returns-in_err-first : goal.returns-in_err-first
returns-in_err-first c =
    let tables = map table_shape c.args.tables.now in
    let q = select_tree c.args.select.now in
    let own = c.in_ok-seen.ensures.0 ∙ ap (λ (chains : List Chain). from_scope tables (map chain_tree chains)) c.as_slice.ensures.value in
    let alone = none_of_two (core_alias_causes q.core) (flat_map core_alias_causes q.others)
    (sym (alias_same tables q.core _ _ c.as_slice-2.ensures.value own) ∙ c.in_ok-check_names.ensures)
    (ap (λ xs. flat_map core_alias_causes (map core_tree xs)) (sym c.as_slice-3.ensures.value) ∙ c.in_ok-check_each_names.ensures) in
    let p = err_from_is_err_and c.from_residual-in_err-first.result c.from_residual-in_err-first.ensures.1 in
    rw (p.1, p.2) (head_told tables q _ (entered_clear tables q c.requires alone) c.in_err-first.ensures)

pub returns-in_err-found : goal.returns-in_err-found
returns-in_err-found c =
    let tables = map table_shape c.args.tables.now in
    let q = select_tree c.args.select.now in
    let own = c.in_ok-seen.ensures.0 ∙ ap (λ (chains : List Chain). from_scope tables (map chain_tree chains)) c.as_slice.ensures.value in
    let alone = none_of_two (core_alias_causes q.core) (flat_map core_alias_causes q.others)
    (sym (alias_same tables q.core _ _ c.as_slice-2.ensures.value own) ∙ c.in_ok-check_names.ensures)
    (ap (λ xs. flat_map core_alias_causes (map core_tree xs)) (sym c.as_slice-3.ensures.value) ∙ c.in_ok-check_each_names.ensures) in
    let p = err_from_is_err_and c.from_residual-in_err-found.result c.from_residual-in_err-found.ensures.1 in
    rw (p.1, p.2) (cores_told tables q _ (entered_clear tables q c.requires alone) (tells_right (core_asked_causes tables q.core) (flat_map (core_asked_causes tables) q.others) _ c.in_err-found.ensures))

pub returns : goal.returns
returns c =
    let tables = map table_shape c.args.tables.now in
    let q = select_tree c.args.select.now in
    let own = c.in_ok-seen.ensures.0 ∙ ap (λ (chains : List Chain). from_scope tables (map chain_tree chains)) c.as_slice.ensures.value in
    let alone = none_of_two (core_alias_causes q.core) (flat_map core_alias_causes q.others)
    (sym (alias_same tables q.core _ _ c.as_slice-2.ensures.value own) ∙ c.in_ok-check_names.ensures)
    (ap (λ xs. flat_map core_alias_causes (map core_tree xs)) (sym c.as_slice-3.ensures.value) ∙ c.in_ok-check_each_names.ensures) in
    let first = c.in_ok-first.ensures in
    let found = c.in_ok-found.ensures in
    let n = 0 + length (entries_of q.core.from) in
    let rest = cores_meant tables (sorting_form c.in_ok-first.first.sorting) n q.others in
    let forms = found.forms ∙ ap (λ f. f ∷ rest) first.found.form ∙ ap (λ fs. core_meant tables (sorting_of tables q) 0 q.core ∷ fs) (others_sorted tables q _ n first.sorting) in
    let directed = c.in_ok-directions.ensures.0 ∙ ap (λ ks. map key_direction (map key_tree ks)) c.as_slice-5.ensures.value in
    record {
      meant = record {
        names = first.names;
        form = rw (forms, directed, c.rows_skipped.ensures, c.rows_left.ensures) refl;
      };
      entries = refl;
      kinds = found.kinds ∙ ap (λ ks. ks ∷ map (core_types tables) q.others) first.found.kinds;
      clear = all_clear tables q (entered_clear tables q c.requires alone) (none_of_two (core_asked_causes tables q.core) (flat_map (core_asked_causes tables) q.others) first.found.clear found.clear) first.clear;
    }
