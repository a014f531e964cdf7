use Rattle.std.proofs.Common.{ap, sym, refl, map, option_map, string_bytes, ◌∙◌, []}
use Rattle.std.proofs.lemmas.Result.{err_from_is_err_and}
use Rattle.med_value.specs.Column.{column_of}
use Rattle.med_value.specs.declared.cause.Cause.TheVariants.{MisplacedName}
use Rattle.med_syntax.specs.Prelude.{UpdateTree, entry_tree, expr_tree, set_tree, update}
use Rattle.tri_expr.specs.Tree.{tree}
use Rattle.med_catalog.specs.View.{objects}
use Rattle.bind_names.proofs.Causes.{tells_same}
use Rattle.med_binder.specs.Prelude.{target_right_causes, shapes, attached}
use Rattle.bind_write.specs.Meaning.{written_column, columns_in, scope_in}
use Rattle.bind_write.specs.Naming.{target_causes, set_names, set_values}
use Rattle.bind_types.specs.TreeTypes.{column_kinds}
use Rattle.bind_write.specs.Typing.{types_of}
use Rattle.bind_write.specs.Asking.{IsTarget}
use Rattle.bind_write.proofs.Cells.{cells_are, typed_cells}
use Rattle.bind_write.proofs.Updates.{list_told, list_same, updated_told, cells_told, update_clear, update_typed, update_formed}
use Rattle.bind_write.proofs.Writes.{target_told, scope_same, told_over, bound_over, write_is}
use Rattle.bind_write.proofs.updating.update_over.Goals as goal

pub returns-in_err-target : goal.returns-in_err-target
returns-in_err-target c =
    let o = objects c.args.catalog.now in
    let u : UpdateTree = record { entry = entry_tree c.args.entry.now; sets = map set_tree c.args.sets.items; condition = option_map expr_tree c.args.condition.now } in
    let p = err_from_is_err_and c.from_residual.result c.from_residual.ensures.1 in
    rw (p.1, p.2) (target_told (target_causes (shapes o) u.entry.table) (target_causes (shapes o) u.entry.table) _ (target_right_causes o c.args.user.now u.entry.table) [] (types_of o (update u)) _ (λ x h. h)
    (rw c.as_str.ensures.value at c.in_err-target.ensures))

pub returns-in_err-check_list : goal.returns-in_err-check_list
returns-in_err-check_list c =
    let o = objects c.args.catalog.now in
    let b = map attached c.args.bound.now in
    let u : UpdateTree = record { entry = entry_tree c.args.entry.now; sets = map set_tree c.args.sets.items; condition = option_map expr_tree c.args.condition.now } in
    let target = c.in_ok-target.target in
    let is : IsTarget o b c.args.user.now u.entry.table target = rw c.as_str.ensures.value at c.in_ok-target.ensures in
    let names = ap (map string_bytes) c.as_slice.ensures.value ∙ c.in_ok-names.ensures.names in
    let same = list_same MisplacedName (columns_in (shapes o) u.entry.table) (map column_of target.columns.now) (set_names u.sets) _ is.columns names in
    let p = err_from_is_err_and c.from_residual-in_err-check_list.result c.from_residual-in_err-check_list.ensures.1 in
    rw (p.1, p.2) (list_told (target_causes (shapes o) u.entry.table) _ _ _ (types_of o (update u)) _ is.known (tells_same _ _ _ same c.in_err-check_list.ensures))

pub returns-in_err-found : goal.returns-in_err-found
returns-in_err-found c =
    let o = objects c.args.catalog.now in
    let b = map attached c.args.bound.now in
    let u : UpdateTree = record { entry = entry_tree c.args.entry.now; sets = map set_tree c.args.sets.items; condition = option_map expr_tree c.args.condition.now } in
    let target = c.in_ok-target.target in
    let is : IsTarget o b c.args.user.now u.entry.table target = rw c.as_str.ensures.value at c.in_ok-target.ensures in
    let names = ap (map string_bytes) c.as_slice.ensures.value ∙ c.in_ok-names.ensures.names in
    let same = list_same MisplacedName (columns_in (shapes o) u.entry.table) (map column_of target.columns.now) (set_names u.sets) _ is.columns names in
    let none = sym same ∙ c.in_ok-check_list.ensures in
    let seen = scope_same o b c.args.user.now u.entry target c.table_in_view.result is c.table_in_view.ensures in
    let e = ap (map expr_tree) c.as_slice-2.ensures.value ∙ c.in_ok-names.ensures.values in
    let p = err_from_is_err_and c.from_residual-in_err-found.result c.from_residual-in_err-found.ensures.1 in
    rw (p.1, p.2) (updated_told o b c.args.user.now u target _ is none (told_over _ _ _ _ u.condition _ seen e c.in_err-found.ensures))

pub returns-in_err-check_cells : goal.returns-in_err-check_cells
returns-in_err-check_cells c =
    let o = objects c.args.catalog.now in
    let b = map attached c.args.bound.now in
    let u : UpdateTree = record { entry = entry_tree c.args.entry.now; sets = map set_tree c.args.sets.items; condition = option_map expr_tree c.args.condition.now } in
    let target = c.in_ok-target.target in
    let is : IsTarget o b c.args.user.now u.entry.table target = rw c.as_str.ensures.value at c.in_ok-target.ensures in
    let names = ap (map string_bytes) c.as_slice.ensures.value ∙ c.in_ok-names.ensures.names in
    let same = list_same MisplacedName (columns_in (shapes o) u.entry.table) (map column_of target.columns.now) (set_names u.sets) _ is.columns names in
    let none = sym same ∙ c.in_ok-check_list.ensures in
    let seen = scope_same o b c.args.user.now u.entry target c.table_in_view.result is c.table_in_view.ensures in
    let e = ap (map expr_tree) c.as_slice-2.ensures.value ∙ c.in_ok-names.ensures.values in
    let s = scope_in (shapes o) u.entry in
    let found = bound_over s _ (set_values u.sets) _ u.condition _ seen e c.in_ok-found.ensures in
    let meant = cells_are s u.sets (columns_in (shapes o) u.entry.table) (map column_of target.columns.now) _ _ _ c.in_ok-cells.ensures is.columns
    (ap (map tree) c.as_slice-4.ensures.value ∙ found.values) (ap (map string_bytes) c.as_slice-3.ensures.value ∙ c.in_ok-names.ensures.names) in
    let typed = typed_cells (columns_in (shapes o) u.entry.table) (map column_of target.columns.now) _ _ _ _ is.columns
    (c.as_slice-7.ensures.value ∙ c.in_ok-given.ensures) (c.as_slice-5.ensures.value ∙ c.in_ok-kinds.ensures ∙ ap column_kinds is.columns)
    (ap (map (option_map tree)) c.as_slice-6.ensures.value ∙ meant) in
    let p = err_from_is_err_and c.from_residual-in_err-check_cells.result c.from_residual-in_err-check_cells.ensures.1 in
    rw (p.1, p.2) (cells_told o b c.args.user.now u target c.in_ok-found.found _ _ is none found typed c.in_err-check_cells.ensures)

pub returns : goal.returns
returns c =
    let o = objects c.args.catalog.now in
    let b = map attached c.args.bound.now in
    let u : UpdateTree = record { entry = entry_tree c.args.entry.now; sets = map set_tree c.args.sets.items; condition = option_map expr_tree c.args.condition.now } in
    let target = c.in_ok-target.target in
    let is : IsTarget o b c.args.user.now u.entry.table target = rw c.as_str.ensures.value at c.in_ok-target.ensures in
    let names = ap (map string_bytes) c.as_slice.ensures.value ∙ c.in_ok-names.ensures.names in
    let same = list_same MisplacedName (columns_in (shapes o) u.entry.table) (map column_of target.columns.now) (set_names u.sets) _ is.columns names in
    let none = sym same ∙ c.in_ok-check_list.ensures in
    let seen = scope_same o b c.args.user.now u.entry target c.table_in_view.result is c.table_in_view.ensures in
    let e = ap (map expr_tree) c.as_slice-2.ensures.value ∙ c.in_ok-names.ensures.values in
    let s = scope_in (shapes o) u.entry in
    let found = bound_over s _ (set_values u.sets) _ u.condition _ seen e c.in_ok-found.ensures in
    let meant = cells_are s u.sets (columns_in (shapes o) u.entry.table) (map column_of target.columns.now) _ _ _ c.in_ok-cells.ensures is.columns
    (ap (map tree) c.as_slice-4.ensures.value ∙ found.values) (ap (map string_bytes) c.as_slice-3.ensures.value ∙ c.in_ok-names.ensures.names) in
    let typed = typed_cells (columns_in (shapes o) u.entry.table) (map column_of target.columns.now) _ _ _ _ is.columns
    (c.as_slice-7.ensures.value ∙ c.in_ok-given.ensures) (c.as_slice-5.ensures.value ∙ c.in_ok-kinds.ensures ∙ ap column_kinds is.columns)
    (ap (map (option_map tree)) c.as_slice-6.ensures.value ∙ meant) in
    write_is o b c.args.user.now (update u) target _ is refl refl refl
    (c.in_ok-written_columns.ensures ∙ ap (map written_column) is.columns)
    (update_formed _ _ _ _ found.conditions meant) refl
    (update_clear o b c.args.user.now u target c.in_ok-found.found is none found)
    (update_typed o u c.in_ok-found.found _ found typed c.in_ok-check_cells.ensures)
