use Rattle.std.proofs.Common.{ap, sym, refl, map, flat_map, option_map, ◌∙◌, ◌++◌, []}
use Rattle.std.proofs.lemmas.Result.{err_from_is_err_and}
use Rattle.med_syntax.specs.WriteView.{names_tree, row_tree}
use Rattle.med_catalog.specs.View.{objects}
use Rattle.med_write.specs.Form.{trees_of}
use Rattle.bind_names.proofs.Causes.{tells_same}
use Rattle.med_binder.specs.Prelude.{target_right_causes, shapes, attached}
use Rattle.bind_write.specs.Binding.{values_write}
use Rattle.bind_write.specs.Meaning.{written_column, columns_in, row_meant}
use Rattle.bind_write.specs.Naming.{target_causes, named_causes, row_name_causes, names_of}
use Rattle.bind_write.specs.Typing.{types_of, row_type_causes}
use Rattle.bind_write.specs.Asking.{IsTarget}
use Rattle.bind_write.proofs.Inserts.{fits_same, insert_formed}
use Rattle.bind_write.proofs.Lists.{names_in_turn, types_in_turn}
use Rattle.bind_write.proofs.Updates.{list_told}
use Rattle.bind_write.proofs.Writes.{target_told, names_left, write_is}
use Rattle.bind_write.proofs.inserting.values_over.Goals as goal

pub returns-in_err-target : goal.returns-in_err-target
returns-in_err-target c =
    let o = objects c.args.catalog.now in
    let b = map attached c.args.bound.now in
    let n = c.args.table.now in
    let names = option_map names_tree c.args.names.now in
    let rows = map row_tree c.args.rows.now in
    let t = values_write n names rows in
    let p = err_from_is_err_and c.from_residual.result c.from_residual.ensures.1 in
    rw (p.1, p.2) (target_told (target_causes (shapes o) n) (target_causes (shapes o) n) _ (target_right_causes o c.args.user.now n) [] (types_of o t) _ (λ x h. h) c.in_err-target.ensures)

pub returns-in_err-check_named : goal.returns-in_err-check_named
returns-in_err-check_named c =
    let o = objects c.args.catalog.now in
    let b = map attached c.args.bound.now in
    let n = c.args.table.now in
    let names = option_map names_tree c.args.names.now in
    let rows = map row_tree c.args.rows.now in
    let t = values_write n names rows in
    let is : IsTarget o b c.args.user.now n c.in_ok-target.target = c.in_ok-target.ensures in
    let p = err_from_is_err_and c.from_residual-in_err-check_named.result c.from_residual-in_err-check_named.ensures.1 in
    rw (p.1, p.2) (list_told (target_causes (shapes o) n) _ _ _ (types_of o t) _ is.known (tells_same _ _ _ (ap (λ cs. named_causes cs names) is.columns) c.in_err-check_named.ensures))

pub returns-in_err-given : goal.returns-in_err-given
returns-in_err-given c =
    let o = objects c.args.catalog.now in
    let b = map attached c.args.bound.now in
    let n = c.args.table.now in
    let names = option_map names_tree c.args.names.now in
    let rows = map row_tree c.args.rows.now in
    let t = values_write n names rows in
    let is : IsTarget o b c.args.user.now n c.in_ok-target.target = c.in_ok-target.ensures in
    let none = sym (ap (λ cs. named_causes cs names) is.columns) ∙ c.in_ok-check_named.ensures in
    let same = names_left (target_causes (shapes o) n) (named_causes (columns_in (shapes o) n) names) (flat_map row_name_causes rows) (target_right_causes o c.args.user.now n) is.known none is.rights in
    let p = err_from_is_err_and c.from_residual-in_err-given.result c.from_residual-in_err-given.ensures.1 in
    rw (p.1, p.2) (names_in_turn (names_of o c.args.user.now t) (names_of o c.args.user.now t) (types_of o t) _ (λ d h. h) (tells_same _ _ _ same c.in_err-given.ensures))

pub returns-in_err-check_rows : goal.returns-in_err-check_rows
returns-in_err-check_rows c =
    let o = objects c.args.catalog.now in
    let b = map attached c.args.bound.now in
    let n = c.args.table.now in
    let names = option_map names_tree c.args.names.now in
    let rows = map row_tree c.args.rows.now in
    let t = values_write n names rows in
    let is : IsTarget o b c.args.user.now n c.in_ok-target.target = c.in_ok-target.ensures in
    let none = sym (ap (λ cs. named_causes cs names) is.columns) ∙ c.in_ok-check_named.ensures in
    let same = names_left (target_causes (shapes o) n) (named_causes (columns_in (shapes o) n) names) (flat_map row_name_causes rows) (target_right_causes o c.args.user.now n) is.known none is.rights in
    let fits = fits_same (columns_in (shapes o) n) _ names (map row_meant rows) _ is.columns (ap (map trees_of) c.as_slice.ensures.value ∙ c.in_ok-given.ensures.0) in
    let p = err_from_is_err_and c.from_residual-in_err-check_rows.result c.from_residual-in_err-check_rows.ensures.1 in
    rw (p.1, p.2) (types_in_turn (names_of o c.args.user.now t) (types_of o t) (types_of o t) _ (sym same ∙ c.in_ok-given.ensures.1) (λ d h. h)
    (tells_same _ _ _ (ap (λ xs. flat_map row_type_causes rows ++ xs) fits) c.in_err-check_rows.ensures))

pub check_rows-requires : goal.check_rows-requires
check_rows-requires c = ap (map trees_of) c.as_slice.ensures.value ∙ c.in_ok-given.ensures.0

pub returns : goal.returns
returns c =
    let o = objects c.args.catalog.now in
    let b = map attached c.args.bound.now in
    let n = c.args.table.now in
    let names = option_map names_tree c.args.names.now in
    let rows = map row_tree c.args.rows.now in
    let t = values_write n names rows in
    let is : IsTarget o b c.args.user.now n c.in_ok-target.target = c.in_ok-target.ensures in
    let none = sym (ap (λ cs. named_causes cs names) is.columns) ∙ c.in_ok-check_named.ensures in
    let same = names_left (target_causes (shapes o) n) (named_causes (columns_in (shapes o) n) names) (flat_map row_name_causes rows) (target_right_causes o c.args.user.now n) is.known none is.rights in
    let fits = fits_same (columns_in (shapes o) n) _ names (map row_meant rows) _ is.columns (ap (map trees_of) c.as_slice.ensures.value ∙ c.in_ok-given.ensures.0) in
    write_is o b c.args.user.now t c.in_ok-target.target _ is refl refl refl
    (c.in_ok-written_columns.ensures ∙ ap (map written_column) is.columns)
    (insert_formed (columns_in (shapes o) n) _ names _ (map row_meant rows) _ c.in_ok-places_for.ensures is.columns c.in_ok-given.ensures.0) tt
    (sym same ∙ c.in_ok-given.ensures.1)
    (sym (ap (λ xs. flat_map row_type_causes rows ++ xs) fits) ∙ c.in_ok-check_rows.ensures)
