use Rattle.std.proofs.Common.{ap, sym, refl, map, ◌∙◌, []}
use Rattle.std.proofs.lemmas.Result.{err_from_is_err_and}
use Rattle.med_syntax.specs.Prelude.{delete, delete_tree}
use Rattle.med_catalog.specs.View.{objects}
use Rattle.med_write.specs.Form.{delete_form}
use Rattle.med_binder.specs.Prelude.{target_right_causes, shapes, attached}
use Rattle.bind_write.specs.Meaning.{written_column, scope_in}
use Rattle.bind_write.specs.Naming.{target_causes}
use Rattle.bind_write.specs.Typing.{types_of}
use Rattle.bind_write.specs.Asking.{IsTarget, value_names}
use Rattle.bind_write.proofs.Writes.{target_told, scope_same, told_over, bound_over, deleted_told, names_left, write_is}
use Rattle.bind_write.proofs.deleting.delete_over.Goals as goal

pub returns-in_err-target : goal.returns-in_err-target
returns-in_err-target c =
    let o = objects c.args.catalog.now in
    let d = delete_tree c.args.statement.now in
    let p = err_from_is_err_and c.from_residual.result c.from_residual.ensures.1 in
    rw (p.1, p.2) (target_told (target_causes (shapes o) d.entry.table) (target_causes (shapes o) d.entry.table) _ (target_right_causes o c.args.user.now d.entry.table) [] (types_of o (delete d)) _ (λ x h. h)
    (rw c.as_str.ensures.value at c.in_err-target.ensures))

pub returns-in_err-found : goal.returns-in_err-found
returns-in_err-found c =
    let o = objects c.args.catalog.now in
    let b = map attached c.args.bound.now in
    let d = delete_tree c.args.statement.now in
    let is : IsTarget o b c.args.user.now d.entry.table c.in_ok-target.target = rw c.as_str.ensures.value at c.in_ok-target.ensures in
    let seen = scope_same o b c.args.user.now d.entry c.in_ok-target.target c.table_in_view.result is c.table_in_view.ensures in
    let p = err_from_is_err_and c.from_residual-in_err-found.result c.from_residual-in_err-found.ensures.1 in
    rw (p.1, p.2) (deleted_told o b c.args.user.now d c.in_ok-target.target _ is (told_over _ _ [] [] d.condition _ seen refl c.in_err-found.ensures))

pub returns : goal.returns
returns c =
    let o = objects c.args.catalog.now in
    let b = map attached c.args.bound.now in
    let d = delete_tree c.args.statement.now in
    let is : IsTarget o b c.args.user.now d.entry.table c.in_ok-target.target = rw c.as_str.ensures.value at c.in_ok-target.ensures in
    let seen = scope_same o b c.args.user.now d.entry c.in_ok-target.target c.table_in_view.result is c.table_in_view.ensures in
    let found = bound_over (scope_in (shapes o) d.entry) _ [] [] d.condition _ seen refl c.in_ok-found.ensures in
    write_is o b c.args.user.now (delete d) c.in_ok-target.target _ is refl refl refl
    (c.in_ok-columns.ensures ∙ ap (map written_column) is.columns) (ap delete_form found.conditions) refl
    (sym (names_left (target_causes (shapes o) d.entry.table) [] (value_names (scope_in (shapes o) d.entry) [] d.condition) (target_right_causes o c.args.user.now d.entry.table) is.known refl is.rights) ∙ found.names)
    found.types
