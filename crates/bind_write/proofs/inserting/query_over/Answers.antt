use Rattle.std.proofs.Common.{ap, refl, map, option_map, ◌∙◌, ◌++◌}
use Rattle.std.proofs.lemmas.Result.{err_from_is_err_and}
use Rattle.med_syntax.specs.Prelude.{statement_tree, names_tree}
use Rattle.bind_types.specs.Kinds.{types_in}
use Rattle.med_catalog.specs.View.{objects}
use Rattle.bind_names.specs.Naming.{entered_causes}
use Rattle.med_binder.specs.Prelude.{target_right_causes, query_right_causes, query_in, shapes, attached}
use Rattle.std.proofs.lemmas.List.Elements.{Contains-append_left}
use Rattle.bind_write.specs.Meaning.{written_column, columns_in}
use Rattle.bind_write.specs.Naming.{target_causes}
use Rattle.bind_write.specs.Typing.{types_of}
use Rattle.bind_write.specs.Binding.{query_write}
use Rattle.bind_write.proofs.Queries.{asked_told, answer_told, query_clear, query_typed, answer_formed}
use Rattle.bind_write.proofs.Writes.{target_told, write_is}
use Rattle.bind_write.proofs.inserting.query_over.Goals as goal

pub returns-in_err-target : goal.returns-in_err-target
returns-in_err-target c =
    let o = objects c.args.catalog.now in
    let n = c.args.table.now in
    let q = query_in (statement_tree c.args.query.now) in
    let t = query_write n (option_map names_tree c.args.names.now) q in
    let p = err_from_is_err_and c.from_residual.result c.from_residual.ensures.1 in
    rw (p.1, p.2) (target_told (target_causes (shapes o) n) (target_causes (shapes o) n ++ entered_causes (shapes o) q) _ (target_right_causes o c.args.user.now n) (query_right_causes o c.args.user.now q) (types_of o t) _
    (λ x h. Contains-append_left (target_causes (shapes o) n) (entered_causes (shapes o) q) x h) c.in_err-target.ensures)

pub returns-in_err-found : goal.returns-in_err-found
returns-in_err-found c =
    let o = objects c.args.catalog.now in
    let p = err_from_is_err_and c.from_residual-in_err-found.result c.from_residual-in_err-found.ensures.1 in
    rw (p.1, p.2) (asked_told o (map attached c.args.bound.now) c.args.user.now c.args.table.now (option_map names_tree c.args.names.now) (query_in (statement_tree c.args.query.now)) c.in_ok-target.target _
    c.in_ok-target.ensures c.in_err-found.ensures)

pub returns-in_err-check_answer : goal.returns-in_err-check_answer
returns-in_err-check_answer c =
    let o = objects c.args.catalog.now in
    let p = err_from_is_err_and c.from_residual-in_err-check_answer.result c.from_residual-in_err-check_answer.ensures.1 in
    rw (p.1, p.2) (answer_told o (map attached c.args.bound.now) c.args.user.now c.args.table.now (option_map names_tree c.args.names.now) (query_in (statement_tree c.args.query.now)) c.in_ok-target.target
    c.in_ok-found.found _ _ c.in_ok-target.ensures c.in_ok-found.ensures (ap (map types_in) c.as_slice.ensures.value) c.in_err-check_answer.ensures)

pub returns : goal.returns
returns c =
    let o = objects c.args.catalog.now in
    let b = map attached c.args.bound.now in
    let n = c.args.table.now in
    let names = option_map names_tree c.args.names.now in
    let q = query_in (statement_tree c.args.query.now) in
    let is = c.in_ok-target.ensures in
    let asked = c.in_ok-found.ensures in
    write_is o b c.args.user.now (query_write n names q) c.in_ok-target.target _ is refl refl refl
    (c.in_ok-written_columns.ensures ∙ ap (map written_column) is.columns)
    (answer_formed (columns_in (shapes o) n) _ names _ c.in_ok-places_for.ensures is.columns) (asked.meant, asked.there, asked.widths, asked.safe)
    (query_clear o b c.args.user.now n names q c.in_ok-target.target c.in_ok-found.found is asked)
    (query_typed o b c.args.user.now n names q c.in_ok-target.target c.in_ok-found.found _ is asked (ap (map types_in) c.as_slice.ensures.value) c.in_ok-check_answer.ensures)
