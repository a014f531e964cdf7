use Rattle.std.proofs.Common.{◌≡◌, length, map, ap, arith}
use Rattle.std.proofs.lemmas.Result.{err_from_is_err_and}
use Rattle.med_syntax.specs.QueryView.{select_tree}
use Rattle.bind_names.specs.Scope.{table_shape}
use Rattle.bind_types.specs.Kinds.{types_in}
use Rattle.bind_types.specs.Typing.{written_type_causes}
use Rattle.bind_names.proofs.Causes.{tells_left}
use Rattle.med_binder.proofs.Binds.{widths_same, outputs_judged, form_told}
use Rattle.med_binder.proofs.query_binding.check_types.Goals as goal

pub returns-in_err-check_written-clause-passes : goal.returns-in_err-check_written-clause-passes
returns-in_err-check_written-clause-passes c =
    λ is. let tables = map table_shape c.args.tables.now in
    let q = select_tree c.args.select.now in
    let p = err_from_is_err_and c.from_residual.result c.from_residual.ensures.1 in
    rw (p.1, p.2) (tells_left (written_type_causes tables q) _ _ c.in_err-check_written.ensures)

pub returns-in_err-check_form-clause-passes : goal.returns-in_err-check_form-clause-passes
returns-in_err-check_form-clause-passes c =
    λ is. let tables = map table_shape c.args.tables.now in
    let q = select_tree c.args.select.now in
    let p = err_from_is_err_and c.from_residual-in_err-check_form.result c.from_residual-in_err-check_form.ensures.1 in
    rw (p.1, p.2) (form_told tables q c.args.bound.now _ is.meant c.in_err-check_form.ensures.passes)

pub returns-clause-passes : goal.returns-clause-passes
returns-clause-passes c =
    λ is. let tables = map table_shape c.args.tables.now in
    let q = select_tree c.args.select.now in
    let wide : c.len.result ≡ length c.args.bound.now.names.items = omega arith in
    let same = widths_same tables q c.args.bound.now _ _ is.meant is.kinds wide (ap (map types_in) c.as_slice.ensures.value) in
    outputs_judged tables q c.args.bound.now _ c.check_outputs.result is.meant c.in_ok-check_written.ensures c.in_ok-check_form.ensures.passes same c.check_outputs.ensures
