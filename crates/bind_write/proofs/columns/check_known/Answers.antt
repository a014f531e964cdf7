use Rattle.std.proofs.Common.{◌<◌, length, map, flat_map, string_bytes, ap, ◌∙◌, arith}
use Rattle.std.proofs.lemmas.Result.{err_from_is_err_and}
use Rattle.med_value.specs.Column.{column_of}
use Rattle.bind_names.proofs.Causes.{tells_first}
use Rattle.bind_names.proofs.Parts.{drop_read}
use Rattle.bind_write.specs.Naming.{column_unknown}
use Rattle.bind_write.proofs.columns.check_known.Goals as goal

pub returns-in_err-check_name : goal.returns-in_err-check_name
returns-in_err-check_name c =
    let f = column_unknown (map column_of c.args.columns.now) in
    let lt : c.loop-name.name-index < length c.args.names.now = omega arith in
    let at = drop_read c.args.names.now c.loop-name.name-index c.name-item.result lt c.name-item.is in
    let p = err_from_is_err_and c.from_residual.result c.from_residual.ensures.1 in
    rw (p.1, p.2) (tells_first _ (f (string_bytes c.name-item.result)) _ _ (c.loop-name.invariant ∙ ap (λ xs. flat_map f (map string_bytes xs)) at)
    (rw c.as_str.ensures.value at c.in_err-check_name.ensures))
