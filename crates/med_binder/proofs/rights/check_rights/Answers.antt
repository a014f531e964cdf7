use Rattle.std.proofs.Common.{◌<◌, length, map, flat_map, ap, ◌∙◌, arith}
use Rattle.std.proofs.lemmas.Result.{err_from_is_err_and}
use Rattle.med_syntax.specs.QueryTree.{EntryTree}
use Rattle.bind_names.specs.Seen.{seen_entry}
use Rattle.bind_names.proofs.Causes.{tells_first}
use Rattle.bind_names.proofs.Parts.{drop_read}
use Rattle.med_catalog.specs.Prelude.{table_named, objects}
use Rattle.med_binder.specs.Barred.{table_causes, reading_causes}
use Rattle.med_binder.proofs.rights.check_rights.Goals as goal

pub returns-in_err-check_right : goal.returns-in_err-check_right
returns-in_err-check_right c =
    let f = λ (e : EntryTree). table_causes reading_causes (objects c.args.catalog.now) c.args.user.now (table_named (objects c.args.catalog.now) e.table) in
    let lt : c.loop-entry.entry-index < length c.args.entries.now = omega arith in
    let at = drop_read c.args.entries.now c.loop-entry.entry-index c.entry-item.result lt c.entry-item.is in
    let p = err_from_is_err_and c.from_residual.result c.from_residual.ensures.1 in
    rw (p.1, p.2) (tells_first _ (f (seen_entry c.entry-item.result)) _ _ (c.loop-entry.invariant ∙ ap (λ xs. flat_map f (map seen_entry xs)) at) c.in_err-check_right.ensures)
