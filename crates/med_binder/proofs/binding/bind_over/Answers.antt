use Rattle.std.proofs.lemmas.Result.{err_from_is_err_and}
use Rattle.med_syntax.specs.QueryView.{statement_tree}
use Rattle.med_catalog.specs.View.{objects}
use Rattle.med_binder.specs.Places.{attached}
use Rattle.med_binder.specs.Looked.{query_in}
use Rattle.med_binder.proofs.OverCatalog.{early_told, named_clear, late_told}
use Rattle.std.proofs.Common.{map}
use Rattle.med_binder.proofs.binding.bind_over.Goals as goal

pub returns-in_err-named : goal.returns-in_err-named
returns-in_err-named c =
    let p = err_from_is_err_and c.from_residual.result c.from_residual.ensures.1 in
    rw (p.1, p.2) (early_told (objects c.args.catalog.now) c.args.user.now (query_in (statement_tree c.args.statement.now)) _ c.in_err-named.ensures)

pub returns : goal.returns
returns c =
    let o = objects c.args.catalog.now in
    let b = map attached c.args.bound.now in
    let q = query_in (statement_tree c.args.statement.now) in
    late_told o b c.args.user.now q c.typed_query.result (named_clear o b c.args.user.now q _ c.in_ok-named.ensures) (c.typed_query.ensures.types o b c.args.user.now q c.in_ok-named.ensures)
