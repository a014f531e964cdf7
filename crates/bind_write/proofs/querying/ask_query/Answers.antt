use Rattle.std.proofs.Common.{map, option_map}
use Rattle.std.proofs.lemmas.Result.{err_from_is_err_and}
use Rattle.med_value.specs.Column.{column_of}
use Rattle.med_syntax.specs.Prelude.{statement_tree, names_tree}
use Rattle.med_catalog.specs.View.{objects}
use Rattle.med_binder.specs.Prelude.{query_in, attached}
use Rattle.bind_write.proofs.Queries.{query_list, query_early, query_judged}
use Rattle.bind_write.proofs.querying.ask_query.Goals as goal

pub returns-in_err-found : goal.returns-in_err-found
returns-in_err-found c =
    let p = err_from_is_err_and c.from_residual.result c.from_residual.ensures.1 in
    rw (p.1, p.2) (query_early (objects c.args.catalog.now) c.args.user.now (map column_of c.args.columns.now) (option_map names_tree c.args.names.now) (query_in (statement_tree c.args.query.now)) _
    c.in_err-found.ensures.refused)

pub returns-in_err-check_named : goal.returns-in_err-check_named
returns-in_err-check_named c =
    let p = err_from_is_err_and c.from_residual-in_err-check_named.result c.from_residual-in_err-check_named.ensures.1 in
    rw (p.1, p.2) (query_list (objects c.args.catalog.now) c.args.user.now (map column_of c.args.columns.now) (option_map names_tree c.args.names.now) (query_in (statement_tree c.args.query.now)) _
    c.in_ok-found.ensures.clear c.in_err-check_named.ensures)

pub returns : goal.returns
returns c =
    let o = objects c.args.catalog.now in
    let q = query_in (statement_tree c.args.query.now) in
    query_judged o (map attached c.args.bound.now) c.args.user.now (map column_of c.args.columns.now) (option_map names_tree c.args.names.now) q c.typed_query.result
    c.in_ok-found.ensures.clear c.in_ok-check_named.ensures (c.typed_query.ensures.types o (map attached c.args.bound.now) c.args.user.now q c.in_ok-found.ensures.names)
