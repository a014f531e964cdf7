use Rattle.std.proofs.Common.{◌≡◌, ◌∙◌, true, false, refl, sym, map}
use Rattle.std.proofs.lemmas.Result.{err_from_is_err_and}
use Rattle.med_value.specs.Datum.{tuple}
use Rattle.med_query.specs.Form.{form_of}
use Rattle.med_exec.specs.Prelude.{states, IsReady}
use Rattle.med_syntax.specs.QueryView.{statement_tree}
use Rattle.med_catalog.specs.View.{objects}
use Rattle.med_binder.specs.Prelude.{query_in, attached}
use Rattle.med_world.specs.Selecting.{not_bound}
use Rattle.sql_meaning.specs.Sizes.{is_large_form}
use Rattle.med_statements.specs.Ready.{IsBoundAs}
use Rattle.med_statements.proofs.Ready.{bound_as}
use Rattle.med_statements.proofs.Selections.{IsBoundBy, selected, unanswered, crowded}
use Rattle.med_statements.proofs.selecting.run_select.Goals as goal

pub returns-in_err-query-clause-err : goal.returns-in_err-query-clause-err
returns-in_err-query-clause-err g c =
    let p = err_from_is_err_and c.from_residual.result c.from_residual.ensures.1 in
    rw (p.1, p.2) (not_bound c.in_err-query.ensures.refused refl)

pub run_ordered-requires : goal.run_ordered-requires
run_ordered-requires g c =
    let o = objects c.args.catalog.now in
    let q = query_in (statement_tree c.args.statement.now) in
    let b = c.in_ok-query.query in
    let is : IsBoundAs o (map attached c.args.bound.now) q b =
    bound_as o c.args.user.now (map attached c.args.bound.now) q b c.in_ok-query.ensures.bindable c.in_ok-query.ensures.meant c.in_ok-query.ensures.places c.in_ok-query.ensures.widths c.in_ok-query.ensures.safe in
    let boxes = states g.W.Wrapper.meaning c.args.slots.now.items in
    let r : IsReady boxes b = c.bound_queries_are_ready.ensures.ready o (map attached c.args.bound.now) q b boxes c.requires.ready is in
    record { ready = record { kinds = r.kinds; typed = r.typed; counts = r.counts; view = r.view; alike = r.alike; wide = r.wide; safe = r.safe } }

pub returns-in-Err-clause-err : goal.returns-in-Err-clause-err
returns-in-Err-clause-err g c =
    let m = g.W.Wrapper.meaning in
    let o = objects c.args.catalog.now in
    let q = query_in (statement_tree c.args.statement.now) in
    let is : IsBoundBy o c.args.user.now (map attached c.args.bound.now) q c.in_ok-query.query = record { bindable = c.in_ok-query.ensures.bindable; meant = c.in_ok-query.ensures.meant; places = c.in_ok-query.ensures.places } in
    let few : is_large_form (form_of c.in_ok-query.query.select) ≡ false = sym c.is_large_query.ensures ∙ c.if-is_large_query.false in
    rw c.cause_of.ensures (unanswered c.expressions_ignore_order.ensures c.causes_ignore_order.ensures o c.args.user.now (map attached c.args.bound.now) q c.in_ok-query.query c.in-Err.fault
    (states m c.args.slots.now.items) (states m c.run_ordered.new.slots.items) is few c.run_ordered.ensures.served c.in-Err.ensures.err)

pub returns-clause-ok : goal.returns-clause-ok
returns-clause-ok g c =
    let m = g.W.Wrapper.meaning in
    let o = objects c.args.catalog.now in
    let q = query_in (statement_tree c.args.statement.now) in
    let is : IsBoundBy o c.args.user.now (map attached c.args.bound.now) q c.in_ok-query.query = record { bindable = c.in_ok-query.ensures.bindable; meant = c.in_ok-query.ensures.meant; places = c.in_ok-query.ensures.places } in
    let few : is_large_form (form_of c.in_ok-query.query.select) ≡ false = sym c.is_large_query.ensures ∙ c.if-is_large_query.false in
    rw c.replace-names.ensures.value (selected c.expressions_ignore_order.ensures c.answers_ignore_order.ensures c.causes_ignore_order.ensures o c.args.user.now (map attached c.args.bound.now) q c.in_ok-query.query (map tuple c.in-Ok.rows.items)
    (states m c.args.slots.now.items) (states m c.run_ordered.new.slots.items) is few c.run_ordered.ensures.served (c.bound_queries_are_ready.ensures.once c.in_ok-query.query (states m c.args.slots.now.items) (states m c.run_ordered.new.slots.items) c.in-Ok.ensures.begins) _ refl refl c.in-Ok.ensures.pulls.0 c.in-Ok.ensures.pulls.1 c.in-Ok.ensures.pulls.2 c.in-Ok.ensures.ok)

pub returns-then-is_large_query-clause-err : goal.returns-then-is_large_query-clause-err
returns-then-is_large_query-clause-err g c =
    let o = objects c.args.catalog.now in
    let q = query_in (statement_tree c.args.statement.now) in
    let is : IsBoundBy o c.args.user.now (map attached c.args.bound.now) q c.in_ok-query.query = record { bindable = c.in_ok-query.ensures.bindable; meant = c.in_ok-query.ensures.meant; places = c.in_ok-query.ensures.places } in
    let many : is_large_form (form_of c.in_ok-query.query.select) ≡ true = sym c.is_large_query.ensures ∙ c.if-is_large_query.true in
    crowded o c.args.user.now (map attached c.args.bound.now) q c.in_ok-query.query (states g.W.Wrapper.meaning c.args.slots.now.items) is many
