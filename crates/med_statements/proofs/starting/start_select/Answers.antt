use Rattle.std.proofs.Common.{◌≡◌, ◌∙◌, false, refl, sym, map}
use Rattle.std.proofs.lemmas.Result.{err_from_is_err_and}
use Rattle.med_exec.specs.Prelude.{states, IsReady}
use Rattle.med_syntax.specs.QueryView.{statement_tree}
use Rattle.med_query.specs.Form.{form_of}
use Rattle.med_catalog.specs.View.{objects}
use Rattle.med_binder.specs.Prelude.{query_in, attached}
use Rattle.med_world.specs.Starting.{not_bound}
use Rattle.sql_meaning.specs.Sizes.{is_large_form}
use Rattle.med_statements.specs.Ready.{IsBoundAs}
use Rattle.med_statements.proofs.Ready.{bound_as}
use Rattle.med_statements.proofs.Selections.{IsBoundBy}
use Rattle.med_statements.proofs.Begins.{MayBegin, starts, not_begun}
use Rattle.med_statements.proofs.starting.start_select.Goals as goal

pub returns-in_err-query-clause-err : goal.returns-in_err-query-clause-err
returns-in_err-query-clause-err g c =
    let p = err_from_is_err_and c.from_residual.result c.from_residual.ensures.1 in
    rw (p.1, p.2) (not_bound c.in_err-query.ensures.refused refl)

pub start_bound-requires : goal.start_bound-requires
start_bound-requires g c =
    let o = objects c.args.catalog.now in
    let q = query_in (statement_tree c.args.statement.now) in
    let b = c.in_ok-query.query in
    let is : IsBoundAs o (map attached c.args.bound.now) q b =
    bound_as o c.args.user.now (map attached c.args.bound.now) q b c.in_ok-query.ensures.bindable c.in_ok-query.ensures.meant c.in_ok-query.ensures.places c.in_ok-query.ensures.widths c.in_ok-query.ensures.safe in
    let boxes = states g.W.Wrapper.meaning c.args.slots.now.items in
    let r : IsReady boxes b = c.bound_queries_are_ready.ensures.ready o (map attached c.args.bound.now) q b boxes c.requires.ready is in
    record { ready = record { kinds = r.kinds; typed = r.typed; counts = r.counts; view = r.view; alike = r.alike; wide = r.wide; safe = r.safe } }

pub returns-in-Err-start_bound-clause-err : goal.returns-in-Err-start_bound-clause-err
returns-in-Err-start_bound-clause-err g c =
    let m = g.W.Wrapper.meaning in
    let o = objects c.args.catalog.now in
    let q = query_in (statement_tree c.args.statement.now) in
    let is : IsBoundBy o c.args.user.now (map attached c.args.bound.now) q c.in_ok-query.query = record { bindable = c.in_ok-query.ensures.bindable; meant = c.in_ok-query.ensures.meant; places = c.in_ok-query.ensures.places } in
    let few : is_large_form (form_of c.in_ok-query.query.select) ≡ false = sym c.is_large_query.ensures ∙ c.if-is_large_query.false in
    let may : MayBegin c.args.is_full c.in_ok-query.query = record { safe = sym c.is_risky_query.ensures ∙ c.if-is_risky_query.false; room = c.if-is_full.false; few = few } in
    rw c.cause_of.ensures (not_begun c.expressions_ignore_order.ensures c.causes_ignore_order.ensures o c.args.user.now (map attached c.args.bound.now) q c.args.is_full c.in_ok-query.query c.in-Err-start_bound.fault
    (states m c.args.slots.now.items) (states m c.start_bound.new.slots.items) is may c.in-Err-start_bound.ensures.ended c.in-Err-start_bound.ensures.err)

pub returns-clause-ok : goal.returns-clause-ok
returns-clause-ok g c =
    let m = g.W.Wrapper.meaning in
    let o = objects c.args.catalog.now in
    let q = query_in (statement_tree c.args.statement.now) in
    let is : IsBoundBy o c.args.user.now (map attached c.args.bound.now) q c.in_ok-query.query = record { bindable = c.in_ok-query.ensures.bindable; meant = c.in_ok-query.ensures.meant; places = c.in_ok-query.ensures.places } in
    let few : is_large_form (form_of c.in_ok-query.query.select) ≡ false = sym c.is_large_query.ensures ∙ c.if-is_large_query.false in
    let may : MayBegin c.args.is_full c.in_ok-query.query = record { safe = sym c.is_risky_query.ensures ∙ c.if-is_risky_query.false; room = c.if-is_full.false; few = few } in
    rw c.replace-names.ensures.value (starts c.expressions_ignore_order.ensures c.answers_ignore_order.ensures c.causes_ignore_order.ensures o c.args.user.now (map attached c.args.bound.now) q c.args.is_full c.in_ok-query.query c.in-Ok-start_bound.run'
    (states m c.args.slots.now.items) (states m c.start_bound.new.slots.items) is c.in_ok-query.ensures.widths may c.in-Ok-start_bound.ensures.boxes c.in-Ok-start_bound.ensures.running c.in-Ok-start_bound.ensures.holds (c.bound_queries_are_ready.ensures.once c.in_ok-query.query (states m c.args.slots.now.items) (states m c.start_bound.new.slots.items) c.in-Ok-start_bound.ensures.begins) c.in-Ok-start_bound.ensures.plain c.in-Ok-start_bound.ensures.bare c.in-Ok-start_bound.ensures.opens c.in-Ok-start_bound.ensures.ok)
