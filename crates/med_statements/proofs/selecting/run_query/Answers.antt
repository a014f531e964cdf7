use Rattle.std.proofs.Common.{map, subst}
use Rattle.med_value.specs.Datum.{tuple}
use Rattle.med_query.specs.Query.{Query}
use Rattle.med_exec.specs.Slots.{states}
use Rattle.med_binder.specs.Place.{entry_place}
use Rattle.med_world.specs.Prelude.{AnswersOver, RunFails, cause_of}
use Rattle.med_query.specs.Select.{query_of as written_query}
use Rattle.med_statements.proofs.Selections.{query_bound, steady, answers_over, fails_over}
use Rattle.med_statements.proofs.selecting.run_query.Goals as goal

pub returns-in-Ok-clause-ok : goal.returns-in-Ok-clause-ok
returns-in-Ok-clause-ok g c m is =
    let b = c.args.query in
    let places = map entry_place b.entries.items in
    let old = states g.W.Wrapper.meaning c.args.slots.now.items in
    let rows = map tuple c.in-Ok.rows.items in
    subst (λ (x : Query). AnswersOver x places old rows) (query_bound m b is)
    (answers_over c.answers_ignore_order.ensures c.causes_ignore_order.ensures (written_query b.select) (steady c.expressions_ignore_order.ensures b.select) places old rows c.in-Ok.ensures.ok)

pub returns-in-Err-clause-err : goal.returns-in-Err-clause-err
returns-in-Err-clause-err g c m is =
    let b = c.args.query in
    let places = map entry_place b.entries.items in
    let old = states g.W.Wrapper.meaning c.args.slots.now.items in
    let new = states g.W.Wrapper.meaning c.run_ordered.new.slots.items in
    rw c.cause_of.ensures (subst (λ (x : Query). RunFails x places (cause_of c.in-Err.fault) old new) (query_bound m b is)
    (fails_over c.causes_ignore_order.ensures (written_query b.select) (steady c.expressions_ignore_order.ensures b.select) places c.in-Err.fault old new c.in-Err.ensures.err))
