use Rattle.std.proofs.Common.{◌∙◌, inl, inr, [], sym, ap, subst, not, map}
use Rattle.std.proofs.lemmas.Result.{IfErr-weaker}
use Rattle.sqlite.specs.Held.{state}
use Rattle.sqlite.specs.Schema.{Schema}
use Rattle.sqlite.specs.Edit.{put_all, are_fresh}
use Rattle.med_value.specs.Datum.{tuple}
use Rattle.sqlite_tables.proofs.Refused.{refused_more, done_more}
use Rattle.sqlite_writes.specs.Writable.{IsWritable}
use Rattle.sqlite_writes.specs.Rewriting.{stored_cells}
use Rattle.sqlite_writes.proofs.Changed.{keeps_more, step_first, step_then, steps_then}
use Rattle.sqlite_writes.specs.Failing.{FailsToInsert, FailsToChange}
use Rattle.sqlite_writes.proofs.Reaching.{goes_then, deleted, reaches_then}
use Rattle.sqlite_writes.proofs.rewriting.change_rows.Goals as goal

pub insert_all-requires-clause-writable : goal.insert_all-requires-clause-writable
insert_all-requires-clause-writable g c h =
    subst (λ (s : Schema). ∥ IsWritable s c.args.shape.now ∥₁) (sym (c.in-Ok.ensures.schema h)) (c.requires.writable h)

pub returns-in-Ok-clause-rows : goal.returns-in-Ok-clause-rows
returns-in-Ok-clause-rows g c h =
    done_more c.insert_all.result _ _ (λ e. e
    ∙ ap (λ es. put_all es (map (stored_cells c.args.shape.now) (map tuple c.args.fresh.now))) (c.in-Ok.ensures.rows h))
    (c.insert_all.ensures.rows h)

pub returns-in-Ok-clause-free : goal.returns-in-Ok-clause-free
returns-in-Ok-clause-free g c h =
    done_more c.insert_all.result _ _
    (λ e. ap not (ap (λ es. are_fresh es (map (stored_cells c.args.shape.now) (map tuple c.args.fresh.now))) (sym
    (c.in-Ok.ensures.rows h)) ∙ e)) (c.insert_all.ensures.free h)

pub returns-in-Ok-clause-schema : goal.returns-in-Ok-clause-schema
returns-in-Ok-clause-schema g c h = done_more c.insert_all.result _ _ (λ e. e ∙ c.in-Ok.ensures.schema h) (c.insert_all.ensures.schema h)

pub returns-in-Ok-clause-others : goal.returns-in-Ok-clause-others
returns-in-Ok-clause-others g c h =
    done_more c.insert_all.result _ _
    (keeps_more (state g.S.Store c.args.tx.now.conn.now).now (state g.S.Store c.delete_all.new.tx.conn.now).now
    (state g.S.Store c.insert_all.new.tx.conn.now).now c.args.shape.now (c.in-Ok.ensures.schema h) (c.in-Ok.ensures.others h))
    (c.insert_all.ensures.others h)

pub returns-in-Ok-clause-refused : goal.returns-in-Ok-clause-refused
returns-in-Ok-clause-refused g c =
    refused_more c.insert_all.result _ _
    (λ cause by. (
      by.0,
      λ h. ap not (ap (λ es. are_fresh es (map (stored_cells c.args.shape.now) (map tuple c.args.fresh.now))) (sym
          (c.in-Ok.ensures.rows h)) ∙ by.1 h),
    ))
    c.insert_all.ensures.refused

pub returns-in-Ok-clause-kept : goal.returns-in-Ok-clause-kept
returns-in-Ok-clause-kept g c h = c.insert_all.ensures.kept h ∙ c.in-Ok.ensures.kept h

pub returns-in-Ok-clause-sure_rows : goal.returns-in-Ok-clause-sure_rows
returns-in-Ok-clause-sure_rows g c h =
    let sure = step_first c.insert_all.ensures.was_clean h in
    let steps = c.in-Ok.ensures.sure_steps sure in
    let next = step_then steps h in
    done_more c.insert_all.result _ _ (λ e. e
    ∙ ap (λ es. put_all es (map (stored_cells c.args.shape.now) (map tuple c.args.fresh.now))) (c.in-Ok.ensures.sure_rows sure))
    (c.insert_all.ensures.sure_rows next)

pub returns-in-Ok-clause-sure_free : goal.returns-in-Ok-clause-sure_free
returns-in-Ok-clause-sure_free g c h =
    let sure = step_first c.insert_all.ensures.was_clean h in
    let steps = c.in-Ok.ensures.sure_steps sure in
    let next = step_then steps h in
    done_more c.insert_all.result _ _
    (λ e. ap not (ap (λ es. are_fresh es (map (stored_cells c.args.shape.now) (map tuple c.args.fresh.now))) (sym
    (c.in-Ok.ensures.sure_rows sure)) ∙ e)) (c.insert_all.ensures.sure_free next)

pub returns-in-Ok-clause-sure_steps : goal.returns-in-Ok-clause-sure_steps
returns-in-Ok-clause-sure_steps g c h =
    let sure = step_first c.insert_all.ensures.was_clean h in
    let steps = c.in-Ok.ensures.sure_steps sure in
    let next = step_then steps h in
    done_more c.insert_all.result _ _ (steps_then steps) (c.insert_all.ensures.sure_steps next)

pub returns-in-Ok-clause-sure_refused : goal.returns-in-Ok-clause-sure_refused
returns-in-Ok-clause-sure_refused g c =
    refused_more c.insert_all.result _ _
    (λ cause by h.
    let sure = step_first c.insert_all.ensures.was_clean h in
    let next = step_then (c.in-Ok.ensures.sure_steps sure) h in
    ap not (ap (λ es. are_fresh es (map (stored_cells c.args.shape.now) (map tuple c.args.fresh.now))) (sym
    (c.in-Ok.ensures.sure_rows sure)) ∙ by next))
    c.insert_all.ensures.sure_refused

pub returns-in-Ok-clause-sure_kept : goal.returns-in-Ok-clause-sure_kept
returns-in-Ok-clause-sure_kept g c h =
    let sure = step_first c.insert_all.ensures.was_clean h in
    let steps = c.in-Ok.ensures.sure_steps sure in
    let next = step_then steps h in
    c.insert_all.ensures.sure_kept next ∙ c.in-Ok.ensures.sure_kept sure

pub returns-in-Ok-clause-was_clean : goal.returns-in-Ok-clause-was_clean
returns-in-Ok-clause-was_clean g c after = c.in-Ok.ensures.was_clean (c.insert_all.ensures.was_clean after)

pub returns-in-Ok-clause-goes_on : goal.returns-in-Ok-clause-goes_on
returns-in-Ok-clause-goes_on g c = goes_then c.in-Ok.ensures.goes_on c.insert_all.ensures.goes_on

pub returns-in-Ok-clause-sure_failed : goal.returns-in-Ok-clause-sure_failed
returns-in-Ok-clause-sure_failed g c h =
    let old = state g.S.Store c.args.tx.now.conn.now in
    let mid = state g.S.Store c.delete_all.new.tx.conn.now in
    let new = state g.S.Store c.insert_all.new.tx.conn.now in
    let t = c.args.shape.now in
    let gone = c.args.gone.now in
    let fresh = map tuple c.args.fresh.now in
    let sure = step_first c.insert_all.ensures.was_clean h in
    let steps = c.in-Ok.ensures.sure_steps sure in
    let done = c.in-Ok.ensures in
    let out = deleted old mid t gone sure.after steps (done.sure_rows sure) (done.sure_kept sure) done.goes_on in
    IfErr-weaker c.insert_all.result (FailsToInsert g.S.Store t mid new [] fresh) (FailsToChange g.S.Store t old new gone fresh)
    (λ fault f. inr (f.0, f.1, f.2, f.3, reaches_then old mid (state g.S.Store f.0) t gone _ out f.4, f.5))
    (c.insert_all.ensures.sure_failed (step_then steps h))

pub returns-in-Err-clause-sure_failed : goal.returns-in-Err-clause-sure_failed
returns-in-Err-clause-sure_failed g c h = inl (c.in-Err.ensures.sure_failed h)
