use Rattle.std.proofs.Common.{rules, ◌≡◌, ◌∙◌, inl, inr, IsTrue, not, map, ap, sym, subst}
use Rattle.sqlite_tables.proofs.Refused.{only_more}
use Rattle.med_value.specs.Datum.{tuple}
use Rattle.sqlite_tables.specs.Prelude.{entries_of, IsCleanAfter}
use Rattle.sqlite_writes.specs.Rewriting.{rewritten}
use Rattle.sqlite_writes.proofs.Kept.{clean_before, commit_open, commit_undone}
use Rattle.sqlite.specs.Effect.{Database}
use Rattle.sqlite.specs.Held.{state}
use Rattle.sqlite_writes.specs.Writable.{IsSureWrite, KeepsTables}
use Rattle.sqlite_writes.proofs.Changed.{entries_ordered, begun_step}
use Rattle.sqlite_writes.specs.Failing.{GoesOn, FailsToRewrite}
use Rattle.sqlite_writes.proofs.Reaching.{reached, honest_write, from_begun, change_begun}
use Rattle.sqlite_writes.proofs.rewriting.rewrite.Goals as goal

pub change_rows-requires-clause-writable : goal.change_rows-requires-clause-writable
change_rows-requires-clause-writable g c h = rw c.transaction-tx.ensures.begun (c.requires.writable h)

pub change_rows-requires-clause-ordered : goal.change_rows-requires-clause-ordered
change_rows-requires-clause-ordered g c h =
    rw c.transaction-tx.ensures.begun (entries_ordered g.S.Store c.args.conn.now c.args.shape.now
    (g.met.S.SourceStore.steady h c.args.conn.now.store) c.schema-schema.ensures.live (c.requires.writable h))

pub returns-in-Ok-clause-others : goal.returns-in-Ok-clause-others
returns-in-Ok-clause-others g c h =
    let old = (state g.S.Store c.args.conn.now).now in
    let end = c.commit.new.self.0 in
    let same : end ≡ c.conn-2-1.given.0 = search rules in
    let now = (c.in-Ok.ensures.ok (g.met.S.SourceStore.steady h end.store).clean).1.now_is in
    let kept : KeepsTables old (state g.S.Store c.change_rows.new.tx.conn.now).now c.args.shape.now =
    rw c.transaction-tx.ensures.begun at (c.in_default.ensures.others h) in
    subst (λ k. KeepsTables old (state g.S.Store k).now c.args.shape.now) same (subst (λ
    (d : Database). KeepsTables old d c.args.shape.now) (sym now) kept)

pub returns-in-Ok-clause-sure_rows : goal.returns-in-Ok-clause-sure_rows
returns-in-Ok-clause-sure_rows g c h =
    let was = state g.S.Store c.args.conn.now in
    let t = c.args.shape.now in
    let end = c.commit.new.self.0 in
    let same : end ≡ c.conn-2-1.given.0 = search rules in
    let sure = subst (λ k. IsSureWrite was (state g.S.Store k) t) (sym same) h in
    let ok = c.in-Ok.ensures.ok sure.after.clean in
    let mid = clean_before (state g.S.Store c.change_rows.new.tx.conn.now) (state g.S.Store end) c.commit.ensures.survives.clean
    (λ up. ok.1.was_open) sure.after in
    let step = begun_step g.S.Store c.args.conn.now c.transaction-tx.result.conn.now c.change_rows.new.tx.conn.now t
    c.transaction-tx.ensures.begun mid sure.writable sure.ordered in
    let now = ok.1.now_is in
    let rows = rw c.transaction-tx.ensures.begun at (c.in_default.ensures.sure_rows step) in
    subst (λ k. entries_of (state g.S.Store k).now t ≡ rewritten t c.args.gone.now (map tuple c.args.fresh.now)
    (entries_of was.now t)) same (ap (λ (d : Database). entries_of d t) now ∙ rows)

pub returns-in-Ok-clause-sure_free : goal.returns-in-Ok-clause-sure_free
returns-in-Ok-clause-sure_free g c h =
    let was = state g.S.Store c.args.conn.now in
    let t = c.args.shape.now in
    let end = c.commit.new.self.0 in
    let same : end ≡ c.conn-2-1.given.0 = search rules in
    let sure = subst (λ k. IsSureWrite was (state g.S.Store k) t) (sym same) h in
    let ok = c.in-Ok.ensures.ok sure.after.clean in
    let mid = clean_before (state g.S.Store c.change_rows.new.tx.conn.now) (state g.S.Store end) c.commit.ensures.survives.clean
    (λ up. ok.1.was_open) sure.after in
    let step = begun_step g.S.Store c.args.conn.now c.transaction-tx.result.conn.now c.change_rows.new.tx.conn.now t
    c.transaction-tx.ensures.begun mid sure.writable sure.ordered in
    let now = ok.1.now_is in
    rw c.transaction-tx.ensures.begun at (c.in_default.ensures.sure_free step)

pub returns-in-Ok-clause-sure_lasts : goal.returns-in-Ok-clause-sure_lasts
returns-in-Ok-clause-sure_lasts g c after =
    let end = c.commit.new.self.0 in
    let same : end ≡ c.conn-2-1.given.0 = search rules in
    let there = subst (λ k. IsCleanAfter (state g.S.Store k)) (sym same) after in
    let shows = (c.in-Ok.ensures.ok there.clean).1 in
    subst (λ k. (state g.S.Store k).committed ≡ (state g.S.Store k).now) same (shows.committed_is ∙ sym shows.now_is)

pub returns-in-Ok-clause-sure_schema : goal.returns-in-Ok-clause-sure_schema
returns-in-Ok-clause-sure_schema g c h =
    let was = state g.S.Store c.args.conn.now in
    let t = c.args.shape.now in
    let end = c.commit.new.self.0 in
    let same : end ≡ c.conn-2-1.given.0 = search rules in
    let sure = subst (λ k. IsSureWrite was (state g.S.Store k) t) (sym same) h in
    let ok = c.in-Ok.ensures.ok sure.after.clean in
    let mid = clean_before (state g.S.Store c.change_rows.new.tx.conn.now) (state g.S.Store end) c.commit.ensures.survives.clean
    (λ up. ok.1.was_open) sure.after in
    let step = begun_step g.S.Store c.args.conn.now c.transaction-tx.result.conn.now c.change_rows.new.tx.conn.now t
    c.transaction-tx.ensures.begun mid sure.writable sure.ordered in
    let now = ok.1.now_is in
    let schema = rw c.transaction-tx.ensures.begun at ((c.in_default.ensures.sure_steps step).schema) in
    subst (λ k. (state g.S.Store k).now.schema ≡ was.now.schema) same (ap (λ (d : Database). d.schema) now ∙ schema)

pub returns-in-Ok-clause-sure_others : goal.returns-in-Ok-clause-sure_others
returns-in-Ok-clause-sure_others g c h =
    let was = state g.S.Store c.args.conn.now in
    let t = c.args.shape.now in
    let end = c.commit.new.self.0 in
    let same : end ≡ c.conn-2-1.given.0 = search rules in
    let sure = subst (λ k. IsSureWrite was (state g.S.Store k) t) (sym same) h in
    let ok = c.in-Ok.ensures.ok sure.after.clean in
    let mid = clean_before (state g.S.Store c.change_rows.new.tx.conn.now) (state g.S.Store end) c.commit.ensures.survives.clean
    (λ up. ok.1.was_open) sure.after in
    let step = begun_step g.S.Store c.args.conn.now c.transaction-tx.result.conn.now c.change_rows.new.tx.conn.now t
    c.transaction-tx.ensures.begun mid sure.writable sure.ordered in
    let now = ok.1.now_is in
    let kept : KeepsTables was.now (state g.S.Store c.change_rows.new.tx.conn.now).now t =
    rw c.transaction-tx.ensures.begun at ((c.in_default.ensures.sure_steps step).others) in
    subst (λ k. KeepsTables was.now (state g.S.Store k).now t) same (subst (λ (d : Database). KeepsTables was.now d t) (sym now) kept)

pub returns-in-Err-clause-sure_same : goal.returns-in-Err-clause-sure_same
returns-in-Err-clause-sure_same g c h =
    let was = state g.S.Store c.args.conn.now in
    let t = c.args.shape.now in
    let end = c.drop-tx.new.self.0 in
    let same : end ≡ c.conn-1.given.0 = search rules in
    let sure = subst (λ k. IsSureWrite was (state g.S.Store k) t) (sym same) h in
    let undone = c.drop-tx.ensures.undone sure.after.clean in
    let mid = clean_before (state g.S.Store c.change_rows.new.tx.conn.now)
    (state g.S.Store end) c.drop-tx.ensures.survives.clean undone.was_open sure.after in
    let step = begun_step g.S.Store c.args.conn.now c.transaction-tx.result.conn.now c.change_rows.new.tx.conn.now t
    c.transaction-tx.ensures.begun mid sure.writable sure.ordered in
    let first = rw c.transaction-tx.ensures.begun at (c.in-Err.ensures.was_clean mid) in
    let kept = rw c.transaction-tx.ensures.begun at (c.in-Err.ensures.sure_kept step) in
    let idle = c.is_autocommit-idle.ensures in
    let yes : IsTrue c.is_autocommit-idle.result = idle.value ∙ ap not c.requires.idle in
    let back = (undone.undone sure.after.is_open).0 ∙ kept ∙ sym (idle.settled yes first.is_open) in
    subst (λ k. (state g.S.Store k).now ≡ was.now) same back

pub returns-in-Err-clause-sure_refused : goal.returns-in-Err-clause-sure_refused
returns-in-Err-clause-sure_refused g c =
    only_more _ _ c.in-Err.fault
    (λ cause repeats h.
    let was = state g.S.Store c.args.conn.now in
    let t = c.args.shape.now in
    let end = c.drop-tx.new.self.0 in
    let same : end ≡ c.conn-1.given.0 = search rules in
    let sure = subst (λ k. IsSureWrite was (state g.S.Store k) t) (sym same) h in
    let undone = c.drop-tx.ensures.undone sure.after.clean in
    let mid = clean_before (state g.S.Store c.change_rows.new.tx.conn.now)
    (state g.S.Store end) c.drop-tx.ensures.survives.clean undone.was_open sure.after in
    let step = begun_step g.S.Store c.args.conn.now c.transaction-tx.result.conn.now c.change_rows.new.tx.conn.now t
    c.transaction-tx.ensures.begun mid sure.writable sure.ordered in
    rw c.transaction-tx.ensures.begun at (repeats step))
    c.in-Err.ensures.sure_refused

pub returns-in-Err-commit-clause-sure_same : goal.returns-in-Err-commit-clause-sure_same
returns-in-Err-commit-clause-sure_same g c h =
    let was = state g.S.Store c.args.conn.now in
    let t = c.args.shape.now in
    let end = c.commit.new.self.0 in
    let same : end ≡ c.conn-2-1.given.0 = search rules in
    let sure = subst (λ k. IsSureWrite was (state g.S.Store k) t) (sym same) h in
    let written = state g.S.Store c.change_rows.new.tx.conn.now in
    let fails = c.in-Err-commit.ensures.err sure.after.clean in
    let mid = clean_before written (state g.S.Store end) c.commit.ensures.survives.clean
    (commit_open written (state g.S.Store end) c.in-Err-commit.error fails) sure.after in
    let step = begun_step g.S.Store c.args.conn.now c.transaction-tx.result.conn.now c.change_rows.new.tx.conn.now t
    c.transaction-tx.ensures.begun mid sure.writable sure.ordered in
    let first = rw c.transaction-tx.ensures.begun at (c.in_default.ensures.was_clean mid) in
    let kept = rw c.transaction-tx.ensures.begun at (c.in_default.ensures.sure_kept step) in
    let undone = commit_undone written (state g.S.Store end) c.in-Err-commit.error fails
    (c.in_default.ensures.sure_steps step).inside sure.after.is_open in
    let idle = c.is_autocommit-idle.ensures in
    let yes : IsTrue c.is_autocommit-idle.result = idle.value ∙ ap not c.requires.idle in
    subst (λ k. (state g.S.Store k).now ≡ was.now) same (undone ∙ kept ∙ sym (idle.settled yes first.is_open))

pub returns-in-Err-clause-sure_reported : goal.returns-in-Err-clause-sure_reported
returns-in-Err-clause-sure_reported g c h =
    let was = state g.S.Store c.args.conn.now in
    let t = c.args.shape.now in
    let gone = c.args.gone.now in
    let fresh = map tuple c.args.fresh.now in
    let end = c.drop-tx.new.self.0 in
    let same : end ≡ c.conn-1.given.0 = search rules in
    let written = state g.S.Store c.change_rows.new.tx.conn.now in
    let sure = subst (λ k. IsSureWrite was (state g.S.Store k) t) (sym same) h in
    let undone = c.drop-tx.ensures.undone sure.after.clean in
    let mid = clean_before written (state g.S.Store end) c.drop-tx.ensures.survives.clean undone.was_open sure.after in
    let first = c.transaction-tx.result.conn.now in
    let begun = c.transaction-tx.ensures.begun in
    let step = begun_step g.S.Store c.args.conn.now first c.change_rows.new.tx.conn.now t begun mid sure.writable sure.ordered in
    let fault = c.in-Err.fault in
    let failed = change_begun g.S.Store t c.args.conn.now first begun written gone fresh fault (c.in-Err.ensures.sure_failed step) in
    let survives = c.drop-tx.ensures.survives in
    let on : GoesOn written (state g.S.Store end) = record { faults = survives.counts; limit = survives.limit } in
    let why : FailsToRewrite g.S.Store t gone fresh was (state g.S.Store end) fault =
    inl (c.change_rows.new.tx.conn.now, failed, mid, undone, on) in
    subst (λ k. FailsToRewrite g.S.Store t gone fresh was (state g.S.Store k) fault) same why

pub returns-in-Err-clause-reported : goal.returns-in-Err-clause-reported
returns-in-Err-clause-reported g c h =
    let was = state g.S.Store c.args.conn.now in
    let t = c.args.shape.now in
    let gone = c.args.gone.now in
    let fresh = map tuple c.args.fresh.now in
    let end = c.drop-tx.new.self.0 in
    let same : end ≡ c.conn-1.given.0 = search rules in
    let written = state g.S.Store c.change_rows.new.tx.conn.now in
    let sure = honest_write g.S.Store c.args.conn.now end t (g.met.S.SourceStore.steady h c.args.conn.now.store)
    (g.met.S.SourceStore.steady h end.store) c.schema-schema.ensures.live (c.requires.writable h) in
    let undone = c.drop-tx.ensures.undone sure.after.clean in
    let mid = clean_before written (state g.S.Store end) c.drop-tx.ensures.survives.clean undone.was_open sure.after in
    let first = c.transaction-tx.result.conn.now in
    let begun = c.transaction-tx.ensures.begun in
    let step = begun_step g.S.Store c.args.conn.now first c.change_rows.new.tx.conn.now t begun mid sure.writable sure.ordered in
    let fault = c.in-Err.fault in
    let failed = change_begun g.S.Store t c.args.conn.now first begun written gone fresh fault (c.in-Err.ensures.sure_failed step) in
    let survives = c.drop-tx.ensures.survives in
    let on : GoesOn written (state g.S.Store end) = record { faults = survives.counts; limit = survives.limit } in
    let why : FailsToRewrite g.S.Store t gone fresh was (state g.S.Store end) fault =
    inl (c.change_rows.new.tx.conn.now, failed, mid, undone, on) in
    subst (λ k. FailsToRewrite g.S.Store t gone fresh was (state g.S.Store k) fault) same why

pub returns-in-Err-commit-clause-sure_reported : goal.returns-in-Err-commit-clause-sure_reported
returns-in-Err-commit-clause-sure_reported g c h =
    let was = state g.S.Store c.args.conn.now in
    let t = c.args.shape.now in
    let gone = c.args.gone.now in
    let fresh = map tuple c.args.fresh.now in
    let end = c.commit.new.self.0 in
    let same : end ≡ c.conn-2-1.given.0 = search rules in
    let written = state g.S.Store c.change_rows.new.tx.conn.now in
    let sure = subst (λ k. IsSureWrite was (state g.S.Store k) t) (sym same) h in
    let fails = c.in-Err-commit.ensures.err sure.after.clean in
    let mid = clean_before written (state g.S.Store end) c.commit.ensures.survives.clean
    (commit_open written (state g.S.Store end) c.in-Err-commit.error fails) sure.after in
    let first = c.transaction-tx.result.conn.now in
    let begun = c.transaction-tx.ensures.begun in
    let step = begun_step g.S.Store c.args.conn.now first c.change_rows.new.tx.conn.now t begun mid sure.writable sure.ordered in
    let done = c.in_default.ensures in
    let all = from_begun g.S.Store t c.args.conn.now first begun written gone fresh
    (reached (state g.S.Store first) written t gone fresh mid (done.sure_steps step) (done.sure_rows step)
    (done.sure_free step) (done.sure_kept step) done.goes_on) in
    let fault = c.failure_of.result in
    let why : FailsToRewrite g.S.Store t gone fresh was (state g.S.Store end) fault =
    inr (c.change_rows.new.tx.conn.now, c.in-Err-commit.error, all, fails, c.failure_of.ensures.is) in
    subst (λ k. FailsToRewrite g.S.Store t gone fresh was (state g.S.Store k) fault) same why

pub returns-in-Err-commit-clause-reported : goal.returns-in-Err-commit-clause-reported
returns-in-Err-commit-clause-reported g c h =
    let was = state g.S.Store c.args.conn.now in
    let t = c.args.shape.now in
    let gone = c.args.gone.now in
    let fresh = map tuple c.args.fresh.now in
    let end = c.commit.new.self.0 in
    let same : end ≡ c.conn-2-1.given.0 = search rules in
    let written = state g.S.Store c.change_rows.new.tx.conn.now in
    let sure = honest_write g.S.Store c.args.conn.now end t (g.met.S.SourceStore.steady h c.args.conn.now.store)
    (g.met.S.SourceStore.steady h end.store) c.schema-schema.ensures.live (c.requires.writable h) in
    let fails = c.in-Err-commit.ensures.err sure.after.clean in
    let mid = clean_before written (state g.S.Store end) c.commit.ensures.survives.clean
    (commit_open written (state g.S.Store end) c.in-Err-commit.error fails) sure.after in
    let first = c.transaction-tx.result.conn.now in
    let begun = c.transaction-tx.ensures.begun in
    let step = begun_step g.S.Store c.args.conn.now first c.change_rows.new.tx.conn.now t begun mid sure.writable sure.ordered in
    let done = c.in_default.ensures in
    let all = from_begun g.S.Store t c.args.conn.now first begun written gone fresh
    (reached (state g.S.Store first) written t gone fresh mid (done.sure_steps step) (done.sure_rows step)
    (done.sure_free step) (done.sure_kept step) done.goes_on) in
    let fault = c.failure_of.result in
    let why : FailsToRewrite g.S.Store t gone fresh was (state g.S.Store end) fault =
    inr (c.change_rows.new.tx.conn.now, c.in-Err-commit.error, all, fails, c.failure_of.ensures.is) in
    subst (λ k. FailsToRewrite g.S.Store t gone fresh was (state g.S.Store k) fault) same why
