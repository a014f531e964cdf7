use Rattle.std.proofs.Common.{rules, ◌≡◌, ap}
use Rattle.sqlite.specs.declared.types.Value.TheVariants.{Int}
use Rattle.sqlite_value.specs.Value.{owned}
use Rattle.sqlite.specs.Held.{state}
use Rattle.sqlite_writes.proofs.Deleting.{deletes}
use Rattle.sqlite_writes.proofs.Steps.{not_run}
use Rattle.sqlite_writes.proofs.Kept.{inside_kept, inside_open, step_clean}
use Rattle.sqlite_writes.proofs.statements.delete.Goals as goal

pub returns-in-Ok-clause-done : goal.returns-in-Ok-clause-done
returns-in-Ok-clause-done g c honest tree is shaped =
    let s = g.met.S.SourceStore.steady honest c.execute.new.self.conn.now.store in
    let a : owned c.params-to_sql.result ≡ Int c.args.key = search rules in
    let ran = rw a at (c.in-Ok.ensures.runs s.clean (c.requires.inside honest)) in
    deletes (state g.S.Store c.args.tx.now.conn.now)
    (state g.S.Store c.execute.new.self.conn.now) c.args.key c.args.text.now tree is c.in-Ok._count shaped ran.0

pub returns-in-Ok-clause-unread : goal.returns-in-Ok-clause-unread
returns-in-Ok-clause-unread g c honest bad =
    let s = g.met.S.SourceStore.steady honest c.execute.new.self.conn.now.store in
    not_run c.args.text.now _ (state g.S.Store c.args.tx.now.conn.now) (state g.S.Store c.execute.new.self.conn.now) c.in-Ok._count bad
    (c.in-Ok.ensures.runs s.clean (c.requires.inside honest)).0

pub returns-in-Err-clause-kept : goal.returns-in-Err-clause-kept
returns-in-Err-clause-kept g c honest =
    let s = g.met.S.SourceStore.steady honest c.execute.new.self.conn.now.store in
    inside_kept c.args.text.now _ (state g.S.Store c.args.tx.now.conn.now) (state g.S.Store c.execute.new.self.conn.now) _
    (c.execute.ensures.runs s.clean (c.requires.inside honest)) s.is_open

pub returns-in-Ok-clause-inside : goal.returns-in-Ok-clause-inside
returns-in-Ok-clause-inside g c honest =
    let s = g.met.S.SourceStore.steady honest c.execute.new.self.conn.now.store in
    (c.in-Ok.ensures.runs s.clean (c.requires.inside honest)).1.mode

pub returns-in-Ok-clause-sure_done : goal.returns-in-Ok-clause-sure_done
returns-in-Ok-clause-sure_done g c after inside tree is shaped =
    let a : owned c.params-to_sql.result ≡ Int c.args.key = search rules in
    let ran = rw a at (c.in-Ok.ensures.runs after.clean inside) in
    deletes (state g.S.Store c.args.tx.now.conn.now)
    (state g.S.Store c.execute.new.self.conn.now) c.args.key c.args.text.now tree is c.in-Ok._count shaped ran.0

pub returns-in-Ok-clause-sure_kept : goal.returns-in-Ok-clause-sure_kept
returns-in-Ok-clause-sure_kept g c after inside =
    inside_kept c.args.text.now _ (state g.S.Store c.args.tx.now.conn.now) (state g.S.Store c.execute.new.self.conn.now) _
    (c.execute.ensures.runs after.clean inside) after.is_open

pub returns-in-Ok-clause-was_clean : goal.returns-in-Ok-clause-was_clean
returns-in-Ok-clause-was_clean g c after =
    step_clean (state g.S.Store c.args.tx.now.conn.now) (state g.S.Store c.execute.new.self.conn.now) c.execute.ensures.survives.clean
    (λ inside. inside_open c.args.text.now _ (state g.S.Store c.args.tx.now.conn.now) (state g.S.Store c.execute.new.self.conn.now) _
    (c.execute.ensures.runs after.clean inside))
    (λ out. ap (λ h. (g.S.Store.view h.store).is_open) (c.execute.ensures.ended out).1) after

pub returns-in-Err-clause-sure_kept : goal.returns-in-Err-clause-sure_kept
returns-in-Err-clause-sure_kept g c after inside =
    inside_kept c.args.text.now _ (state g.S.Store c.args.tx.now.conn.now) (state g.S.Store c.execute.new.self.conn.now) _
    (c.execute.ensures.runs after.clean inside) after.is_open

pub returns-in-Err-clause-was_clean : goal.returns-in-Err-clause-was_clean
returns-in-Err-clause-was_clean g c after =
    step_clean (state g.S.Store c.args.tx.now.conn.now) (state g.S.Store c.execute.new.self.conn.now) c.execute.ensures.survives.clean
    (λ inside. inside_open c.args.text.now _ (state g.S.Store c.args.tx.now.conn.now) (state g.S.Store c.execute.new.self.conn.now) _
    (c.execute.ensures.runs after.clean inside))
    (λ out. ap (λ h. (g.S.Store.view h.store).is_open) (c.execute.ensures.ended out).1) after

pub returns-in-Ok-clause-sure_unread : goal.returns-in-Ok-clause-sure_unread
returns-in-Ok-clause-sure_unread g c after inside bad =
    not_run c.args.text.now _ (state g.S.Store c.args.tx.now.conn.now) (state g.S.Store c.execute.new.self.conn.now) c.in-Ok._count bad
    (c.in-Ok.ensures.runs after.clean inside).0

pub returns-in-Ok-clause-sure_inside : goal.returns-in-Ok-clause-sure_inside
returns-in-Ok-clause-sure_inside g c after inside = (c.in-Ok.ensures.runs after.clean inside).1.mode

pub returns-in-Ok-clause-goes_on : goal.returns-in-Ok-clause-goes_on
returns-in-Ok-clause-goes_on g c = record { faults = c.execute.ensures.survives.counts; limit = c.execute.ensures.survives.limit }

pub returns-in-Err-clause-goes_on : goal.returns-in-Err-clause-goes_on
returns-in-Err-clause-goes_on g c = record { faults = c.execute.ensures.survives.counts; limit = c.execute.ensures.survives.limit }

pub returns-in-Err-clause-reported : goal.returns-in-Err-clause-reported
returns-in-Err-clause-reported g c clean inside =
    let a : owned c.params-to_sql.result ≡ Int c.args.key = search rules in
    rw a at (c.in-Err.ensures.runs clean inside)
