use Rattle.std.proofs.Common.{ap}
use Rattle.sqlite.specs.Held.{state}
use Rattle.med_value.specs.Datum.{tuple}
use Rattle.sqlite_writes.proofs.Inserting.{row_in, row_taken, taken_unread}
use Rattle.sqlite_writes.proofs.Steps.{not_run}
use Rattle.sqlite_writes.proofs.Kept.{inside_kept, inside_open, step_clean}
use Rattle.sqlite_writes.proofs.statements.insert.Goals as goal

pub returns-in-Ok-clause-done : goal.returns-in-Ok-clause-done
returns-in-Ok-clause-done g c honest tree cells kinds is placed =
    let s = g.met.S.SourceStore.steady honest c.execute_row.new.tx.conn.now.store in
    row_in (state g.S.Store c.args.tx.now.conn.now) (state g.S.Store c.execute_row.new.tx.conn.now) c.args.text.now tree cells kinds is
    (tuple c.args.row.now) placed c.in-Ok._count (c.in-Ok.ensures.runs s.clean (c.requires.inside honest)).0

pub returns-in-Err-clause-taken : goal.returns-in-Err-clause-taken
returns-in-Err-clause-taken g c honest tree cells kinds is placed same =
    let s = g.met.S.SourceStore.steady honest c.execute_row.new.tx.conn.now.store in
    row_taken (state g.S.Store c.args.tx.now.conn.now) (state g.S.Store c.execute_row.new.tx.conn.now) c.args.text.now tree cells kinds is
    (tuple c.args.row.now) placed (rw same at (c.in-Err.ensures.runs s.clean (c.requires.inside honest)))

pub returns-in-Ok-clause-unread : goal.returns-in-Ok-clause-unread
returns-in-Ok-clause-unread g c honest bad =
    let s = g.met.S.SourceStore.steady honest c.execute_row.new.tx.conn.now.store in
    not_run c.args.text.now _ (state g.S.Store c.args.tx.now.conn.now) (state g.S.Store c.execute_row.new.tx.conn.now) c.in-Ok._count bad
    (c.in-Ok.ensures.runs s.clean (c.requires.inside honest)).0

pub returns-in-Err-clause-absent : goal.returns-in-Err-clause-absent
returns-in-Err-clause-absent g c honest bad same =
    let s = g.met.S.SourceStore.steady honest c.execute_row.new.tx.conn.now.store in
    taken_unread c.args.text.now _ (state g.S.Store c.args.tx.now.conn.now) (state g.S.Store c.execute_row.new.tx.conn.now) bad
    (rw same at (c.in-Err.ensures.runs s.clean (c.requires.inside honest)))

pub returns-in-Err-clause-kept : goal.returns-in-Err-clause-kept
returns-in-Err-clause-kept g c honest =
    let s = g.met.S.SourceStore.steady honest c.execute_row.new.tx.conn.now.store in
    inside_kept c.args.text.now _ (state g.S.Store c.args.tx.now.conn.now) (state g.S.Store c.execute_row.new.tx.conn.now) _
    (c.execute_row.ensures.runs s.clean (c.requires.inside honest)) s.is_open

pub returns-in-Ok-clause-inside : goal.returns-in-Ok-clause-inside
returns-in-Ok-clause-inside g c honest =
    let s = g.met.S.SourceStore.steady honest c.execute_row.new.tx.conn.now.store in
    (c.in-Ok.ensures.runs s.clean (c.requires.inside honest)).1.mode

pub returns-in-Ok-clause-sure_done : goal.returns-in-Ok-clause-sure_done
returns-in-Ok-clause-sure_done g c after inside tree cells kinds is placed =
    row_in (state g.S.Store c.args.tx.now.conn.now) (state g.S.Store c.execute_row.new.tx.conn.now) c.args.text.now tree cells kinds is
    (tuple c.args.row.now) placed c.in-Ok._count (c.in-Ok.ensures.runs after.clean inside).0

pub returns-in-Err-clause-sure_taken : goal.returns-in-Err-clause-sure_taken
returns-in-Err-clause-sure_taken g c after inside tree cells kinds is placed same =
    row_taken (state g.S.Store c.args.tx.now.conn.now) (state g.S.Store c.execute_row.new.tx.conn.now) c.args.text.now tree cells kinds is
    (tuple c.args.row.now) placed (rw same at (c.in-Err.ensures.runs after.clean inside))

pub returns-in-Err-clause-sure_absent : goal.returns-in-Err-clause-sure_absent
returns-in-Err-clause-sure_absent g c after inside bad same =
    taken_unread c.args.text.now _ (state g.S.Store c.args.tx.now.conn.now) (state g.S.Store c.execute_row.new.tx.conn.now) bad
    (rw same at (c.in-Err.ensures.runs after.clean inside))

pub returns-in-Ok-clause-sure_kept : goal.returns-in-Ok-clause-sure_kept
returns-in-Ok-clause-sure_kept g c after inside =
    inside_kept c.args.text.now _ (state g.S.Store c.args.tx.now.conn.now) (state g.S.Store c.execute_row.new.tx.conn.now) _
    (c.execute_row.ensures.runs after.clean inside) after.is_open

pub returns-in-Ok-clause-was_clean : goal.returns-in-Ok-clause-was_clean
returns-in-Ok-clause-was_clean g c after =
    step_clean (state g.S.Store c.args.tx.now.conn.now) (state g.S.Store c.execute_row.new.tx.conn.now) c.execute_row.ensures.survives.clean
    (λ inside. inside_open c.args.text.now _ (state g.S.Store c.args.tx.now.conn.now) (state g.S.Store c.execute_row.new.tx.conn.now) _
    (c.execute_row.ensures.runs after.clean inside))
    (λ out. ap (λ h. (g.S.Store.view h.store).is_open) (c.execute_row.ensures.ended out)) after

pub returns-in-Err-clause-sure_kept : goal.returns-in-Err-clause-sure_kept
returns-in-Err-clause-sure_kept g c after inside =
    inside_kept c.args.text.now _ (state g.S.Store c.args.tx.now.conn.now) (state g.S.Store c.execute_row.new.tx.conn.now) _
    (c.execute_row.ensures.runs after.clean inside) after.is_open

pub returns-in-Err-clause-was_clean : goal.returns-in-Err-clause-was_clean
returns-in-Err-clause-was_clean g c after =
    step_clean (state g.S.Store c.args.tx.now.conn.now) (state g.S.Store c.execute_row.new.tx.conn.now) c.execute_row.ensures.survives.clean
    (λ inside. inside_open c.args.text.now _ (state g.S.Store c.args.tx.now.conn.now) (state g.S.Store c.execute_row.new.tx.conn.now) _
    (c.execute_row.ensures.runs after.clean inside))
    (λ out. ap (λ h. (g.S.Store.view h.store).is_open) (c.execute_row.ensures.ended out)) after

pub returns-in-Ok-clause-sure_unread : goal.returns-in-Ok-clause-sure_unread
returns-in-Ok-clause-sure_unread g c after inside bad =
    not_run c.args.text.now _ (state g.S.Store c.args.tx.now.conn.now) (state g.S.Store c.execute_row.new.tx.conn.now) c.in-Ok._count bad
    (c.in-Ok.ensures.runs after.clean inside).0

pub returns-in-Ok-clause-sure_inside : goal.returns-in-Ok-clause-sure_inside
returns-in-Ok-clause-sure_inside g c after inside = (c.in-Ok.ensures.runs after.clean inside).1.mode

pub returns-in-Ok-clause-goes_on : goal.returns-in-Ok-clause-goes_on
returns-in-Ok-clause-goes_on g c = record { faults = c.execute_row.ensures.survives.counts; limit = c.execute_row.ensures.survives.limit }

pub returns-in-Err-clause-goes_on : goal.returns-in-Err-clause-goes_on
returns-in-Err-clause-goes_on g c = record { faults = c.execute_row.ensures.survives.counts; limit = c.execute_row.ensures.survives.limit }
