use Rattle.std.proofs.Common.{◌≡◌, length, arith}
use Rattle.sqlite.specs.Held.{state}
use Rattle.med_value.specs.Datum.{tuple}
use Rattle.sqlite_tables.proofs.Refused.{only_more}
use Rattle.sqlite_writes.proofs.Changed.{insert_schema, insert_rows, insert_ordered, insert_others, insert_free, insert_taken}
use Rattle.sqlite_writes.proofs.Placed.{as_wide}
use Rattle.sqlite_writes.proofs.rows.insert_row.Goals as goal

pub returns-in-Ok-clause-rows : goal.returns-in-Ok-clause-rows
returns-in-Ok-clause-rows g c h =
    insert_rows (state g.S.Store c.args.tx.now.conn.now).now (state g.S.Store c.insert.new.tx.conn.now).now c.args.shape.now
    (tuple c.args.row.now) c.requires.fits c.insert_text.result.now c.insert_text.ensures (c.requires.writable h)
    (c.in-Ok.ensures.done h) (c.in-Ok.ensures.unread h)

pub returns-in-Ok-clause-ordered : goal.returns-in-Ok-clause-ordered
returns-in-Ok-clause-ordered g c h =
    insert_ordered (state g.S.Store c.args.tx.now.conn.now).now (state g.S.Store c.insert.new.tx.conn.now).now c.args.shape.now
    (tuple c.args.row.now) c.requires.fits c.insert_text.result.now c.insert_text.ensures (c.requires.writable h)
    (c.in-Ok.ensures.done h) (c.in-Ok.ensures.unread h) (c.requires.ordered h)

pub returns-in-Ok-clause-free : goal.returns-in-Ok-clause-free
returns-in-Ok-clause-free g c h =
    insert_free (state g.S.Store c.args.tx.now.conn.now).now (state g.S.Store c.insert.new.tx.conn.now).now c.args.shape.now
    (tuple c.args.row.now) c.requires.fits c.insert_text.result.now c.insert_text.ensures (c.requires.writable h)
    (c.in-Ok.ensures.done h) (c.in-Ok.ensures.unread h)

pub returns-in-Ok-clause-schema : goal.returns-in-Ok-clause-schema
returns-in-Ok-clause-schema g c h =
    insert_schema (state g.S.Store c.args.tx.now.conn.now).now (state g.S.Store c.insert.new.tx.conn.now).now c.args.shape.now
    (tuple c.args.row.now) c.requires.fits c.insert_text.result.now c.insert_text.ensures (c.requires.writable h)
    (c.in-Ok.ensures.done h) (c.in-Ok.ensures.unread h)

pub returns-in-Ok-clause-others : goal.returns-in-Ok-clause-others
returns-in-Ok-clause-others g c h =
    insert_others (state g.S.Store c.args.tx.now.conn.now).now (state g.S.Store c.insert.new.tx.conn.now).now c.args.shape.now
    (tuple c.args.row.now) c.requires.fits c.insert_text.result.now c.insert_text.ensures (c.requires.writable h)
    (c.in-Ok.ensures.done h) (c.in-Ok.ensures.unread h)

pub returns-in-Ok-clause-sure_rows : goal.returns-in-Ok-clause-sure_rows
returns-in-Ok-clause-sure_rows g c h =
    insert_rows (state g.S.Store c.args.tx.now.conn.now).now (state g.S.Store c.insert.new.tx.conn.now).now c.args.shape.now
    (tuple c.args.row.now) c.requires.fits c.insert_text.result.now c.insert_text.ensures h.writable
    (c.in-Ok.ensures.sure_done h.after h.inside) (c.in-Ok.ensures.sure_unread h.after h.inside)

pub returns-in-Ok-clause-sure_free : goal.returns-in-Ok-clause-sure_free
returns-in-Ok-clause-sure_free g c h =
    insert_free (state g.S.Store c.args.tx.now.conn.now).now (state g.S.Store c.insert.new.tx.conn.now).now c.args.shape.now
    (tuple c.args.row.now) c.requires.fits c.insert_text.result.now c.insert_text.ensures h.writable
    (c.in-Ok.ensures.sure_done h.after h.inside) (c.in-Ok.ensures.sure_unread h.after h.inside)

pub returns-in-Ok-clause-sure_steps : goal.returns-in-Ok-clause-sure_steps
returns-in-Ok-clause-sure_steps g c h =
    let old = (state g.S.Store c.args.tx.now.conn.now).now in
    let new = (state g.S.Store c.insert.new.tx.conn.now).now in
    let t = c.args.shape.now in
    let x = tuple c.args.row.now in
    let text = c.insert_text.result.now in
    let done = c.in-Ok.ensures.sure_done h.after h.inside in
    let unread = c.in-Ok.ensures.sure_unread h.after h.inside in
    record {
      inside = c.in-Ok.ensures.sure_inside h.after h.inside;
      schema = insert_schema old new t x c.requires.fits text c.insert_text.ensures h.writable done unread;
      ordered = insert_ordered old new t x c.requires.fits text c.insert_text.ensures h.writable done unread h.ordered;
      others = insert_others old new t x c.requires.fits text c.insert_text.ensures h.writable done unread;
    }

pub returns-in-Ok-clause-sure_kept : goal.returns-in-Ok-clause-sure_kept
returns-in-Ok-clause-sure_kept g c h = c.insert.ensures.sure_kept h.after h.inside

pub returns-in-Err-clause-sure_kept : goal.returns-in-Err-clause-sure_kept
returns-in-Err-clause-sure_kept g c h = c.insert.ensures.sure_kept h.after h.inside

pub returns-in-Err-clause-refused : goal.returns-in-Err-clause-refused
returns-in-Err-clause-refused g c =
    only_more _ _ c.fault_of_insert.result
    (λ cause by. (
      by.0,
      λ h. insert_taken (state g.S.Store c.args.tx.now.conn.now).now (state g.S.Store c.insert.new.tx.conn.now).now c.args.shape.now
          (tuple c.args.row.now) c.requires.fits c.insert_text.result.now c.insert_text.ensures (c.requires.writable h)
          (λ tree cells kinds is placed. c.in-Err.ensures.taken h tree cells kinds is placed by.1)
          (λ bad. c.in-Err.ensures.absent h bad by.1),
    ))
    c.fault_of_insert.ensures.refused

pub returns-in-Err-clause-sure_refused : goal.returns-in-Err-clause-sure_refused
returns-in-Err-clause-sure_refused g c =
    only_more _ _ c.fault_of_insert.result
    (λ cause by h. insert_taken (state g.S.Store c.args.tx.now.conn.now).now (state g.S.Store c.insert.new.tx.conn.now).now c.args.shape.now
    (tuple c.args.row.now) c.requires.fits c.insert_text.result.now c.insert_text.ensures h.writable
    (λ tree cells kinds is placed. c.in-Err.ensures.sure_taken h.after h.inside tree cells kinds is placed by.1)
    (λ bad. c.in-Err.ensures.sure_absent h.after h.inside bad by.1))
    c.fault_of_insert.ensures.refused

pub returns-in-Err-clause-reported : goal.returns-in-Err-clause-reported
returns-in-Err-clause-reported g c few =
    (c.in-Err.error, c.fault_of_insert.ensures.is, rw c.insert_text.ensures at c.in-Err.ensures.reported)

pub returns-in-Ok-clause-wide : goal.returns-in-Ok-clause-wide
returns-in-Ok-clause-wide g c wide =
    let same = as_wide c.args.shape.now c.args.row.now.cells.items c.requires.fits in
    absurd (omega (arith, same, wide, c.len.ensures, c.if-len-gt-COLUMN_LIMIT.false))

pub returns-in-Err-clause-wide : goal.returns-in-Err-clause-wide
returns-in-Err-clause-wide g c wide =
    let same = as_wide c.args.shape.now c.args.row.now.cells.items c.requires.fits in
    absurd (omega (arith, same, wide, c.len.ensures, c.if-len-gt-COLUMN_LIMIT.false))

pub returns-then-len-gt-COLUMN_LIMIT-clause-reported : goal.returns-then-len-gt-COLUMN_LIMIT-clause-reported
returns-then-len-gt-COLUMN_LIMIT-clause-reported g c few =
    let same = as_wide c.args.shape.now c.args.row.now.cells.items c.requires.fits in
    absurd (omega (arith, same, few, c.len.ensures, c.if-len-gt-COLUMN_LIMIT.true))
