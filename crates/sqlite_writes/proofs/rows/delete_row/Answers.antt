use Rattle.std.proofs.Common.{w64}
use Rattle.std.proofs.lemmas.Int.{to_z-of_z}
use Rattle.sqlite.specs.Held.{state}
use Rattle.sqlite_writes.proofs.Changed.{delete_schema, delete_rows, delete_others, delete_ordered}
use Rattle.sqlite_writes.proofs.rows.delete_row.Goals as goal

pub returns-in-Ok-clause-rows : goal.returns-in-Ok-clause-rows
returns-in-Ok-clause-rows g c h =
    let key = to_z-of_z w64 c.args.key c.ranges.key in
    delete_rows (state g.S.Store c.args.tx.now.conn.now).now
    (state g.S.Store c.delete.new.tx.conn.now).now c.args.shape.now c.args.key c.delete_text.result.now c.delete_text.ensures
    (c.requires.writable h) (c.requires.ordered h)
    (rw key at (c.in-Ok.ensures.done h)) (c.in-Ok.ensures.unread h)

pub returns-in-Ok-clause-ordered : goal.returns-in-Ok-clause-ordered
returns-in-Ok-clause-ordered g c h =
    let key = to_z-of_z w64 c.args.key c.ranges.key in
    delete_ordered (state g.S.Store c.args.tx.now.conn.now).now
    (state g.S.Store c.delete.new.tx.conn.now).now c.args.shape.now c.args.key c.delete_text.result.now c.delete_text.ensures
    (c.requires.writable h) (c.requires.ordered h)
    (rw key at (c.in-Ok.ensures.done h)) (c.in-Ok.ensures.unread h)

pub returns-in-Ok-clause-schema : goal.returns-in-Ok-clause-schema
returns-in-Ok-clause-schema g c h =
    let key = to_z-of_z w64 c.args.key c.ranges.key in
    delete_schema (state g.S.Store c.args.tx.now.conn.now).now
    (state g.S.Store c.delete.new.tx.conn.now).now c.args.shape.now c.args.key c.delete_text.result.now c.delete_text.ensures
    (c.requires.writable h) (c.requires.ordered h)
    (rw key at (c.in-Ok.ensures.done h)) (c.in-Ok.ensures.unread h)

pub returns-in-Ok-clause-others : goal.returns-in-Ok-clause-others
returns-in-Ok-clause-others g c h =
    let key = to_z-of_z w64 c.args.key c.ranges.key in
    delete_others (state g.S.Store c.args.tx.now.conn.now).now
    (state g.S.Store c.delete.new.tx.conn.now).now c.args.shape.now c.args.key c.delete_text.result.now c.delete_text.ensures
    (c.requires.writable h) (c.requires.ordered h)
    (rw key at (c.in-Ok.ensures.done h)) (c.in-Ok.ensures.unread h)

pub returns-in-Ok-clause-sure_rows : goal.returns-in-Ok-clause-sure_rows
returns-in-Ok-clause-sure_rows g c h =
    let key = to_z-of_z w64 c.args.key c.ranges.key in
    delete_rows (state g.S.Store c.args.tx.now.conn.now).now
    (state g.S.Store c.delete.new.tx.conn.now).now c.args.shape.now c.args.key c.delete_text.result.now c.delete_text.ensures
    h.writable h.ordered
    (rw key at (c.in-Ok.ensures.sure_done h.after h.inside)) (c.in-Ok.ensures.sure_unread h.after h.inside)

pub returns-in-Ok-clause-sure_steps : goal.returns-in-Ok-clause-sure_steps
returns-in-Ok-clause-sure_steps g c h =
    let key = to_z-of_z w64 c.args.key c.ranges.key in
    record {
      inside = c.in-Ok.ensures.sure_inside h.after h.inside;
      schema = delete_schema (state g.S.Store c.args.tx.now.conn.now).now
          (state g.S.Store c.delete.new.tx.conn.now).now c.args.shape.now c.args.key c.delete_text.result.now c.delete_text.ensures
          h.writable h.ordered
          (rw key at (c.in-Ok.ensures.sure_done h.after h.inside)) (c.in-Ok.ensures.sure_unread h.after h.inside);
      ordered = delete_ordered (state g.S.Store c.args.tx.now.conn.now).now
          (state g.S.Store c.delete.new.tx.conn.now).now c.args.shape.now c.args.key c.delete_text.result.now c.delete_text.ensures
          h.writable h.ordered
          (rw key at (c.in-Ok.ensures.sure_done h.after h.inside)) (c.in-Ok.ensures.sure_unread h.after h.inside);
      others = delete_others (state g.S.Store c.args.tx.now.conn.now).now
          (state g.S.Store c.delete.new.tx.conn.now).now c.args.shape.now c.args.key c.delete_text.result.now c.delete_text.ensures
          h.writable h.ordered
          (rw key at (c.in-Ok.ensures.sure_done h.after h.inside)) (c.in-Ok.ensures.sure_unread h.after h.inside);
    }

pub returns-in-Ok-clause-sure_kept : goal.returns-in-Ok-clause-sure_kept
returns-in-Ok-clause-sure_kept g c h = c.delete.ensures.sure_kept h.after h.inside

pub returns-in-Err-clause-sure_kept : goal.returns-in-Err-clause-sure_kept
returns-in-Err-clause-sure_kept g c h = c.delete.ensures.sure_kept h.after h.inside

pub returns-in-Err-clause-reported : goal.returns-in-Err-clause-reported
returns-in-Err-clause-reported g c =
    let key = to_z-of_z w64 c.args.key c.ranges.key in
    (c.in-Err.error, c.failure_of.ensures.is, rw (key, c.delete_text.ensures) at c.in-Err.ensures.reported)
