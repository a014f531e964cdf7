use Rattle.std.proofs.Common.{ℕ, List, [], ◌∷◌, subst, w64}
use Rattle.std.proofs.lemmas.Int.{to_z-of_z}
use Rattle.sqlite.specs.Held.{state}
use Rattle.sqlite.specs.State.{FailsToQuery}
use Rattle.sqlite.specs.declared.types.Value.TheVariants.{Int}
use Rattle.sqlite_tables.specs.Tables.{entries_of}
use Rattle.sqlite_tables.proofs.PagesJoin.{pages_join}
use Rattle.sqlite_tables.proofs.Settled.{settled, page_rows, page_joins, page_ordered, was_read, sure_rows, page_reads}
use Rattle.sqlite_tables.proofs.pages.page_between.Goals as goal

pub returns-in-Ok-clause-rows : goal.returns-in-Ok-clause-rows
returns-in-Ok-clause-rows g c h =
    let a = to_z-of_z w64 c.args.low c.ranges.low in
    let b = to_z-of_z w64 c.args.high c.ranges.high in
    page_rows (state g.S.Store c.args.conn.now).now c.args.shape.now c.page_text.result.now c.page_text.ensures c.args.low c.args.high
    c.in-Ok.page.items (c.requires.known h)
    (λ tree shown is. rw (a, b) at (c.in-Ok.ensures.rows h tree shown is)) (λ fault bad. (c.in-Ok.ensures.unread h fault bad).1)

pub returns-in-Ok-clause-joins : goal.returns-in-Ok-clause-joins
returns-in-Ok-clause-joins g c h =
    let a = to_z-of_z w64 c.args.low c.ranges.low in
    let b = to_z-of_z w64 c.args.high c.ranges.high in
    page_joins (state g.S.Store c.args.conn.now).now c.args.shape.now c.page_text.result.now c.page_text.ensures c.args.low c.args.high
    c.in-Ok.page.items (c.requires.known h)
    (c.page_of.ensures.ordered h) (λ tree shown is. rw (a, b) at (c.in-Ok.ensures.rows h tree shown is))
    (λ fault bad. (c.in-Ok.ensures.unread h fault bad).1)

pub returns-in-Ok-clause-read : goal.returns-in-Ok-clause-read
returns-in-Ok-clause-read g c h =
    was_read (state g.S.Store c.args.conn.now).now c.args.shape.now c.page_text.result.now c.page_text.ensures (c.requires.known h)
    (λ fault bad. (c.in-Ok.ensures.unread h fault bad).1)

pub returns-in-Ok-clause-same : goal.returns-in-Ok-clause-same
returns-in-Ok-clause-same g c h =
    settled (state g.S.Store c.args.conn.now).now
    (state g.S.Store c.page_of.new.conn).now c.args.shape.now c.page_text.result.now c.page_text.ensures (c.requires.known h)
    (c.page_of.ensures.same h) (c.page_of.ensures.unread h)

pub returns-in-Err-clause-same : goal.returns-in-Err-clause-same
returns-in-Err-clause-same g c h =
    settled (state g.S.Store c.args.conn.now).now
    (state g.S.Store c.page_of.new.conn).now c.args.shape.now c.page_text.result.now c.page_text.ensures (c.requires.known h)
    (c.page_of.ensures.same h) (c.page_of.ensures.unread h)

pub returns-in-Ok-clause-sure_rows : goal.returns-in-Ok-clause-sure_rows
returns-in-Ok-clause-sure_rows g c h =
    let a = to_z-of_z w64 c.args.low c.ranges.low in
    let b = to_z-of_z w64 c.args.high c.ranges.high in
    sure_rows (state g.S.Store c.args.conn.now).now c.args.shape.now c.page_text.result.now c.page_text.ensures c.args.low c.args.high
    c.in-Ok.page.items h.known h.ordered
    (λ tree shown is shaped. rw (a, b) at (c.in-Ok.ensures.clean_rows h.after tree shown is shaped))
    (λ fault bad. (c.in-Ok.ensures.clean_unread h.after fault bad).1)

pub returns-in-Ok-clause-sure_joins : goal.returns-in-Ok-clause-sure_joins
returns-in-Ok-clause-sure_joins g c h =
    let a = to_z-of_z w64 c.args.low c.ranges.low in
    let b = to_z-of_z w64 c.args.high c.ranges.high in
    pages_join c.args.shape.now c.args.low c.args.high
    (entries_of (state g.S.Store c.args.conn.now).now c.args.shape.now) c.in-Ok.page.items h.ordered
    (sure_rows (state g.S.Store c.args.conn.now).now c.args.shape.now c.page_text.result.now c.page_text.ensures c.args.low c.args.high
    c.in-Ok.page.items h.known h.ordered
    (λ tree shown is shaped. rw (a, b) at (c.in-Ok.ensures.clean_rows h.after tree shown is shaped))
    (λ fault bad. (c.in-Ok.ensures.clean_unread h.after fault bad).1))

pub returns-in-Ok-clause-sure_read : goal.returns-in-Ok-clause-sure_read
returns-in-Ok-clause-sure_read g c after known =
    was_read (state g.S.Store c.args.conn.now).now c.args.shape.now c.page_text.result.now c.page_text.ensures known
    (λ fault bad. (c.in-Ok.ensures.clean_unread after fault bad).1)

pub returns-in-Ok-clause-reads : goal.returns-in-Ok-clause-reads
returns-in-Ok-clause-reads g c =
    page_reads (state g.S.Store c.args.conn.now)
    (state g.S.Store c.page_of.new.conn) c.args.shape.now c.page_text.result.now c.page_text.ensures c.page_of.ensures.was_clean
    c.page_of.ensures.clean_same c.page_of.ensures.clean_unread

pub returns-in-Err-clause-reads : goal.returns-in-Err-clause-reads
returns-in-Err-clause-reads g c =
    page_reads (state g.S.Store c.args.conn.now)
    (state g.S.Store c.page_of.new.conn) c.args.shape.now c.page_text.result.now c.page_text.ensures c.page_of.ensures.was_clean
    c.page_of.ensures.clean_same c.page_of.ensures.clean_unread

pub returns-in-Ok-clause-ordered : goal.returns-in-Ok-clause-ordered
returns-in-Ok-clause-ordered g c h =
    page_ordered (state g.S.Store c.args.conn.now).now c.args.shape.now c.page_text.result.now c.page_text.ensures (c.requires.known h)
    (c.page_of.ensures.ordered h)

pub returns-in-Err-clause-ordered : goal.returns-in-Err-clause-ordered
returns-in-Err-clause-ordered g c h =
    page_ordered (state g.S.Store c.args.conn.now).now c.args.shape.now c.page_text.result.now c.page_text.ensures (c.requires.known h)
    (c.page_of.ensures.ordered h)

pub returns-in-Err-clause-reported : goal.returns-in-Err-clause-reported
returns-in-Err-clause-reported g c =
    let a = to_z-of_z w64 c.args.low c.ranges.low in
    let b = to_z-of_z w64 c.args.high c.ranges.high in
    let told = rw (a, b) at c.in-Err.ensures.reported in (
      c.in-Err.error,
      c.fault_of.ensures.is,
      λ clean. subst (λ (text : List ℕ). FailsToQuery text (Int c.args.low ∷ Int c.args.high ∷ []) (state g.S.Store c.args.conn.now)
          (state g.S.Store c.page_of.new.conn) c.in-Err.error) c.page_text.ensures (told clean),
    )
