use Rattle.std.proofs.Common.{◌∙◌, refl, rules, FitsSigned, w64}
use Rattle.std.proofs.lemmas.Int.{to_z-of_z}
use Rattle.sqlite.specs.Held.{state}
use Rattle.sqlite_tables.specs.Tables.{entries_of}
use Rattle.sqlite_tables.proofs.Settled.{known_after, reads_none, reads_then, sure_first, sure_then, sure_same}
use Rattle.sqlite_tables.proofs.ColumnReads.{read_none, read_further}
use Rattle.sqlite_tables.proofs.reading.read_column.Goals as goal

pub loop-page-init : goal.loop-page-init
loop-page-init g c = record {
  idle = c.requires.idle;
  same = λ h. refl;
  read = λ h. read_none c.args.shape.now c.args.column (entries_of (state g.S.Store c.args.conn.now).now c.args.shape.now) _
      (search rules) (search rules);
  reads = reads_none (state g.S.Store c.args.conn.now) c.args.shape.now;
  sure_read = λ h. read_none c.args.shape.now c.args.column (entries_of (state g.S.Store c.args.conn.now).now c.args.shape.now) _
      (search rules) (search rules);
}

pub read_page-requires-clause-known : goal.read_page-requires-clause-known
read_page-requires-clause-known g c h =
    known_after (state g.S.Store c.args.conn.now).now (state g.S.Store c.loop-page.conn).now c.args.shape.now
    (c.loop-page.invariant.same h) (c.requires.known h)

pub loop-page-preserved : goal.loop-page-preserved
loop-page-preserved g c =
    let fits : FitsSigned w64 c.in-Some.low = search rules in
    let e = to_z-of_z w64 c.in-Some.low fits in
    record {
      idle = c.read_page.ensures.idle;
      same = λ h. c.read_page.ensures.same h ∙ c.loop-page.invariant.same h;
      read = λ h.
          let page = rw e at (c.in-Ok.ensures.adds h) in
          read_further c.args.shape.now c.args.column (state g.S.Store c.args.conn.now).now
          (state g.S.Store c.loop-page.conn).now page.0 c.loop-page.next c.in-Some.low c.in-Ok.further
          c.loop-page.read c.read_page.new.read (c.loop-page.invariant.same h) c.in-Some.is (c.loop-page.invariant.read h) page.1 page.2;
      reads = reads_then c.loop-page.invariant.reads c.read_page.ensures.reads;
      sure_read = λ h.
          let first = c.loop-page.invariant.reads in
          let next = c.read_page.ensures.reads in
          let page = rw e at (c.in-Ok.ensures.sure_adds (sure_then first next h)) in
          read_further c.args.shape.now c.args.column (state g.S.Store c.args.conn.now).now
          (state g.S.Store c.loop-page.conn).now page.0 c.loop-page.next c.in-Some.low c.in-Ok.further
          c.loop-page.read c.read_page.new.read (sure_same first next h) c.in-Some.is
          (c.loop-page.invariant.sure_read (sure_first next h)) page.1 page.2;
    }

pub returns-in-Err-clause-reads : goal.returns-in-Err-clause-reads
returns-in-Err-clause-reads g c = reads_then c.loop-page.invariant.reads c.read_page.ensures.reads
