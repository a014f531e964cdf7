use Rattle.std.proofs.Common.{◌≡◌, ◌∙◌, inl, inr, sym, subst, refl, rules, arith, true, false, Some, FitsSigned, w64}
use Rattle.std.proofs.lemmas.Int.{to_z-of_z}
use Rattle.sqlite.specs.Held.{state}
use Rattle.med_value.specs.Causes.{phase_of}
use Rattle.med_value.specs.declared.cause.Cause.{Cause}
use Rattle.fdw_api.specs.Kinds.{is_of_run}
use Rattle.sqlite_tables.specs.Cells.{greatest, is_paged, least}
use Rattle.sqlite_tables.specs.Tables.{entries_of}
use Rattle.sqlite_tables.proofs.Settled.{known_after, reads_none, reads_then, sure_first, sure_then, sure_same}
use Rattle.sqlite_tables.proofs.Refused.{only_more, both_only}
use Rattle.sqlite_tables.proofs.Reported.{page_reported}
use Rattle.sqlite_tables.proofs.Surveying.{seen_none, seen_further, stray_further, seen_whole, seen_count, many_stand}
use Rattle.sqlite_tables.proofs.surveys.read_whole.Goals as goal

pub loop-next-init : goal.loop-next-init
loop-next-init g c = record {
  few = omega arith;
  idle = c.requires.idle;
  same = λ h. refl;
  seen = λ h. seen_none c.args.shape.now (entries_of (state g.S.Store c.args.conn.now).now c.args.shape.now) (Some least);
  reads = reads_none (state g.S.Store c.args.conn.now) c.args.shape.now;
  sure_seen = λ h. seen_none c.args.shape.now (entries_of (state g.S.Store c.args.conn.now).now c.args.shape.now) (Some least);
}

pub survey_page-requires-clause-known : goal.survey_page-requires-clause-known
survey_page-requires-clause-known g c h =
    known_after (state g.S.Store c.args.conn.now).now (state g.S.Store c.loop-next.conn).now c.args.shape.now
    (c.loop-next.invariant.same h) (c.requires.known h)

pub returns-in-Err-clause-refused : goal.returns-in-Err-clause-refused
returns-in-Err-clause-refused g c =
    let fits : FitsSigned w64 c.in-Some.low = search rules in
    let e = to_z-of_z w64 c.in-Some.low fits in
    only_more _ _ c.in-Err.fault
    (λ cause by. (
      subst (λ (d : Cause). is_of_run (phase_of d) ≡ true) (sym by.0) refl,
      λ h.
          stray_further c.args.shape.now (state g.S.Store c.args.conn.now).now
          (state g.S.Store c.loop-next.conn).now c.loop-next.next c.in-Some.low c.loop-next.count cause
          (c.loop-next.invariant.same h) c.in-Some.is (c.loop-next.invariant.seen h) (rw e at (by.1 h)) by.0,
    ))
    c.in-Err.ensures.refused

pub returns-then-count-gt-ROW_LIMIT-clause-refused : goal.returns-then-count-gt-ROW_LIMIT-clause-refused
returns-then-count-gt-ROW_LIMIT-clause-refused g c =
    let fits : FitsSigned w64 c.in-Some.low = search rules in
    let e = to_z-of_z w64 c.in-Some.low fits in (
      refl,
      λ h.
          let l = c.args.shape.now in
          let db = (state g.S.Store c.args.conn.now).now in
          let page = rw e at (c.in-Ok.ensures.seen h) in
          many_stand l (entries_of db l) c.in-Ok.page.next _
          (seen_further l db (state g.S.Store c.loop-next.conn).now c.loop-next.next c.in-Ok.page.next c.in-Some.low c.loop-next.count
          c.in-Ok.page.count (c.loop-next.invariant.same h)
          c.in-Some.is (c.loop-next.invariant.seen h) page) c.if-count-gt-ROW_LIMIT.true,
    )

pub loop-next-preserved : goal.loop-next-preserved
loop-next-preserved g c =
    let fits : FitsSigned w64 c.in-Some.low = search rules in
    let e = to_z-of_z w64 c.in-Some.low fits in
    record {
      few = omega arith;
      idle = c.survey_page.ensures.idle;
      same = λ h. c.survey_page.ensures.same h ∙ c.loop-next.invariant.same h;
      seen = λ h.
          let l = c.args.shape.now in
          let db = (state g.S.Store c.args.conn.now).now in
          let page = rw e at (c.in-Ok.ensures.seen h) in
          seen_further l db (state g.S.Store c.loop-next.conn).now c.loop-next.next c.in-Ok.page.next c.in-Some.low c.loop-next.count
          c.in-Ok.page.count (c.loop-next.invariant.same h)
          c.in-Some.is (c.loop-next.invariant.seen h) page;
      reads = reads_then c.loop-next.invariant.reads c.survey_page.ensures.reads;
      sure_seen = λ h.
          let l = c.args.shape.now in
          let db = (state g.S.Store c.args.conn.now).now in
          let first = c.loop-next.invariant.reads in
          let next = c.survey_page.ensures.reads in
          let page = rw e at (c.in-Ok.ensures.sure_seen (sure_then first next h)) in
          seen_further l db (state g.S.Store c.loop-next.conn).now c.loop-next.next c.in-Ok.page.next c.in-Some.low c.loop-next.count
          c.in-Ok.page.count (sure_same first next h)
          c.in-Some.is (c.loop-next.invariant.sure_seen (sure_first next h)) page;
    }

pub returns-clause-ok : goal.returns-clause-ok
returns-clause-ok g c h =
    let l = c.args.shape.now in
    seen_whole l (entries_of (state g.S.Store c.args.conn.now).now l) c.loop-next.next c.loop-next.count c.in_default.is
    (c.loop-next.invariant.seen h) c.loop-next.invariant.few

pub returns-clause-count : goal.returns-clause-count
returns-clause-count g c h =
    let l = c.args.shape.now in
    seen_count l (entries_of (state g.S.Store c.args.conn.now).now l) c.loop-next.next c.loop-next.count c.in_default.is
    (c.loop-next.invariant.seen h)

pub returns-in-Err-clause-sure_refused : goal.returns-in-Err-clause-sure_refused
returns-in-Err-clause-sure_refused g c =
    let fits : FitsSigned w64 c.in-Some.low = search rules in
    let e = to_z-of_z w64 c.in-Some.low fits in
    let first = c.loop-next.invariant.reads in
    let next = c.survey_page.ensures.reads in
    both_only _ _ _ c.in-Err.fault
    (λ cause by stray h.
    stray_further c.args.shape.now (state g.S.Store c.args.conn.now).now
    (state g.S.Store c.loop-next.conn).now c.loop-next.next c.in-Some.low c.loop-next.count cause
    (sure_same first next h) c.in-Some.is (c.loop-next.invariant.sure_seen (sure_first next h))
    (rw e at (stray (sure_then first next h))) by.0)
    c.in-Err.ensures.refused c.in-Err.ensures.sure_refused

pub returns-in-Err-clause-reads : goal.returns-in-Err-clause-reads
returns-in-Err-clause-reads g c = reads_then c.loop-next.invariant.reads c.survey_page.ensures.reads

pub returns-then-count-gt-ROW_LIMIT-clause-sure_refused : goal.returns-then-count-gt-ROW_LIMIT-clause-sure_refused
returns-then-count-gt-ROW_LIMIT-clause-sure_refused g c h =
    let fits : FitsSigned w64 c.in-Some.low = search rules in
    let e = to_z-of_z w64 c.in-Some.low fits in
    let l = c.args.shape.now in
    let db = (state g.S.Store c.args.conn.now).now in
    let first = c.loop-next.invariant.reads in
    let next = c.survey_page.ensures.reads in
    let page = rw e at (c.in-Ok.ensures.sure_seen (sure_then first next h)) in
    many_stand l (entries_of db l) c.in-Ok.page.next _
    (seen_further l db (state g.S.Store c.loop-next.conn).now c.loop-next.next c.in-Ok.page.next c.in-Some.low c.loop-next.count
    c.in-Ok.page.count (sure_same first next h)
    c.in-Some.is (c.loop-next.invariant.sure_seen (sure_first next h)) page) c.if-count-gt-ROW_LIMIT.true

pub returns-then-count-gt-ROW_LIMIT-clause-reads : goal.returns-then-count-gt-ROW_LIMIT-clause-reads
returns-then-count-gt-ROW_LIMIT-clause-reads g c = reads_then c.loop-next.invariant.reads c.survey_page.ensures.reads

pub returns-clause-sure_ok : goal.returns-clause-sure_ok
returns-clause-sure_ok g c h =
    let l = c.args.shape.now in
    seen_whole l (entries_of (state g.S.Store c.args.conn.now).now l) c.loop-next.next c.loop-next.count c.in_default.is
    (c.loop-next.invariant.sure_seen h) c.loop-next.invariant.few

pub returns-clause-sure_count : goal.returns-clause-sure_count
returns-clause-sure_count g c h =
    let l = c.args.shape.now in
    seen_count l (entries_of (state g.S.Store c.args.conn.now).now l) c.loop-next.next c.loop-next.count c.in_default.is
    (c.loop-next.invariant.sure_seen h)

pub returns-in-Err-clause-reported : goal.returns-in-Err-clause-reported
returns-in-Err-clause-reported g c =
    let fits : FitsSigned w64 c.in-Some.low = search rules in
    let e = to_z-of_z w64 c.in-Some.low fits in
    let l = c.args.shape.now in
    page_reported g.S.Store g.S.SourceStore.honest l (state g.S.Store c.args.conn.now) c.loop-next.conn
    (state g.S.Store c.survey_page.new.conn)
    c.in-Some.low greatest (is_paged l ≡ false) c.in-Err.fault c.loop-next.invariant.reads
    (rw e at c.in-Err.ensures.reported) c.survey_page.ensures.reads

pub returns-then-count-gt-ROW_LIMIT-clause-reported : goal.returns-then-count-gt-ROW_LIMIT-clause-reported
returns-then-count-gt-ROW_LIMIT-clause-reported g c = inr (inr (inl refl))
