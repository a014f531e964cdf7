use Rattle.std.proofs.Common.{◌≡◌, List, false, inl, rules, length, subst, w64}
use Rattle.std.proofs.lemmas.Int.{to_z-of_z}
use Rattle.std.specs.List.{list_all}
use Rattle.sqlite.specs.Held.{state}
use Rattle.sqlite.specs.Order.{Row as SqlRow}
use Rattle.sqlite_tables.specs.Cells.{greatest, is_paged, is_row}
use Rattle.sqlite_tables.specs.Reporting.{IsReportedPage}
use Rattle.sqlite_tables.specs.Tables.{entries_of}
use Rattle.sqlite_tables.proofs.Refused.{by_none, only_more}
use Rattle.sqlite_tables.proofs.Reported.{content_reported, not_paged}
use Rattle.sqlite_tables.proofs.Surveying.{page_seen, page_not, full_if}
use Rattle.sqlite_tables.proofs.surveys.survey_page.Goals as goal

pub returns-in-Err-clause-refused : goal.returns-in-Err-clause-refused
returns-in-Err-clause-refused g c = by_none _ c.in-Err.fault c.in-Err.ensures.refused

pub returns-in-Err-check_rows-clause-refused : goal.returns-in-Err-check_rows-clause-refused
returns-in-Err-check_rows-clause-refused g c =
    let l = c.args.shape.now in
    let a = to_z-of_z w64 c.args.low c.ranges.low in
    only_more _ _ c.fault_of_content.result
    (λ cause by. (
      by.0,
      λ h.
          let joins = rw a at (c.in-Ok.ensures.joins h) in
          page_not l c.args.low (entries_of (state g.S.Store c.args.conn.now).now l) c.in-Ok.page.items c.deref.result.now joins
          c.deref.ensures.value (c.in-Err-check_rows.ensures.stray by.1),
    ))
    c.fault_of_content.ensures.refused

pub returns-clause-seen : goal.returns-clause-seen
returns-clause-seen g c h =
    let l = c.args.shape.now in
    let a = to_z-of_z w64 c.args.low c.ranges.low in
    let joins = rw a at (c.in-Ok.ensures.joins h) in
    let count : c.len-count.result ≡ length c.in-Ok.page.items = search rules in
    page_seen l c.args.low (entries_of (state g.S.Store c.args.conn.now).now l) c.in-Ok.page.items c.deref.result.now
    c.in-Ok-check_rows.last c.next_after.result c.len-count.result joins
    c.deref.ensures.value c.in-Ok-check_rows.ensures.last c.in-Ok-check_rows.ensures.fit count c.next_after.ensures

pub returns-clause-full : goal.returns-clause-full
returns-clause-full g c = full_if c.len-count.result c.in-Ok-check_rows.last c.next_after.result c.next_after.ensures

pub returns-in-Err-clause-sure_refused : goal.returns-in-Err-clause-sure_refused
returns-in-Err-clause-sure_refused g c = by_none _ c.in-Err.fault c.in-Err.ensures.refused

pub returns-in-Err-check_rows-clause-sure_refused : goal.returns-in-Err-check_rows-clause-sure_refused
returns-in-Err-check_rows-clause-sure_refused g c =
    let l = c.args.shape.now in
    let a = to_z-of_z w64 c.args.low c.ranges.low in
    only_more _ _ c.fault_of_content.result
    (λ cause by h.
    let joins = rw a at (c.in-Ok.ensures.sure_joins h) in
    page_not l c.args.low (entries_of (state g.S.Store c.args.conn.now).now l) c.in-Ok.page.items c.deref.result.now joins
    c.deref.ensures.value (c.in-Err-check_rows.ensures.stray by.1))
    c.fault_of_content.ensures.refused

pub returns-clause-sure_seen : goal.returns-clause-sure_seen
returns-clause-sure_seen g c h =
    let l = c.args.shape.now in
    let a = to_z-of_z w64 c.args.low c.ranges.low in
    let joins = rw a at (c.in-Ok.ensures.sure_joins h) in
    let count : c.len-count.result ≡ length c.in-Ok.page.items = search rules in
    page_seen l c.args.low (entries_of (state g.S.Store c.args.conn.now).now l) c.in-Ok.page.items c.deref.result.now
    c.in-Ok-check_rows.last c.next_after.result c.len-count.result joins
    c.deref.ensures.value c.in-Ok-check_rows.ensures.last c.in-Ok-check_rows.ensures.fit count c.next_after.ensures

pub returns-in-Err-clause-reported : goal.returns-in-Err-clause-reported
returns-in-Err-clause-reported g c =
    let a = to_z-of_z w64 c.args.low c.ranges.low in
    inl (rw a at c.in-Err.ensures.reported)

pub returns-in-Err-check_rows-clause-reported : goal.returns-in-Err-check_rows-clause-reported
returns-in-Err-check_rows-clause-reported g c =
    let l = c.args.shape.now in
    let entries = entries_of (state g.S.Store c.args.conn.now).now l in
    let a = to_z-of_z w64 c.args.low c.ranges.low in
    content_reported (IsReportedPage l c.args.low greatest (state g.S.Store c.args.conn.now) (state g.S.Store c.page_between.new.conn))
    g.S.SourceStore.honest l (state g.S.Store c.args.conn.now) (state g.S.Store c.page_between.new.conn) (is_paged l ≡ false)
    c.in-Err-check_rows.misread c.fault_of_content.result c.in-Err-check_rows.ensures.memory c.fault_of_content.ensures.memory
    c.fault_of_content.ensures.source c.fault_of_content.ensures.refused
    (λ none.
    let strange = subst (λ (rows : List SqlRow). list_all (is_row l) rows ≡ false) c.deref.ensures.value
    (c.in-Err-check_rows.ensures.no_row none) in (
      λ h. not_paged l c.args.low greatest entries c.in-Ok.page.items (c.page_between.ensures.ordered h)
          (rw a at (c.in-Ok.ensures.rows h)) strange,
      λ h. not_paged l c.args.low greatest entries c.in-Ok.page.items h.ordered (rw a at (c.in-Ok.ensures.sure_rows h)) strange,
    ))
