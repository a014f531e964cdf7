use Rattle.std.proofs.Common.{◌≡◌, rules, length, w64, subst, List}
use Rattle.std.proofs.lemmas.Int.{to_z-of_z}
use Rattle.sqlite.specs.Held.{state}
use Rattle.sqlite.specs.Order.{Row as SqlRow}
use Rattle.sqlite_tables.specs.Tables.{entries_of}
use Rattle.sqlite_tables.specs.Lookups.{Adds}
use Rattle.sqlite_tables.proofs.ColumnReads.{page_parts}
use Rattle.sqlite_tables.proofs.reading.read_page.Goals as goal

pub returns-clause-adds : goal.returns-clause-adds
returns-clause-adds g c h =
    let l = c.args.shape.now in
    let a = to_z-of_z w64 c.args.low c.ranges.low in
    let joins = rw a at (c.in-Ok.ensures.joins h) in
    let count : c.len.result ≡ length c.in-Ok.page.items = search rules in (
      c.in-Ok.page.items,
      page_parts l c.args.low (entries_of (state g.S.Store c.args.conn.now).now l) c.in-Ok.page.items c.deref.result.now
          c.in-Ok-add_page.last c.next_after.result c.len.result joins
          c.deref.ensures.value c.in-Ok-add_page.ensures.last count c.next_after.ensures,
      subst (λ (rows : List SqlRow). Adds l c.args.column rows c.args.read.now c.add_page.new.read) c.deref.ensures.value
          c.in-Ok-add_page.ensures.adds,
    )

pub returns-clause-sure_adds : goal.returns-clause-sure_adds
returns-clause-sure_adds g c h =
    let l = c.args.shape.now in
    let a = to_z-of_z w64 c.args.low c.ranges.low in
    let joins = rw a at (c.in-Ok.ensures.sure_joins h) in
    let count : c.len.result ≡ length c.in-Ok.page.items = search rules in (
      c.in-Ok.page.items,
      page_parts l c.args.low (entries_of (state g.S.Store c.args.conn.now).now l) c.in-Ok.page.items c.deref.result.now
          c.in-Ok-add_page.last c.next_after.result c.len.result joins
          c.deref.ensures.value c.in-Ok-add_page.ensures.last count c.next_after.ensures,
      subst (λ (rows : List SqlRow). Adds l c.args.column rows c.args.read.now c.add_page.new.read) c.deref.ensures.value
          c.in-Ok-add_page.ensures.adds,
    )
