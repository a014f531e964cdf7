use Rattle.std.proofs.Common.{◌∙◌, sym, ◌≡◌, ◌≢◌, ℕ, Option, None, IfOk, IfSome, length, subst}
use Rattle.sqlite.specs.Held.{state}
use Rattle.sqlite.specs.Effect.{Database}
use Rattle.sqlite_tables.specs.Prelude.{rows_of, tree_found}
use Rattle.sqlite_tables.proofs.Settled.{known_after, reads_then, sure_first, sure_then, sure_same}
use Rattle.sqlite_wrapper.proofs.Failures.{counts_or_fails, find_memory, find_source}
use Rattle.sqlite_wrapper.proofs.Sure.{on_ok}
use Rattle.sqlite_wrapper.proofs.writing.rows_there.Goals as goal

pub count_rows-requires-clause-known : goal.count_rows-requires-clause-known
count_rows-requires-clause-known g c h =
    known_after (state g.S.Store c.args.conn.now).now (state g.S.Store c.find_table.new.conn).now c.args.shape.now
    (c.find_table.ensures.same h) (c.requires.known h)

pub returns-in-Some-clause-sure_there : goal.returns-in-Some-clause-sure_there
returns-in-Some-clause-sure_there g c h = c.in-Ok.ensures.sure_found h.after h.known

pub returns-in-Some-clause-sure_count : goal.returns-in-Some-clause-sure_count
returns-in-Some-clause-sure_count g c h held =
    subst (λ (o : Option ℕ). IfSome o (λ n. n ≡ length (rows_of (state g.S.Store c.args.conn.now).now c.args.shape.now))) c.in-Some.is held

pub returns-in-None-clause-sure_there : goal.returns-in-None-clause-sure_there
returns-in-None-clause-sure_there g c h =
    let found = sure_first c.count_rows.ensures.reads h in
    on_ok c.count_rows.result (tree_found (state g.S.Store c.args.conn.now).now.schema c.args.shape.now ≢ None)
    (c.in-Ok.ensures.sure_found found.after found.known)

pub returns-in-None-clause-sure_count : goal.returns-in-None-clause-sure_count
returns-in-None-clause-sure_count g c h held =
    let first = c.find_table.ensures.reads in
    let next = c.count_rows.ensures.reads in
    subst (λ (d : Database). IfOk c.count_rows.result (λ n. n ≡ length (rows_of d c.args.shape.now))) (sure_same first next h)
    (c.count_rows.ensures.sure_count (sure_then first next h))

pub returns-in-None-clause-reads : goal.returns-in-None-clause-reads
returns-in-None-clause-reads g c = reads_then c.find_table.ensures.reads c.count_rows.ensures.reads

pub returns-in-None-clause-reported : goal.returns-in-None-clause-reported
returns-in-None-clause-reported g c =
    counts_or_fails g.S.Store g.S.SourceStore.honest c.args.shape.now c.args.conn.now c.count_rows.new.conn c.count_rows.result
    (state g.S.Store c.find_table.new.conn)
    c.find_table.ensures.reads c.count_rows.ensures.reads c.find_table.ensures.same c.count_rows.ensures.reported

pub returns-in-Err-NoMemory-clause-reported : goal.returns-in-Err-NoMemory-clause-reported
returns-in-Err-NoMemory-clause-reported g c =
    let e = c.in-Err-NoMemory in
    find_memory g.S.Store g.S.SourceStore.honest c.args.shape.now c.args.conn.now c.find_table.new.conn e.field-0 e.field-0-is
    e.ensures.reported

pub returns-in-Err-Source-clause-reported : goal.returns-in-Err-Source-clause-reported
returns-in-Err-Source-clause-reported g c =
    let e = c.in-Err-Source in
    find_source g.S.Store g.S.SourceStore.honest c.args.shape.now c.args.conn.now c.find_table.new.conn
    e.field-0 (λ is. let other = sym is ∙ e.field-0-is in cc) e.ensures.reported e.ensures.refused e.ensures.sure_refused

pub returns-in-Err-Refused-clause-reported : goal.returns-in-Err-Refused-clause-reported
returns-in-Err-Refused-clause-reported g c =
    let e = c.in-Err-Refused in
    find_source g.S.Store g.S.SourceStore.honest c.args.shape.now c.args.conn.now c.find_table.new.conn
    e.field-0 (λ is. let other = sym is ∙ e.field-0-is in cc) e.ensures.reported e.ensures.refused e.ensures.sure_refused
