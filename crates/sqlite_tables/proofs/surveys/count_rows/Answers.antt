use Rattle.std.proofs.Common.{sym, ◌∙◌}
use Rattle.sqlite.specs.Held.{state}
use Rattle.sqlite_tables.proofs.Reported.{memory_reported, source_reported}
use Rattle.sqlite_tables.proofs.surveys.count_rows.Goals as goal

pub returns-in-Err-NoMemory-clause-reported : goal.returns-in-Err-NoMemory-clause-reported
returns-in-Err-NoMemory-clause-reported g c =
    let e = c.in-Err-NoMemory in
    memory_reported g.S.Store g.S.SourceStore.honest c.args.shape.now (state g.S.Store c.args.conn.now)
    (state g.S.Store c.read_whole.new.conn)
    e.field-0 e.field-0-is e.ensures.reported

pub returns-in-Err-Source-clause-reported : goal.returns-in-Err-Source-clause-reported
returns-in-Err-Source-clause-reported g c =
    let e = c.in-Err-Source in
    source_reported g.S.Store g.S.SourceStore.honest c.args.shape.now (state g.S.Store c.args.conn.now)
    (state g.S.Store c.read_whole.new.conn)
    e.field-0 (λ is. let other = sym is ∙ e.field-0-is in cc) _ e.ensures.reported e.ensures.refused e.ensures.sure_refused

pub returns-in-Err-Refused-clause-reported : goal.returns-in-Err-Refused-clause-reported
returns-in-Err-Refused-clause-reported g c =
    let e = c.in-Err-Refused in
    source_reported g.S.Store g.S.SourceStore.honest c.args.shape.now (state g.S.Store c.args.conn.now)
    (state g.S.Store c.read_whole.new.conn)
    e.field-0 (λ is. let other = sym is ∙ e.field-0-is in cc) _ e.ensures.reported e.ensures.refused e.ensures.sure_refused
