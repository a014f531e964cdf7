use Rattle.std.proofs.Common.{refl}
use Rattle.sqlite.specs.Held.{state}
use Rattle.sqlite_tables.specs.Tables.{entries_of}
use Rattle.sqlite_tables.proofs.ColumnReads.{is_lookup}
use Rattle.sqlite_tables.proofs.reading.read_lookup.Goals as goal

pub returns-clause-is : goal.returns-clause-is
returns-clause-is g c h =
    let l = c.args.shape.now in
    is_lookup l (entries_of (state g.S.Store c.args.conn.now).now l) c.in-Ok.read
    (record { column = c.args.column; keys = c.in-Ok.read.keys; index = c.in_ok-index.index })
    (c.in-Ok.ensures.read h) refl c.in_ok-index.ensures

pub returns-clause-sure_is : goal.returns-clause-sure_is
returns-clause-sure_is g c h =
    let l = c.args.shape.now in
    is_lookup l (entries_of (state g.S.Store c.args.conn.now).now l) c.in-Ok.read
    (record { column = c.args.column; keys = c.in-Ok.read.keys; index = c.in_ok-index.index })
    (c.in-Ok.ensures.sure_read h) refl c.in_ok-index.ensures
