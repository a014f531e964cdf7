use Rattle.sqlite_writes.proofs.Changed.{entries_ordered}
use Rattle.sqlite_writes.proofs.rewriting.entries_rise.Goals as goal

pub returns : goal.returns
returns g c h =
    entries_ordered g.S.Store c.args.conn.now c.args.shape.now
    (g.met.S.SourceStore.steady h c.args.conn.now.store) c.schema-schema.ensures.live (c.requires.writable h)
