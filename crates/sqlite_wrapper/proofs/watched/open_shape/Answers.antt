use Rattle.sqlite.specs.Held.{state}
use Rattle.sqlite_tables.proofs.Settled.{reads_none}
use Rattle.sqlite_wrapper.proofs.watched.open_shape.Goals as goal

pub returns-in_err-look-clause-reads : goal.returns-in_err-look-clause-reads
returns-in_err-look-clause-reads g c = reads_none (state g.S.Store c.args.conn.now) c.args.shape.now
