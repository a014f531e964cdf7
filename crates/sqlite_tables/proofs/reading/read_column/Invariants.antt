use Rattle.std.proofs.Common.{◌≡◌, true, false}
use Rattle.sqlite.specs.Held.{state}
use Rattle.sqlite_tables.specs.Tables.{IsSure, ReadsOnly, entries_of}
use Rattle.sqlite_tables.specs.Lookups.{IsRead}
use Rattle.sqlite_tables.proofs.reading.read_column.Given as goal

abbrev pub invariant-loop-page : goal.invariant-loop-page
invariant-loop-page g l = record {
  idle : l.conn.in_transaction ≡ false;
  same : g.S.SourceStore.honest ≡ true → (state g.S.Store l.conn).now ≡ (state g.S.Store l.initial.conn).now;
  read : g.S.SourceStore.honest ≡ true → IsRead l.shape l.column (entries_of (state g.S.Store l.initial.conn).now l.shape) l.next l.read;
  reads : ReadsOnly (state g.S.Store l.initial.conn) (state g.S.Store l.conn) l.shape;
  sure_read : IsSure (state g.S.Store l.initial.conn) (state g.S.Store l.conn) l.shape
      → IsRead l.shape l.column (entries_of (state g.S.Store l.initial.conn).now l.shape) l.next l.read;
}
