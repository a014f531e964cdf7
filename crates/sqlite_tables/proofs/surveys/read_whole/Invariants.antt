use Rattle.std.proofs.Common.{◌≡◌, ◌≤◌, true, false, Some}
use Rattle.sqlite.specs.Held.{state}
use Rattle.sqlite_tables.specs.Cells.{least}
use Rattle.sqlite_tables.specs.Tables.{IsSure, ReadsOnly, entries_of}
use Rattle.sqlite_tables.specs.Surveys.{IsSeen, rows_to_read}
use Rattle.sqlite_tables.proofs.surveys.read_whole.Given as goal

abbrev pub invariant-loop-next : goal.invariant-loop-next
invariant-loop-next g l = record {
  few : l.count ≤ 1000000;
  idle : l.conn.in_transaction ≡ false;
  same : g.S.SourceStore.honest ≡ true → (state g.S.Store l.conn).now ≡ (state g.S.Store l.initial.conn).now;
  seen : g.S.SourceStore.honest ≡ true
      → IsSeen l.shape (entries_of (state g.S.Store l.initial.conn).now l.shape) (Some least) l.next l.count;
  reads : ReadsOnly (state g.S.Store l.initial.conn) (state g.S.Store l.conn) l.shape;
  sure_seen : IsSure (state g.S.Store l.initial.conn) (state g.S.Store l.conn) l.shape
      → IsSeen l.shape (entries_of (state g.S.Store l.initial.conn).now l.shape) (Some least) l.next l.count;
}

abbrev pub decreases-loop-next : goal.decreases-loop-next
decreases-loop-next g l = rows_to_read l.next l.count
