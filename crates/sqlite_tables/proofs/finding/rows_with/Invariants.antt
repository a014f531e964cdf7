use Rattle.std.proofs.Common.{◌≡◌, ◌≤◌, ◌-◌, true, false, length}
use Rattle.sqlite.specs.Held.{state}
use Rattle.med_value.specs.Datum.{datum}
use Rattle.sqlite_tables.specs.Tables.{IsSure, ReadsOnly, entries_of}
use Rattle.sqlite_tables.specs.Lookups.{IsLookup}
use Rattle.sqlite_tables.proofs.finding.rows_with.Given as goal
use Rattle.sqlite_tables.proofs.Singles.{IsFound}

abbrev pub invariant-loop-at : goal.invariant-loop-at
invariant-loop-at g l = record {
  idle : l.conn.in_transaction ≡ false;
  same : g.S.SourceStore.honest ≡ true → (state g.S.Store l.conn).now ≡ (state g.S.Store l.initial.conn).now;
  few : length l.rows.items ≤ 64;
  found : g.S.SourceStore.honest ≡ true
      → IsFound l.shape (entries_of (state g.S.Store l.initial.conn).now l.shape) l.lookup.column (datum l.value) l.at l.rows.items;
  reads : ReadsOnly (state g.S.Store l.initial.conn) (state g.S.Store l.conn) l.shape;
  sure_found : IsSure (state g.S.Store l.initial.conn) (state g.S.Store l.conn) l.shape
      → IsLookup l.shape (entries_of (state g.S.Store l.initial.conn).now l.shape) l.lookup
      → IsFound l.shape (entries_of (state g.S.Store l.initial.conn).now l.shape) l.lookup.column (datum l.value) l.at l.rows.items;
}

abbrev pub decreases-loop-at : goal.decreases-loop-at
decreases-loop-at g l = 64 - length l.rows.items
