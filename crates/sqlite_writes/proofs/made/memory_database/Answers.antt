use Rattle.std.proofs.Common.{◌∙◌}
use Rattle.sqlite.specs.Held.{state}
use Rattle.sqlite.specs.Steps.{over_memory}
use Rattle.sqlite_writes.proofs.Making.{known, writable, apart, entries}
use Rattle.sqlite_writes.proofs.made.memory_database.Goals as goal

pub returns-clause-known : goal.returns-clause-known
returns-clause-known c table = known c.make_people.new.conn.schema table c.in_ok-make_people.ensures.made

pub returns-clause-tables : goal.returns-clause-tables
returns-clause-tables c table =
    entries (state over_memory c.make_people.new.conn).now table c.in_ok-make_people.ensures.made
    (c.in_ok-make_people.ensures.kept ∙ c.in_ok-make_orders.ensures.empty) c.in_ok-make_people.ensures.empty

pub returns-clause-writable : goal.returns-clause-writable
returns-clause-writable c table = writable c.make_people.new.conn.schema table c.in_ok-make_people.ensures.made

pub returns-clause-apart : goal.returns-clause-apart
returns-clause-apart c = apart c.make_people.new.conn.schema c.in_ok-make_people.ensures.made
