use Rattle.std.proofs.Common.{ap}
use Rattle.sqlite_tables.specs.Layouts.{layout_at}
use Rattle.source_tests.proofs.Known.{writable_stays}
use Rattle.source_tests.proofs.orders.limited_database.Goals as goal

pub returns-clause-writable : goal.returns-clause-writable
returns-clause-writable c table = writable_stays _ _ (layout_at table) (ap (λ k. k.schema) c.set_step_limit.ensures) (c.in_ok-conn.ensures.writable table)
