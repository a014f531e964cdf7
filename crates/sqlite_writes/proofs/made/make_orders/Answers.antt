use Rattle.sqlite.specs.Held.{state}
use Rattle.sqlite.specs.Steps.{over_memory}
use Rattle.sqlite.proofs.Callers.{memory_is_clean}
use Rattle.sqlite_writes.proofs.Making.{made_orders}
use Rattle.sqlite_writes.proofs.made.make_orders.Goals as goal

pub returns-clause-made : goal.returns-clause-made
returns-clause-made c =
    (made_orders (state over_memory c.args.conn.now) (state over_memory c.execute.new.self) c.execute.result c.requires.none
    (c.execute.ensures.runs (memory_is_clean c.execute.new.self))).0

pub returns-clause-empty : goal.returns-clause-empty
returns-clause-empty c =
    (made_orders (state over_memory c.args.conn.now) (state over_memory c.execute.new.self) c.execute.result c.requires.none
    (c.execute.ensures.runs (memory_is_clean c.execute.new.self))).1

pub returns-clause-mode : goal.returns-clause-mode
returns-clause-mode c =
    (made_orders (state over_memory c.args.conn.now) (state over_memory c.execute.new.self) c.execute.result c.requires.none
    (c.execute.ensures.runs (memory_is_clean c.execute.new.self))).2
