use Rattle.sqlite.specs.Held.{state}
use Rattle.sqlite.specs.Steps.{over_memory}
use Rattle.sqlite.proofs.Callers.{memory_is_clean}
use Rattle.sqlite_writes.proofs.Making.{made_people}
use Rattle.sqlite_writes.proofs.made.make_people.Goals as goal

pub returns-clause-made : goal.returns-clause-made
returns-clause-made c =
    (made_people (state over_memory c.args.conn.now) (state over_memory c.execute.new.self) c.execute.result c.requires.alone
    (c.execute.ensures.runs (memory_is_clean c.execute.new.self))).0

pub returns-clause-empty : goal.returns-clause-empty
returns-clause-empty c =
    (made_people (state over_memory c.args.conn.now) (state over_memory c.execute.new.self) c.execute.result c.requires.alone
    (c.execute.ensures.runs (memory_is_clean c.execute.new.self))).1

pub returns-clause-kept : goal.returns-clause-kept
returns-clause-kept c =
    (made_people (state over_memory c.args.conn.now) (state over_memory c.execute.new.self) c.execute.result c.requires.alone
    (c.execute.ensures.runs (memory_is_clean c.execute.new.self))).2

pub returns-clause-mode : goal.returns-clause-mode
returns-clause-mode c =
    (made_people (state over_memory c.args.conn.now) (state over_memory c.execute.new.self) c.execute.result c.requires.alone
    (c.execute.ensures.runs (memory_is_clean c.execute.new.self))).3
