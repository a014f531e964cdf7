use Rattle.std.proofs.lemmas.Result.{IfOk-weaker}
use Rattle.source_kinds.proofs.SqliteTakes.{new_takes}
use Rattle.fed_setup.proofs.sources.of_sqlite.Goals as goal

-- a database in memory
pub returns-then-eq-clause-takes : goal.returns-then-eq-clause-takes
returns-then-eq-clause-takes g c = IfOk-weaker c.of_memory.result _ _ (λ s new. new_takes c.sqlite_takes_its_tables.ensures new.1) c.of_memory.ensures.new

-- a database in a file
pub returns-else-eq-clause-takes : goal.returns-else-eq-clause-takes
returns-else-eq-clause-takes g c = IfOk-weaker c.of_file.result _ _ (λ s new. new_takes c.sqlite_takes_its_tables.ensures new.1) c.of_file.ensures.new
