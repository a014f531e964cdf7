use Rattle.sqlite_schema.specs.declared.schema.Keys.TheVariants.{Enforced}
use Rattle.sqlite_looks.specs.Free.{is_parent}
use Rattle.sqlite_looks.proofs.Meant.{no}
use Rattle.sqlite_looks.proofs.Works.{frees}
use Rattle.sqlite_looks.proofs.law.free_tables_lead_nowhere.Goals as goal

pub returns : goal.returns
returns c schema tree olds news free = frees schema Enforced 0 tree olds news (no (is_parent schema.tables tree schema.tables) free)
