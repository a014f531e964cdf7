use Rattle.sqlite_schema.specs.declared.schema.Keys.TheVariants.{Enforced}
use Rattle.std.specs.Prelude.{string_bytes, length}
use Rattle.sqlite_looks.specs.Free.{is_parent}
use Rattle.sqlite_looks.specs.Shapes.{cells_of}
use Rattle.sqlite_looks.proofs.Allowed.{not_counted, not_stamped, free, deletes, inserts}
use Rattle.sqlite_looks.proofs.Meant.{no, delete_is, insert_is}
use Rattle.sqlite_looks.proofs.Works.{frees}
use Rattle.sqlite_looks.proofs.law.written_tables.Goals as goal

pub returns-clause-counted : goal.returns-clause-counted
returns-clause-counted c schema at table texts holds = not_counted schema at table texts holds

pub returns-clause-stamped : goal.returns-clause-stamped
returns-clause-stamped c schema at table texts holds = not_stamped schema at table texts holds

pub returns-clause-free : goal.returns-clause-free
returns-clause-free c schema at table texts olds news holds =
    frees schema Enforced 0 table.tree olds news (no (is_parent schema.tables table.tree schema.tables) (free schema at table texts holds))

pub returns-clause-delete : goal.returns-clause-delete
returns-clause-delete c schema at table texts holds =
    delete_is schema (string_bytes texts.delete) at table.tree (deletes schema at table texts holds)

pub returns-clause-insert : goal.returns-clause-insert
returns-clause-insert c schema at table texts holds =
    insert_is schema (string_bytes texts.insert) at (cells_of table) (length (cells_of table)) (inserts schema at table texts holds)
