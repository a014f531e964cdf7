use Rattle.std.proofs.Common.{◌≡◌, ◌++◌, map}
use Rattle.list_wrapper.specs.Lists.{listed}
use Rattle.list_wrapper.specs.Scans.{table_listed}
use Rattle.list_wrapper.proofs.held_tables.tables_of.Given as goal

abbrev pub invariant-loop-table : goal.invariant-loop-table
invariant-loop-table l = map table_listed l.held.items ++ map listed l.table-iterator.rest.items ≡ map listed l.initial.table-iterator.rest.items
