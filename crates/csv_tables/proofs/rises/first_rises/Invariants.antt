use Rattle.csv_tables.specs.Rises.{RiseUpTo, first_column}
use Rattle.csv_tables.proofs.rises.first_rises.Given as goal

abbrev pub invariant-loop-at : goal.invariant-loop-at
invariant-loop-at l = RiseUpTo (first_column l.table) l.low l.at
