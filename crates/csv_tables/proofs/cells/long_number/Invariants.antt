use Rattle.std.proofs.Common.{length}
use Rattle.csv_tables.proofs.Integers.{GoesOn}
use Rattle.csv_tables.proofs.cells.long_number.Given as goal

abbrev pub invariant-loop-first : goal.invariant-loop-first
invariant-loop-first l = GoesOn l.number l.text l.initial.text

abbrev pub decreases-loop-first : goal.decreases-loop-first
decreases-loop-first l = length l.text
