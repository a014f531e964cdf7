use Rattle.std.proofs.Common.{length}
use Rattle.csv_tables.proofs.Integers.{GoesOn, HasRoom}
use Rattle.csv_tables.proofs.cells.short_number.Given as goal

abbrev pub invariant-loop-first : goal.invariant-loop-first
invariant-loop-first l = GoesOn l.value l.text l.initial.text × HasRoom l.value (length l.text)

abbrev pub decreases-loop-first : goal.decreases-loop-first
decreases-loop-first l = length l.text
