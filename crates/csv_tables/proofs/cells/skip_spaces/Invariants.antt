use Rattle.std.proofs.Common.{◌≡◌, length}
use Rattle.csv_tables.specs.Cells.{skip_spaces}
use Rattle.csv_tables.proofs.cells.skip_spaces.Given as goal

abbrev pub invariant-loop-first : goal.invariant-loop-first
invariant-loop-first l = skip_spaces l.text ≡ skip_spaces l.initial.text

abbrev pub decreases-loop-first : goal.decreases-loop-first
decreases-loop-first l = length l.text
