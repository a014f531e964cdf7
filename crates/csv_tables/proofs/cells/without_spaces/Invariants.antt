use Rattle.std.proofs.Common.{◌≡◌, length, reverse}
use Rattle.csv_tables.specs.Cells.{skip_spaces}
use Rattle.csv_tables.proofs.cells.without_spaces.Given as goal

abbrev pub invariant-loop-last : goal.invariant-loop-last
invariant-loop-last l = reverse (skip_spaces (reverse l.text)) ≡ reverse (skip_spaces (reverse l.initial.text))

abbrev pub decreases-loop-last : goal.decreases-loop-last
decreases-loop-last l = length l.text
