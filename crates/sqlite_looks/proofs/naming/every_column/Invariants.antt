use Rattle.std.proofs.Common.{◌≡◌}
use Rattle.std.specs.List.{range_with_len}
use Rattle.sqlite_looks.proofs.naming.every_column.Given as goal

-- the numbers up to this one
abbrev pub invariant-loop-at : goal.invariant-loop-at
invariant-loop-at l = l.numbers.items ≡ range_with_len 0 l.at
