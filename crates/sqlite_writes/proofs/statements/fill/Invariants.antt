use Rattle.std.proofs.Common.{◌≡◌, map, take}
use Rattle.sqlite_value.specs.Value.{owned}
use Rattle.med_value.specs.Prelude.{tuple}
use Rattle.sqlite_writes.specs.Stored.{stored}
use Rattle.sqlite_writes.proofs.statements.fill.Given as goal

-- the first places hold the first cells
abbrev pub invariant-loop-at : goal.invariant-loop-at
invariant-loop-at l = map owned (take l.at l.cells) ≡ map stored (take l.at (tuple l.row))
