use Rattle.std.proofs.Common.{◌≡◌, map, drop}
use Rattle.med_value.specs.Column.{column_of}
use Rattle.bind_write.specs.Typing.{cells_causes}
use Rattle.bind_write.proofs.kinds.check_cells.Given as goal

abbrev pub invariant-loop-place : goal.invariant-loop-place
invariant-loop-place l =
    cells_causes (map column_of l.columns) l.given ≡ cells_causes (map column_of (drop l.place l.columns)) (drop l.place l.given)
