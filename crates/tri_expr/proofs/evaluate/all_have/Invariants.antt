use Rattle.std.proofs.Common.{◌≡◌, map, drop}
use Rattle.std.specs.List.{list_all}
use Rattle.med_value.specs.Datum.{tuple}
use Rattle.tri_expr.specs.View.{seen}
use Rattle.tri_expr.specs.Meaning.{has_cell}
use Rattle.tri_expr.proofs.evaluate.all_have.Given as goal

abbrev pub invariant-loop-row : goal.invariant-loop-row
invariant-loop-row l = list_all (has_cell l.at (seen l.v)) (map tuple l.rows) ≡ list_all (has_cell l.at (seen l.v)) (map tuple (drop l.row-index l.rows))
