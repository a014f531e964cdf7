use Rattle.med_value.specs.Datum.{tuple}
use Rattle.tri_expr.specs.Tree.{tree}
use Rattle.med_write.specs.Writing.{outcome_on}
use Rattle.med_write.proofs.CellSteps.{value_found}
use Rattle.med_write.proofs.cells.placed_value.Goals as goal

pub returns-in-Some-get : goal.returns-in-Some-get
returns-in-Some-get c =
    let h = c.in-Some-get.ensures.lookup in
    value_found (outcome_on (tuple c.args.row.now)) tree c.args.given.now c.args.place c.in-Some.at c.in-Some-get.e.now c.value_on.result c.in-Some.is h.3.0 h.1 c.value_on.ensures
