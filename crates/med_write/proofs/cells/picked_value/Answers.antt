use Rattle.med_value.specs.Datum.{Datum, datum}
use Rattle.tri_expr.specs.Outcome.{Is}
use Rattle.med_write.proofs.CellSteps.{value_found}
use Rattle.med_write.proofs.cells.picked_value.Goals as goal

pub returns-in-Some-get : goal.returns-in-Some-get
returns-in-Some-get c =
    let h = c.in-Some-get.ensures.lookup in
    rw c.deref.ensures.value at (value_found (λ (v : Datum). Is v) datum c.deref.result.now c.args.place c.in-Some.at c.in-Some-get.v.now c.same_value.result c.in-Some.is h.3.0 h.1 c.same_value.ensures)
