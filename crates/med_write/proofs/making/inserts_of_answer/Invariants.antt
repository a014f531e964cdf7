use Rattle.std.proofs.Common.{map, take}
use Rattle.med_value.specs.Datum.{tuple}
use Rattle.fdw_api.specs.Kinds.{Inserts}
use Rattle.med_write.specs.Form.{change_of}
use Rattle.med_write.specs.Writing.{outcomes_of, new_cells}
use Rattle.med_write.specs.Making.{Makes}
use Rattle.med_write.proofs.making.inserts_of_answer.Given as goal

abbrev pub invariant-loop-given : goal.invariant-loop-given
invariant-loop-given l = Makes l.columns (λ vs. new_cells l.places (outcomes_of vs)) (λ vs row. Inserts row) (map tuple (take l.given-index l.answer)) (map change_of l.out.items)
