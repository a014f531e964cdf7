use Rattle.std.proofs.Common.{map, take, []}
use Rattle.fdw_api.specs.Kinds.{Inserts}
use Rattle.med_write.specs.Form.{trees_of, change_of}
use Rattle.med_write.specs.Writing.{outcomes_on, new_cells}
use Rattle.med_write.specs.Making.{Makes}
use Rattle.med_write.proofs.making.inserts_of_values.Given as goal

abbrev pub invariant-loop-given : goal.invariant-loop-given
invariant-loop-given l = Makes l.columns (λ ts. new_cells l.places (outcomes_on [] ts)) (λ ts row. Inserts row) (map trees_of (take l.given-index l.tuples)) (map change_of l.out.items)
