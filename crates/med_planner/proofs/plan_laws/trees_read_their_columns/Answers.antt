use Rattle.med_planner.proofs.Reading.{alone, reads, behind}
use Rattle.med_planner.proofs.plan_laws.trees_read_their_columns.Goals as goal

pub returns : goal.returns
returns c = record {
  alone = alone;
  moved = reads;
  shifted = behind;
}
