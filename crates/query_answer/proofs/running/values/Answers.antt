use Rattle.std.proofs.Common.{map, arith}
use Rattle.med_value.specs.Datum.{datum}
use Rattle.query_answer.proofs.Runnings.{values_more}
use Rattle.query_answer.proofs.running.values.Goals as goal

pub loop-at-preserved : goal.loop-at-preserved
loop-at-preserved c = values_more c.args.leaves.now c.args.all.now (map datum c.loop-at.out.items) (map datum c.put_values.new.out.items) c.loop-at.at c.index-leaves-at.result c.index-all-at.result (omega arith) c.index-leaves-at.is c.index-all-at.is c.in_ok-put_values.ensures c.loop-at.invariant
