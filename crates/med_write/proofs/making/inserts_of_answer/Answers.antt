use Rattle.std.proofs.Common.{map, arith}
use Rattle.med_value.specs.Datum.{Tuple, tuple}
use Rattle.fdw_api.specs.Kinds.{Inserts}
use Rattle.med_write.specs.Form.{change_of}
use Rattle.med_write.specs.Writing.{outcomes_of, new_cells}
use Rattle.med_write.proofs.RowSteps.{makes_more, fault_seen}
use Rattle.med_write.proofs.making.inserts_of_answer.Goals as goal

pub loop-given-preserved : goal.loop-given-preserved
loop-given-preserved c =
    makes_more tuple c.args.columns.now (λ (vs : Tuple). new_cells c.args.places.now (outcomes_of vs)) (λ (vs : Tuple) (row : Tuple). Inserts row) c.args.answer.now c.loop-given.given-index c.given-item.result (map change_of c.loop-given.out.items) (map change_of c.push_change.new.out.items) (tuple c.in-Ok.row)
    (omega arith) c.given-item.is (c.in-Ok.ensures.ok) c.in_ok-push_change.ensures.ok c.loop-given.invariant

pub returns-in-Err-clause-err : goal.returns-in-Err-clause-err
returns-in-Err-clause-err c =
    fault_seen tuple c.in-Err.fault c.args.columns.now (λ (vs : Tuple). new_cells c.args.places.now (outcomes_of vs)) c.args.answer.now c.loop-given.given-index c.given-item.result (omega arith) c.given-item.is (c.in-Err.ensures.err)
