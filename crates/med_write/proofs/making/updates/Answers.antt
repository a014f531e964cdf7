use Rattle.std.proofs.Common.{map, option_map, arith}
use Rattle.med_value.specs.Datum.{Tuple, tuple}
use Rattle.tri_expr.specs.Tree.{tree}
use Rattle.fdw_api.specs.Prelude.{Updates, GivenRow, row_of}
use Rattle.med_write.specs.Form.{change_of}
use Rattle.med_write.specs.Writing.{row_made}
use Rattle.med_write.proofs.RowSteps.{makes_more, fault_seen}
use Rattle.med_write.proofs.making.updates.Goals as goal

pub loop-old-preserved : goal.loop-old-preserved
loop-old-preserved c =
    makes_more row_of c.args.columns.now (λ (r : GivenRow). row_made (map (option_map tree) c.args.sets.now) r.cells) (λ (r : GivenRow) (row : Tuple). Updates r.id row) c.args.chosen.now c.loop-old.old-index c.old-item.result (map change_of c.loop-old.out.items) (map change_of c.push_change.new.out.items) (tuple c.in-Ok.row)
    (omega arith) c.old-item.is (c.in-Ok.ensures.ok) c.in_ok-push_change.ensures.ok c.loop-old.invariant

pub returns-in-Err-clause-err : goal.returns-in-Err-clause-err
returns-in-Err-clause-err c =
    fault_seen row_of c.in-Err.fault c.args.columns.now (λ (r : GivenRow). row_made (map (option_map tree) c.args.sets.now) r.cells) c.args.chosen.now c.loop-old.old-index c.old-item.result (omega arith) c.old-item.is (c.in-Err.ensures.err)
