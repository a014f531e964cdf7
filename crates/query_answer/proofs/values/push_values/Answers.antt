use Rattle.std.proofs.Common.{◌≡◌, rules, arith, map, refl}
use Rattle.med_value.specs.Datum.{datum, tuple}
use Rattle.tri_expr.specs.Prelude.{meaning, Is}
use Rattle.query_answer.proofs.Evaluated.{part_quiet, part_tells, part_value}
use Rattle.query_answer.proofs.values.push_values.Goals as goal

pub loop-part-preserved : goal.loop-part-preserved
loop-part-preserved c =
    let ps = map datum c.args.params.now in
    let class = map tuple c.args.class.now in
    let is : meaning ps c.part-item.result class ≡ Is (datum c.in-Ok.v) = search rules in
    record {
      values = part_value ps c.args.parts.now class (map datum c.args.cells.now.items) c.loop-part.cells.items c.push_value.new.cells.items c.in-Ok.v c.loop-part.part-index c.part-item.result (omega arith) c.part-item.is is (search rules) c.loop-part.invariant.values;
      no_fault = part_quiet ps c.args.parts.now class c.loop-part.part-index c.part-item.result (omega arith) c.part-item.is (rw is refl) c.loop-part.invariant.no_fault;
    }

pub returns-in-Err-clause-told : goal.returns-in-Err-clause-told
returns-in-Err-clause-told c =
    part_tells c.in-Err.fault (map datum c.args.params.now) c.args.parts.now (map tuple c.args.class.now) c.loop-part.part-index c.part-item.result (omega arith) c.part-item.is c.in-Err.ensures.told
