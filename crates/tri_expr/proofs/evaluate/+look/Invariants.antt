use Rattle.std.proofs.Common.{◌≡◌, map, drop, take, true}
use Rattle.med_value.specs.Datum.{datum, tuple}
use Rattle.tri_expr.specs.Outcome.{settled, compared, Is, over}
use Rattle.med_value.specs.declared.order.Comparison.TheVariants.{Equal}
use Rattle.tri_expr.specs.View.{seen}
use Rattle.tri_expr.specs.Meaning.{meaning, parts_mean}
use Rattle.tri_expr.proofs.Chain.{resumed}
use Rattle.tri_expr.proofs.Counted.{Counted}
use Rattle.tri_expr.proofs.evaluate.+look.Given as goal

abbrev pub invariant-look_chain-loop-part : goal.invariant-look_chain-loop-part
invariant-look_chain-loop-part l =
    settled l.by (over (parts_mean (map datum l.params) l.parts) (map tuple l.class)) ≡ resumed l.by l.told l.all (over (parts_mean (map datum l.params) (drop l.part-index l.parts)) (map tuple l.class))

abbrev pub invariant-look_in-loop-part : goal.invariant-look_in-loop-part
invariant-look_in-loop-part l =
    settled true (map (compared Equal (Is (seen l.v))) (over (parts_mean (map datum l.params) l.parts) (map tuple l.class))) ≡ resumed true l.told l.all (map (compared Equal (Is (seen l.v))) (over (parts_mean (map datum l.params) (drop l.part-index l.parts)) (map tuple l.class)))

abbrev pub invariant-look_aggregate-loop-row : goal.invariant-look_aggregate-loop-row
invariant-look_aggregate-loop-row l = Counted l.tally l.fn.function (meaning (map datum l.params) l.e) (map tuple (take l.row-index l.class)) l.row-index
