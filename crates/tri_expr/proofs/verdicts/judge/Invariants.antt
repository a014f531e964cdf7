use Rattle.std.proofs.Common.{◌≡◌, map, drop, true, false}
use Rattle.med_value.specs.Datum.{datum, tuple}
use Rattle.tri_expr.specs.Meaning.{meaning}
use Rattle.tri_expr.specs.Outcome.{over}
use Rattle.tri_expr.proofs.Chain.{resumed}
use Rattle.tri_expr.proofs.Judged.{judged, hardened}
use Rattle.tri_expr.proofs.verdicts.judge.Given as goal

abbrev pub invariant-loop-conjunct : goal.invariant-loop-conjunct
invariant-loop-conjunct l =
    judged (over (map (meaning (map datum l.params)) l.conjuncts) (map tuple l.class)) ≡ resumed false l.told true (map hardened (over (map (meaning (map datum l.params)) (drop l.conjunct-index l.conjuncts)) (map tuple l.class)))
