use Rattle.std.proofs.Common.{rules, arith, map, ◌∙◌, ap, subst, true, false, Ok, Err}
use Rattle.med_value.specs.Datum.{datum, tuple}
use Rattle.tri_expr.specs.View.{seen}
use Rattle.tri_expr.specs.Meaning.{meaning}
use Rattle.tri_expr.specs.Outcome.{truth, over}
use Rattle.tri_expr.specs.Verdict.{Judges}
use Rattle.tri_expr.proofs.Chain.{or_told}
use Rattle.tri_expr.proofs.Judged.{step_refused, at_end, verdict_false, verdict_true, verdict_told, by_trees}
use Rattle.tri_expr.proofs.verdicts.judge.Goals as goal

pub returns-then-not-is_true : goal.returns-then-not-is_true
returns-then-not-is_true c =
    let m = meaning (map datum c.args.params.now) in
    let k = map tuple c.args.class.now in
    let out = step_refused m k c.args.conjuncts.now c.loop-conjunct.conjunct-index c.conjunct-item.result c.loop-conjunct.told (seen c.in-Ok.v) (omega arith) (search rules) (search rules) (search rules) c.loop-conjunct.invariant in
    subst (Judges (Ok false)) (by_trees (map datum c.args.params.now) c.args.conjuncts.now k) (verdict_false (over (map m c.args.conjuncts.now) k) out)

pub returns-in-Some : goal.returns-in-Some
returns-in-Some c =
    let m = meaning (map datum c.args.params.now) in
    let k = map tuple c.args.class.now in
    let e = at_end m k c.args.conjuncts.now c.loop-conjunct.conjunct-index c.loop-conjunct.told (omega arith) c.loop-conjunct.invariant in
    subst (Judges (Err c.in-Some.fault)) (by_trees (map datum c.args.params.now) c.args.conjuncts.now k) (verdict_told (over (map m c.args.conjuncts.now) k) c.in-Some.fault (e ∙ ap (λ t. or_told t (truth true)) c.in-Some.is))

pub returns-in-None : goal.returns-in-None
returns-in-None c =
    let m = meaning (map datum c.args.params.now) in
    let k = map tuple c.args.class.now in
    let e = at_end m k c.args.conjuncts.now c.loop-conjunct.conjunct-index c.loop-conjunct.told (omega arith) c.loop-conjunct.invariant in
    subst (Judges (Ok true)) (by_trees (map datum c.args.params.now) c.args.conjuncts.now k) (verdict_true (over (map m c.args.conjuncts.now) k) (e ∙ ap (λ t. or_told t (truth true)) c.in-None.is))
