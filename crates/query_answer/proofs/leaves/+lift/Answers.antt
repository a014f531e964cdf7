use Rattle.std.proofs.Common.{arith, ◌∙◌}
use Rattle.med_query.proofs.Telling.{if_ok_then}
use Rattle.query_answer.proofs.Lifting.{more_again, one_more_lifts, all_of_them_lift, lifts_still, lifts_and, lifts_or, lifts_compare, lifts_compute, lifts_between, lifts_in, lifts_like, lifts_aggregate}
use Rattle.query_answer.proofs.leaves.+lift.Goals as goal

pub all_lifted-loop-part-preserved : goal.all_lifted-loop-part-preserved
all_lifted-loop-part-preserved t c =
    let old = c.loop-part.leaves.items in
    let new = c.lifted.new.leaves.items in
    record {
      more = more_again c.args.leaves.now.items old new c.loop-part.invariant.more c.in_ok-lifted.ensures.more;
      lift = one_more_lifts old new c.args.parts.now c.loop-part.all.items c.push.new.self.items c.loop-part.part-index c.part-item.result c.in_ok-lifted.field-0 (omega arith) c.part-item.is c.in_ok-lifted.ensures.more c.in_ok-push.ensures.items c.in_ok-lifted.ensures.lifts c.loop-part.invariant.lift;
    }

pub all_lifted-returns-clause-lift : goal.all_lifted-returns-clause-lift
all_lifted-returns-clause-lift t c = all_of_them_lift c.loop-part.leaves.items c.args.parts.now c.loop-part.all.items c.loop-part.part-index (omega arith) c.loop-part.invariant.lift

pub lifted-returns-in_ok-all_lifted-in-And-clause-lifts : goal.lifted-returns-in_ok-all_lifted-in-And-clause-lifts
lifted-returns-in_ok-all_lifted-in-And-clause-lifts t c =
    lifts_and c.all_lifted.new.leaves.items c.in_ok-all_lifted-in-And.field-0 c.in-And.parts c.args.e.now c.in-And.is (rw (← c.deref-in-And.ensures.value) c.in_ok-all_lifted-in-And.ensures.lift)

pub lifted-returns-in_ok-all_lifted-in-Or-clause-lifts : goal.lifted-returns-in_ok-all_lifted-in-Or-clause-lifts
lifted-returns-in_ok-all_lifted-in-Or-clause-lifts t c =
    lifts_or c.all_lifted-in-Or.new.leaves.items c.in_ok-all_lifted-in-Or.field-0 c.in-Or.parts c.args.e.now c.in-Or.is (rw (← c.deref-in-Or.ensures.value) c.in_ok-all_lifted-in-Or.ensures.lift)

pub lifted-returns-in_ok-b-in-Compare-clause-lifts : goal.lifted-returns-in_ok-b-in-Compare-clause-lifts
lifted-returns-in_ok-b-in-Compare-clause-lifts t c =
    let a = c.in_ok-a-in-Compare in
    let b = c.in_ok-b-in-Compare in
    let first = c.boxed.new.leaves.items in
    let second = c.boxed-in-Compare.new.leaves.items in
    lifts_compare second c.in-Compare.op a.a b.b c.in-Compare.a c.in-Compare.b c.args.e.now c.in-Compare.is
    (rw (← c.deref.ensures) (lifts_still first second c.deref.result.now a.a.value b.ensures.more a.ensures.lifts))
    (rw (← c.deref-in-Compare.ensures) b.ensures.lifts)

pub lifted-returns-in_ok-b-in-Compute-clause-lifts : goal.lifted-returns-in_ok-b-in-Compute-clause-lifts
lifted-returns-in_ok-b-in-Compute-clause-lifts t c =
    let a = c.in_ok-a-in-Compute in
    let b = c.in_ok-b-in-Compute in
    let first = c.boxed-in-Compute.new.leaves.items in
    let second = c.boxed-in-Compute-2.new.leaves.items in
    lifts_compute second c.in-Compute.op a.a b.b c.in-Compute.a c.in-Compute.b c.args.e.now c.in-Compute.is
    (rw (← c.deref-in-Compute.ensures) (lifts_still first second c.deref-in-Compute.result.now a.a.value b.ensures.more a.ensures.lifts))
    (rw (← c.deref-in-Compute-2.ensures) b.ensures.lifts)

pub lifted-returns-in_ok-high-in-Between-clause-lifts : goal.lifted-returns-in_ok-high-in-Between-clause-lifts
lifted-returns-in_ok-high-in-Between-clause-lifts t c =
    let x = c.in_ok-x-in-Between in
    let low = c.in_ok-low-in-Between in
    let high = c.in_ok-high-in-Between in
    let first = c.boxed-in-Between.new.leaves.items in
    let second = c.boxed-in-Between-2.new.leaves.items in
    let third = c.boxed-in-Between-3.new.leaves.items in
    lifts_between third c.in-Between.negative x.x low.low high.high c.in-Between.x c.in-Between.low c.in-Between.high c.args.e.now c.in-Between.is
    (rw (← c.deref-in-Between.ensures) (lifts_still first third c.deref-in-Between.result.now x.x.value (more_again first second third low.ensures.more high.ensures.more) x.ensures.lifts))
    (rw (← c.deref-in-Between-2.ensures) (lifts_still second third c.deref-in-Between-2.result.now low.low.value high.ensures.more low.ensures.lifts))
    (rw (← c.deref-in-Between-3.ensures) high.ensures.lifts)

pub lifted-returns-in_ok-parts-in-In-clause-lifts : goal.lifted-returns-in_ok-parts-in-In-clause-lifts
lifted-returns-in_ok-parts-in-In-clause-lifts t c =
    let x = c.in_ok-x-in-In in
    let parts = c.in_ok-parts-in-In in
    let first = c.boxed-in-In.new.leaves.items in
    let second = c.all_lifted-in-In.new.leaves.items in
    lifts_in second c.in-In.negative x.x c.in-In.x parts.parts c.in-In.parts c.args.e.now c.in-In.is
    (rw (← c.deref-in-In.ensures) (lifts_still first second c.deref-in-In.result.now x.x.value parts.ensures.more x.ensures.lifts))
    (rw (← c.deref-in-In-2.ensures.value) parts.ensures.lift)

pub lifted-returns-in_ok-pattern-in-Like-clause-lifts : goal.lifted-returns-in_ok-pattern-in-Like-clause-lifts
lifted-returns-in_ok-pattern-in-Like-clause-lifts t c =
    lifts_like c.boxed-in-Like.new.leaves.items c.in-Like.negative c.in_ok-x-in-Like.x c.in-Like.x c.in_ok-pattern-in-Like.pattern c.in-Like.pattern c.args.e.now c.in-Like.is
    (rw (← c.deref-in-Like.ensures) c.in_ok-x-in-Like.ensures.lifts) (c.in_ok-pattern-in-Like.ensures.ok ∙ c.as_str.ensures.value)

pub lifted-returns-in-Aggregate-clause-lifts : goal.lifted-returns-in-Aggregate-clause-lifts
lifted-returns-in-Aggregate-clause-lifts t c =
    let new = c.lifted_aggregate.new.leaves.items in
    if_ok_then _ _ _ (λ lifted h. lifts_aggregate new c.in-Aggregate.function c.in-Aggregate.a c.deref-in-Aggregate.result.now c.args.e.now lifted c.in-Aggregate.is c.deref-in-Aggregate.ensures h) c.lifted_aggregate.ensures.lifts
