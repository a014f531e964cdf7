use Rattle.std.proofs.Common.{rules, arith, map, ◌≡◌, true, false, [], ◌∷◌, subst, sym, ap, ◌∙◌}
use Rattle.med_value.specs.Datum.{datum, tuple}
use Rattle.tri_expr.specs.View.{Sees}
use Rattle.tri_expr.specs.Outcome.{Is, compared, computed, negated, opposite, turned, settled, tested, over}
use Rattle.tri_expr.specs.Aggregate.{aggregated}
use Rattle.tri_expr.specs.Meaning.{meaning, parts_mean, argument}
use Rattle.med_value.specs.declared.order.Comparison.TheVariants.{AtLeast, AtMost}
use Rattle.tri_expr.specs.declared.expr.Expr.TheVariants as form
use Rattle.tri_expr.specs.declared.expr.Expr.TheOpen as layer
use Rattle.tri_expr.proofs.Counted.{counted_more}
use Rattle.tri_expr.proofs.Forms.{means}
use Rattle.tri_expr.proofs.evaluate.+look.Goals as goal

pub look_aggregate-loop-row-preserved : goal.look_aggregate-loop-row-preserved
look_aggregate-loop-row-preserved n c =
    counted_more (meaning (map datum c.args.params.now) c.args.e.now) c.args.function c.args.class.now c.loop-row.row-index c.row-item.result c.loop-row.tally c.add.new.self _ (omega arith) c.row-item.is (search rules) c.add.ensures.added c.add.ensures.one_more c.add.ensures.still_small c.loop-row.invariant

pub look_parts-returns-in-Column : goal.look_parts-returns-in-Column
look_parts-returns-in-Column t c =
    let ps = map datum c.args.params.now in
    let k = map tuple c.args.class.now in
    means ps c.args.e.now (layer.Column c.in-Column.at) k (c.in-Column.is ∙ sym (form.rolls-Column c.in-Column.at)) ∙ ap Is (sym c.shared.ensures)

pub look_parts-returns-in-Parameter : goal.look_parts-returns-in-Parameter
look_parts-returns-in-Parameter t c =
    let ps = map datum c.args.params.now in
    let k = map tuple c.args.class.now in
    means ps c.args.e.now (layer.Parameter c.in-Parameter.at) k (c.in-Parameter.is ∙ sym (form.rolls-Parameter c.in-Parameter.at)) ∙ ap Is (sym c.cell.ensures)

pub look_parts-returns-in-Literal : goal.look_parts-returns-in-Literal
look_parts-returns-in-Literal t c =
    let ps = map datum c.args.params.now in
    let k = map tuple c.args.class.now in
    means ps c.args.e.now (layer.Literal c.in-Literal.v) k (c.in-Literal.is ∙ sym (form.rolls-Literal c.in-Literal.v)) ∙ ap Is (sym c.view_of.ensures)

pub look_parts-returns-in-Compare : goal.look_parts-returns-in-Compare
look_parts-returns-in-Compare t c =
    let ps = map datum c.args.params.now in
    let k = map tuple c.args.class.now in
    let w : compared c.in-Compare.op (meaning ps c.deref.result.now k) (meaning ps c.deref-in-Compare.result.now k) ≡ meaning ps c.args.e.now k = rw (c.deref.ensures, c.deref-in-Compare.ensures) (sym (means ps c.args.e.now (layer.Compare c.in-Compare.op c.in-Compare.a c.in-Compare.b) k (c.in-Compare.is ∙ sym (form.rolls-Compare c.in-Compare.op c.in-Compare.a c.in-Compare.b)))) in
    subst (Sees c.compare_both.result) w (c.compare_both.ensures (meaning ps c.deref.result.now k) (meaning ps c.deref-in-Compare.result.now k) c.look-left.ensures c.look-right.ensures)

pub look_parts-returns-in-Compute : goal.look_parts-returns-in-Compute
look_parts-returns-in-Compute t c =
    let ps = map datum c.args.params.now in
    let k = map tuple c.args.class.now in
    let w : computed c.in-Compute.op (meaning ps c.deref-in-Compute.result.now k) (meaning ps c.deref-in-Compute-2.result.now k) ≡ meaning ps c.args.e.now k = rw (c.deref-in-Compute.ensures, c.deref-in-Compute-2.ensures) (sym (means ps c.args.e.now (layer.Compute c.in-Compute.op c.in-Compute.a c.in-Compute.b) k (c.in-Compute.is ∙ sym (form.rolls-Compute c.in-Compute.op c.in-Compute.a c.in-Compute.b)))) in
    subst (Sees c.compute.result) w (c.compute.ensures (meaning ps c.deref-in-Compute.result.now k) (meaning ps c.deref-in-Compute-2.result.now k) c.look-left-in-Compute.ensures c.look-right-in-Compute.ensures)

pub look_parts-returns-in-Negate : goal.look_parts-returns-in-Negate
look_parts-returns-in-Negate t c =
    let ps = map datum c.args.params.now in
    let k = map tuple c.args.class.now in
    let w : negated (meaning ps c.deref-in-Negate.result.now k) ≡ meaning ps c.args.e.now k = rw (c.deref-in-Negate.ensures) (sym (means ps c.args.e.now (layer.Negate c.in-Negate.a) k (c.in-Negate.is ∙ sym (form.rolls-Negate c.in-Negate.a)))) in
    subst (Sees c.negate.result) w (c.negate.ensures (meaning ps c.deref-in-Negate.result.now k) c.look.ensures)

pub look_parts-returns-in-And : goal.look_parts-returns-in-And
look_parts-returns-in-And t c =
    let ps = map datum c.args.params.now in
    let k = map tuple c.args.class.now in
    let w : settled false (over (parts_mean ps c.deref-in-And.result.now) k) ≡ meaning ps c.args.e.now k = rw (c.deref-in-And.ensures.value) (sym (means ps c.args.e.now (layer.And c.in-And.parts) k (c.in-And.is ∙ sym (form.rolls-And c.in-And.parts)))) in
    subst (Sees c.look_chain.result) w (c.look_chain.ensures)

pub look_parts-returns-in-Or : goal.look_parts-returns-in-Or
look_parts-returns-in-Or t c =
    let ps = map datum c.args.params.now in
    let k = map tuple c.args.class.now in
    let w : settled true (over (parts_mean ps c.deref-in-Or.result.now) k) ≡ meaning ps c.args.e.now k = rw (c.deref-in-Or.ensures.value) (sym (means ps c.args.e.now (layer.Or c.in-Or.parts) k (c.in-Or.is ∙ sym (form.rolls-Or c.in-Or.parts)))) in
    subst (Sees c.look_chain-in-Or.result) w (c.look_chain-in-Or.ensures)

pub look_parts-returns-in-Not : goal.look_parts-returns-in-Not
look_parts-returns-in-Not t c =
    let ps = map datum c.args.params.now in
    let k = map tuple c.args.class.now in
    let w : opposite (meaning ps c.deref-in-Not.result.now k) ≡ meaning ps c.args.e.now k = rw (c.deref-in-Not.ensures) (sym (means ps c.args.e.now (layer.Not c.in-Not.a) k (c.in-Not.is ∙ sym (form.rolls-Not c.in-Not.a)))) in
    subst (Sees c.turn.result) w (c.turn.ensures (meaning ps c.deref-in-Not.result.now k) c.look-in-Not.ensures)

pub look_parts-returns-in-Is : goal.look_parts-returns-in-Is
look_parts-returns-in-Is t c =
    let ps = map datum c.args.params.now in
    let k = map tuple c.args.class.now in
    let w : tested c.in-Is.test c.in-Is.negative (meaning ps c.deref-in-Is.result.now k) ≡ meaning ps c.args.e.now k = rw (c.deref-in-Is.ensures) (sym (means ps c.args.e.now (layer.Is c.in-Is.test c.in-Is.negative c.in-Is.a) k (c.in-Is.is ∙ sym (form.rolls-Is c.in-Is.test c.in-Is.negative c.in-Is.a)))) in
    subst (Sees c.ask.result) w (c.ask.ensures (meaning ps c.deref-in-Is.result.now k) c.look-in-Is.ensures)

pub look_parts-returns-in-Between : goal.look_parts-returns-in-Between
look_parts-returns-in-Between t c =
    let ps = map datum c.args.params.now in
    let k = map tuple c.args.class.now in
    let w : turned c.in-Between.negative (settled false (compared AtLeast (meaning ps c.deref-in-Between.result.now k) (meaning ps c.deref-in-Between-2.result.now k) ∷ compared AtMost (meaning ps c.deref-in-Between.result.now k) (meaning ps c.deref-in-Between-3.result.now k) ∷ [])) ≡ meaning ps c.args.e.now k = rw (c.deref-in-Between.ensures, c.deref-in-Between-2.ensures, c.deref-in-Between-3.ensures) (sym (means ps c.args.e.now (layer.Between c.in-Between.negative c.in-Between.x c.in-Between.low c.in-Between.high) k (c.in-Between.is ∙ sym (form.rolls-Between c.in-Between.negative c.in-Between.x c.in-Between.low c.in-Between.high)))) in
    subst (Sees c.turn-in-Between.result) w (c.turn-in-Between.ensures (settled false (compared AtLeast (meaning ps c.deref-in-Between.result.now k) (meaning ps c.deref-in-Between-2.result.now k) ∷ compared AtMost (meaning ps c.deref-in-Between.result.now k) (meaning ps c.deref-in-Between-3.result.now k) ∷ [])) (c.between.ensures (meaning ps c.deref-in-Between.result.now k) (meaning ps c.deref-in-Between-2.result.now k) (meaning ps c.deref-in-Between-3.result.now k) c.look-v.ensures c.look-least.ensures c.look-most.ensures))

pub look_parts-returns-in-Parenthesised : goal.look_parts-returns-in-Parenthesised
look_parts-returns-in-Parenthesised t c =
    let ps = map datum c.args.params.now in
    let k = map tuple c.args.class.now in
    let w : (meaning ps c.deref-in-Parenthesised.result.now k) ≡ meaning ps c.args.e.now k = rw (c.deref-in-Parenthesised.ensures) (sym (means ps c.args.e.now (layer.Parenthesised c.in-Parenthesised.a) k (c.in-Parenthesised.is ∙ sym (form.rolls-Parenthesised c.in-Parenthesised.a)))) in
    subst (Sees c.look-in-Parenthesised.result) w (c.look-in-Parenthesised.ensures)

pub look_parts-returns-in-Aggregate : goal.look_parts-returns-in-Aggregate
look_parts-returns-in-Aggregate t c =
    let ps = map datum c.args.params.now in
    let k = map tuple c.args.class.now in
    let w : aggregated c.in-Aggregate.function (argument (meaning ps c.deref-in-Aggregate.result.now) k) ≡ meaning ps c.args.e.now k = rw (c.deref-in-Aggregate.ensures) (sym (means ps c.args.e.now (layer.Aggregate c.in-Aggregate.function c.in-Aggregate.a) k (c.in-Aggregate.is ∙ sym (form.rolls-Aggregate c.in-Aggregate.function c.in-Aggregate.a)))) in
    subst (Sees c.look_aggregate.result) w (c.look_aggregate.ensures)

pub look-returns-in-Column : goal.look-returns-in-Column
look-returns-in-Column t c =
    let ps = map datum c.args.params.now in
    let k = map tuple c.args.class.now in
    means ps c.args.e.now (layer.Column c.in-Column.at) k (c.in-Column.is ∙ sym (form.rolls-Column c.in-Column.at)) ∙ ap Is (sym c.shared.ensures)

pub look-returns-in-Parameter : goal.look-returns-in-Parameter
look-returns-in-Parameter t c =
    let ps = map datum c.args.params.now in
    let k = map tuple c.args.class.now in
    means ps c.args.e.now (layer.Parameter c.in-Parameter.at) k (c.in-Parameter.is ∙ sym (form.rolls-Parameter c.in-Parameter.at)) ∙ ap Is (sym c.cell.ensures)

pub look-returns-in-Literal : goal.look-returns-in-Literal
look-returns-in-Literal t c =
    let ps = map datum c.args.params.now in
    let k = map tuple c.args.class.now in
    means ps c.args.e.now (layer.Literal c.in-Literal.v) k (c.in-Literal.is ∙ sym (form.rolls-Literal c.in-Literal.v)) ∙ ap Is (sym c.view_of.ensures)
