use Rattle.std.proofs.Common.{sym, ap, ◌∙◌, subst, rules, arith}
use Rattle.std.proofs.lemmas.Result.{err_from_is_err_and}
use Rattle.med_lexer.specs.Steps.{next_of}
use Rattle.med_lexer.specs.View.{views, shape_of}
use Rattle.med_lexer.proofs.Tells.{next_shorter, blank_shorter}
use Rattle.med_lexer.proofs.CutLoop.{CutLoop, cut_done, cut_blank, cut_token, cut_failed, views_push}
use Rattle.med_lexer.proofs.cut.cut.Goals as goal

pub returns-in_err-next : goal.returns-in_err-next
returns-in_err-next c =
    let p = err_from_is_err_and c.from_residual.result c.from_residual.ensures.1 in
    cut_failed c.args.text.now (views c.loop-out.out.items) c.loop-out.rest.now c.in_err-next.field-0.0 c.from_residual.result c.loop-out.invariant.loop c.in_err-next.ensures (cc)

pub returns-in-Done : goal.returns-in-Done
returns-in-Done c = cut_done c.args.text.now (views c.loop-out.out.items) c.loop-out.rest.now c.loop-out.invariant.loop (c.in_ok-next.ensures ∙ ap next_of c.in-Done.is)

pub loop-out-smaller-in-Blank : goal.loop-out-smaller-in-Blank
loop-out-smaller-in-Blank c = omega (arith, blank_shorter c.loop-out.rest.now c.in-Blank.after.now (c.in_ok-next.ensures ∙ ap next_of c.in-Blank.is))

pub loop-out-preserved-in-Blank : goal.loop-out-preserved-in-Blank
loop-out-preserved-in-Blank c = record {
  text = search rules;
  loop = cut_blank c.args.text.now (views c.loop-out.out.items) c.loop-out.rest.now c.in-Blank.after.now c.loop-out.invariant.loop (c.in_ok-next.ensures ∙ ap next_of c.in-Blank.is);
}

pub overflow_sub-end : goal.overflow_sub-end
overflow_sub-end c =
    omega (arith, next_shorter c.loop-out.rest.now (shape_of c.in-Cut.kind) c.in-Cut.after.now (c.in_ok-next.ensures ∙ ap next_of c.in-Cut.is), c.loop-out.invariant.loop.short)

pub loop-out-smaller : goal.loop-out-smaller
loop-out-smaller c = next_shorter c.loop-out.rest.now (shape_of c.in-Cut.kind) c.in-Cut.after.now (c.in_ok-next.ensures ∙ ap next_of c.in-Cut.is)

pub loop-out-preserved : goal.loop-out-preserved
loop-out-preserved c = record {
  text = search rules;
  loop = subst (λ ts. CutLoop c.args.text.now ts c.in-Cut.after.now) (sym (ap views c.in_ok-push-in-Cut.ensures.items ∙ views_push c.loop-out.out.items _))
      (cut_token c.args.text.now (views c.loop-out.out.items) c.loop-out.rest.now (shape_of c.in-Cut.kind) c.in-Cut.after.now _ _ c.loop-out.invariant.loop (c.in_ok-next.ensures ∙ ap next_of c.in-Cut.is) (omega arith) (omega arith));
}
