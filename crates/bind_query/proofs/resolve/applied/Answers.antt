use Rattle.std.proofs.Common.{length, ap, refl, ◌∙◌}
use Rattle.bind_query.proofs.Trees.{not_one}
use Rattle.bind_query.proofs.resolve.applied.Goals as goal

pub returns-then-count-ne1 : goal.returns-then-count-ne1
returns-then-count-ne1 c = (c.nothing.ensures ∙ not_one c.args.function c.args.arguments.items (λ e. c.if-count-ne1.true (ap (λ xs. length xs) c.as_slice-count.ensures.value ∙ e)), refl)
