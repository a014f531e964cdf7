use Rattle.std.proofs.Common.{◌≡◌, ◌++◌, map, ap, sym, ◌∙◌}
use Rattle.tri_expr.specs.Tree.{tree}
use Rattle.tri_expr.proofs.Forms.{pushed}
use Rattle.tri_expr.proofs.Apart.{one_conjunct}
use Rattle.tri_expr.proofs.condition.+conjuncts.Goals as goal

pub push_conjuncts-returns-in_ok-push-in_default : goal.push_conjuncts-returns-in_ok-push-in_default
push_conjuncts-returns-in_ok-push-in_default t c =
    let before = c.args.out.now.items in
    let one = one_conjunct c.args.e.now c.in_default.not-And c.in_default.not-Parenthesised in
    ap (map tree) c.in_ok-push-in_default.ensures.items ∙ pushed before c.in_ok-copy-in_default.field-0 c.args.e.now c.in_ok-copy-in_default.ensures ∙ ap (λ ts. map tree before ++ ts) (sym one)
