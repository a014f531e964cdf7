use Rattle.std.proofs.Common.{[], ◌∷◌, ◌++◌, sym, ap, ◌∙◌}
use Rattle.sqlite_looks.proofs.Finding.{one_more}
use Rattle.sqlite_looks.proofs.naming.every_column.Goals as goal

pub loop-at-preserved : goal.loop-at-preserved
loop-at-preserved c =
    c.in_ok-push.ensures.items ∙ (ap (λ numbers. numbers ++ c.loop-at.at ∷ []) c.loop-at.invariant ∙ sym (one_more c.loop-at.at))
