use Rattle.std.proofs.Common.{List, [], ◌∷◌, ◌++◌}
use Rattle.std.specs.String.{string_bytes}
use Rattle.med_syntax.specs.declared.expr.Joint.TheVariants.{And}
use Rattle.med_syntax.specs.Terminal as terms
use Rattle.med_syntax.specs.Prelude.{perhaps_not, status_terminal, spelling, spellings, expr_tree, expr_trees}
use Rattle.expr_writer.specs.ExprPrinting.{fixed_terminal}
use Rattle.expr_writer.proofs.ExprPrints.{then_if, more_if}
use Rattle.expr_writer.proofs.writer.+writer.Goals as goal

pub write_paren-returns : goal.write_paren-returns
write_paren-returns t c =
    more_if c.write_fixed-2.result _ _ _ terms.LeftParen (spelling (expr_tree c.args.expr.now) ++ terms.RightParen ∷ []) c.in_ok-write_fixed.ensures
    (then_if c.write_fixed-2.result _ _ _ (spelling (expr_tree c.args.expr.now)) (terms.RightParen ∷ []) c.in_ok-write.ensures c.write_fixed-2.ensures)

pub write_pair-returns : goal.write_pair-returns
write_pair-returns t c =
    then_if c.write-2.result _ _ _ (spelling (expr_tree c.args.a.now)) (fixed_terminal c.args.fixed ∷ spelling (expr_tree c.args.b.now)) c.in_ok-write.ensures
    (more_if c.write-2.result _ _ _ (fixed_terminal c.args.fixed) (spelling (expr_tree c.args.b.now)) c.in_ok-write_fixed.ensures c.write-2.ensures)

pub write_list-returns : goal.write_list-returns
write_list-returns t c =
    let others : List terms.Terminal = spellings terms.Comma (expr_trees c.args.others.now) in
    more_if c.write_fixed-2.result _ _ _ terms.LeftParen (spelling (expr_tree c.args.first.now) ++ (others ++ terms.RightParen ∷ [])) c.in_ok-write_fixed.ensures
    (then_if c.write_fixed-2.result _ _ _ (spelling (expr_tree c.args.first.now)) (others ++ terms.RightParen ∷ []) c.in_ok-write.ensures
    (then_if c.write_fixed-2.result _ _ _ others (terms.RightParen ∷ []) c.in_ok-write_others.ensures c.write_fixed-2.ensures))

pub write_chain-returns : goal.write_chain-returns
write_chain-returns t c =
    then_if c.write_others.result _ _ _ (spelling (expr_tree c.args.first.now)) (spellings (terms.Joined c.args.joint) (expr_trees c.args.others.now)) c.in_ok-write.ensures c.write_others.ensures

pub write_between-returns : goal.write_between-returns
write_between-returns t c =
    let bounds : List terms.Terminal = spelling (expr_tree c.args.low.now) ++ terms.Joined And ∷ spelling (expr_tree c.args.high.now) in
    then_if c.write_pair.result _ _ _ (spelling (expr_tree c.args.e.now)) (perhaps_not c.args.negated ++ terms.Between ∷ bounds) c.in_ok-write.ensures
    (then_if c.write_pair.result _ _ _ (perhaps_not c.args.negated) (terms.Between ∷ bounds) c.in_ok-write_not.ensures
    (more_if c.write_pair.result _ _ _ terms.Between bounds c.in_ok-write_fixed.ensures c.write_pair.ensures))

pub write_in-returns : goal.write_in-returns
write_in-returns t c =
    let items : List terms.Terminal = terms.LeftParen ∷ (spelling (expr_tree c.args.first.now) ++ (spellings terms.Comma (expr_trees c.args.others.now) ++ terms.RightParen ∷ [])) in
    then_if c.write_list.result _ _ _ (spelling (expr_tree c.args.e.now)) (perhaps_not c.args.negated ++ terms.In ∷ items) c.in_ok-write.ensures
    (then_if c.write_list.result _ _ _ (perhaps_not c.args.negated) (terms.In ∷ items) c.in_ok-write_not.ensures
    (more_if c.write_list.result _ _ _ terms.In items c.in_ok-write_fixed.ensures c.write_list.ensures))

pub write_like-returns : goal.write_like-returns
write_like-returns t c =
    let pattern : List terms.Terminal = terms.Text (string_bytes c.args.pattern.now) ∷ [] in
    then_if c.write_text.result _ _ _ (spelling (expr_tree c.args.e.now)) (perhaps_not c.args.negated ++ terms.Like ∷ pattern) c.in_ok-write.ensures
    (then_if c.write_text.result _ _ _ (perhaps_not c.args.negated) (terms.Like ∷ pattern) c.in_ok-write_not.ensures
    (more_if c.write_text.result _ _ _ terms.Like pattern c.in_ok-write_fixed.ensures c.write_text.ensures))

pub write_is-returns : goal.write_is-returns
write_is-returns t c =
    let status : List terms.Terminal = status_terminal c.args.status ∷ [] in
    then_if c.write_fixed-2.result _ _ _ (spelling (expr_tree c.args.e.now)) (terms.Is ∷ (perhaps_not c.args.negated ++ status)) c.in_ok-write.ensures
    (more_if c.write_fixed-2.result _ _ _ terms.Is (perhaps_not c.args.negated ++ status) c.in_ok-write_fixed.ensures
    (then_if c.write_fixed-2.result _ _ _ (perhaps_not c.args.negated) status c.in_ok-write_not.ensures c.write_fixed-2.ensures))
