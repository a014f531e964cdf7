use Rattle.std.proofs.Common.{map, ap, refl, sym, ◌∙◌}
use Rattle.tri_expr.specs.declared.expr.Expr.TheVariants as form
use Rattle.tri_expr.specs.Tree.{compare, compute, all_of, some_of, opposite, asks, between, within, parenthesised, aggregate, trees, tree}
use Rattle.tri_expr.proofs.Forms.{two, three, tree_compare, tree_compute, tree_and, tree_or, tree_not, tree_is, tree_between, tree_in, tree_parenthesised, tree_aggregate}
use Rattle.tri_expr.proofs.+copy.Goals as goal

pub expr::Expr::copy-returns-in_ok-boxed-in-Not : goal.expr::Expr::copy-returns-in_ok-boxed-in-Not
expr::Expr::copy-returns-in_ok-boxed-in-Not t c =
    tree_not (form.Not c.in_ok-boxed-in-Not.field-0) c.in_ok-boxed-in-Not.field-0 refl ∙ ap opposite (c.in_ok-boxed-in-Not.ensures ∙ ap tree c.deref-in-Not.ensures) ∙ sym (tree_not c.args.self.now c.in-Not.a c.in-Not.is)

pub expr::Expr::copy-returns-in_ok-boxed-in-Parenthesised : goal.expr::Expr::copy-returns-in_ok-boxed-in-Parenthesised
expr::Expr::copy-returns-in_ok-boxed-in-Parenthesised t c =
    tree_parenthesised (form.Parenthesised c.in_ok-boxed-in-Parenthesised.field-0) c.in_ok-boxed-in-Parenthesised.field-0 refl ∙ ap parenthesised (c.in_ok-boxed-in-Parenthesised.ensures ∙ ap tree c.deref-in-Parenthesised.ensures) ∙ sym (tree_parenthesised c.args.self.now c.in-Parenthesised.a c.in-Parenthesised.is)

pub expr::Expr::copy-returns-in_ok-boxed-in-Is : goal.expr::Expr::copy-returns-in_ok-boxed-in-Is
expr::Expr::copy-returns-in_ok-boxed-in-Is t c =
    tree_is (form.Is c.in-Is.test c.in-Is.negative c.in_ok-boxed-in-Is.field-0) c.in-Is.test c.in-Is.negative c.in_ok-boxed-in-Is.field-0 refl ∙ ap (asks c.in-Is.test c.in-Is.negative) (c.in_ok-boxed-in-Is.ensures ∙ ap tree c.deref-in-Is.ensures) ∙ sym (tree_is c.args.self.now c.in-Is.test c.in-Is.negative c.in-Is.a c.in-Is.is)

pub expr::Expr::copy-returns-in_ok-boxed-in-Aggregate : goal.expr::Expr::copy-returns-in_ok-boxed-in-Aggregate
expr::Expr::copy-returns-in_ok-boxed-in-Aggregate t c =
    tree_aggregate (form.Aggregate c.in-Aggregate.function c.in_ok-boxed-in-Aggregate.field-0) c.in-Aggregate.function c.in_ok-boxed-in-Aggregate.field-0 refl ∙ ap (aggregate c.in-Aggregate.function) (c.in_ok-boxed-in-Aggregate.ensures ∙ ap tree c.deref-in-Aggregate.ensures) ∙ sym (tree_aggregate c.args.self.now c.in-Aggregate.function c.in-Aggregate.a c.in-Aggregate.is)

pub expr::Expr::copy-returns-in_ok-boxed-in-Compare-2 : goal.expr::Expr::copy-returns-in_ok-boxed-in-Compare-2
expr::Expr::copy-returns-in_ok-boxed-in-Compare-2 t c =
    tree_compare (form.Compare c.in-Compare.op c.in_ok-boxed-in-Compare.field-0 c.in_ok-boxed-in-Compare-2.field-0) c.in-Compare.op c.in_ok-boxed-in-Compare.field-0 c.in_ok-boxed-in-Compare-2.field-0 refl ∙ two (compare c.in-Compare.op) (c.in_ok-boxed-in-Compare.ensures ∙ ap tree c.deref.ensures) (c.in_ok-boxed-in-Compare-2.ensures ∙ ap tree c.deref-in-Compare.ensures) ∙ sym (tree_compare c.args.self.now c.in-Compare.op c.in-Compare.a c.in-Compare.b c.in-Compare.is)

pub expr::Expr::copy-returns-in_ok-boxed-in-Compute-2 : goal.expr::Expr::copy-returns-in_ok-boxed-in-Compute-2
expr::Expr::copy-returns-in_ok-boxed-in-Compute-2 t c =
    tree_compute (form.Compute c.in-Compute.op c.in_ok-boxed-in-Compute.field-0 c.in_ok-boxed-in-Compute-2.field-0) c.in-Compute.op c.in_ok-boxed-in-Compute.field-0 c.in_ok-boxed-in-Compute-2.field-0 refl ∙ two (compute c.in-Compute.op) (c.in_ok-boxed-in-Compute.ensures ∙ ap tree c.deref-in-Compute.ensures) (c.in_ok-boxed-in-Compute-2.ensures ∙ ap tree c.deref-in-Compute-2.ensures) ∙ sym (tree_compute c.args.self.now c.in-Compute.op c.in-Compute.a c.in-Compute.b c.in-Compute.is)

pub expr::Expr::copy-returns-in_ok-copied_parts-in-And : goal.expr::Expr::copy-returns-in_ok-copied_parts-in-And
expr::Expr::copy-returns-in_ok-copied_parts-in-And t c =
    tree_and (form.And c.in_ok-copied_parts-in-And.field-0) c.in_ok-copied_parts-in-And.field-0 refl ∙ ap (λ es. all_of (trees es)) (c.in_ok-copied_parts-in-And.ensures ∙ ap (map tree) c.deref-in-And.ensures.value) ∙ sym (tree_and c.args.self.now c.in-And.parts c.in-And.is)

pub expr::Expr::copy-returns-in_ok-copied_parts-in-Or : goal.expr::Expr::copy-returns-in_ok-copied_parts-in-Or
expr::Expr::copy-returns-in_ok-copied_parts-in-Or t c =
    tree_or (form.Or c.in_ok-copied_parts-in-Or.field-0) c.in_ok-copied_parts-in-Or.field-0 refl ∙ ap (λ es. some_of (trees es)) (c.in_ok-copied_parts-in-Or.ensures ∙ ap (map tree) c.deref-in-Or.ensures.value) ∙ sym (tree_or c.args.self.now c.in-Or.parts c.in-Or.is)

pub expr::Expr::copy-returns-in_ok-high-in-Between : goal.expr::Expr::copy-returns-in_ok-high-in-Between
expr::Expr::copy-returns-in_ok-high-in-Between t c =
    let x = c.in_ok-x-in-Between in
    let low = c.in_ok-low-in-Between in
    let high = c.in_ok-high-in-Between in
    let e = x.ensures ∙ ap tree c.deref-in-Between.ensures in
    let f = low.ensures ∙ ap tree c.deref-in-Between-2.ensures in
    let g = high.ensures ∙ ap tree c.deref-in-Between-3.ensures in
    tree_between (form.Between c.in-Between.negative x.x low.low high.high) c.in-Between.negative x.x low.low high.high refl ∙ three (λ s u v. between c.in-Between.negative s u v) e f g ∙ sym (tree_between c.args.self.now c.in-Between.negative c.in-Between.x c.in-Between.low c.in-Between.high c.in-Between.is)

pub expr::Expr::copy-returns-in_ok-copied_parts-in-In : goal.expr::Expr::copy-returns-in_ok-copied_parts-in-In
expr::Expr::copy-returns-in_ok-copied_parts-in-In t c =
    let x = c.in_ok-boxed-in-In in
    let parts = c.in_ok-copied_parts-in-In in
    let e = x.ensures ∙ ap tree c.deref-in-In.ensures in
    let f = parts.ensures ∙ ap (map tree) c.deref-in-In-2.ensures.value in
    tree_in (form.In c.in-In.negative x.field-0 parts.field-0) c.in-In.negative x.field-0 parts.field-0 refl ∙ two (λ s us. within c.in-In.negative s (trees us)) e f ∙ sym (tree_in c.args.self.now c.in-In.negative c.in-In.x c.in-In.parts c.in-In.is)
