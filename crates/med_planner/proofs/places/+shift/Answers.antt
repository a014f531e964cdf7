use Rattle.std.proofs.Common.{map, refl, sym, ap, ◌∙◌}
use Rattle.tri_expr.specs.declared.expr.Expr.TheVariants as form
use Rattle.tri_expr.specs.Tree.{all_of, some_of, within, trees, tree}
use Rattle.tri_expr.proofs.Forms.{two, tree_and, tree_or, tree_in}
use Rattle.med_planner.specs.Places.{further, shifted}
use Rattle.med_planner.proofs.Reading.{trees_moved}
use Rattle.med_planner.proofs.places.+shift.Goals as goal

pub shifted-returns-in_ok-shifted_all-in-And : goal.shifted-returns-in_ok-shifted_all-in-And
shifted-returns-in_ok-shifted_all-in-And t c =
    let parts = c.in_ok-shifted_all-in-And in
    let old = map tree c.in-And.parts.items in
    tree_and (form.And parts.field-0) parts.field-0 refl
    ∙ ap (λ ts. all_of (trees ts)) (parts.ensures ∙ ap (λ es. map (shifted c.args.base) (map tree es)) c.deref-in-And.ensures.value)
    ∙ ap all_of (sym (trees_moved (further c.args.base) old))
    ∙ ap (shifted c.args.base) (sym (tree_and c.args.e.now c.in-And.parts c.in-And.is))

pub shifted-returns-in_ok-shifted_all-in-Or : goal.shifted-returns-in_ok-shifted_all-in-Or
shifted-returns-in_ok-shifted_all-in-Or t c =
    let parts = c.in_ok-shifted_all-in-Or in
    let old = map tree c.in-Or.parts.items in
    tree_or (form.Or parts.field-0) parts.field-0 refl
    ∙ ap (λ ts. some_of (trees ts)) (parts.ensures ∙ ap (λ es. map (shifted c.args.base) (map tree es)) c.deref-in-Or.ensures.value)
    ∙ ap some_of (sym (trees_moved (further c.args.base) old))
    ∙ ap (shifted c.args.base) (sym (tree_or c.args.e.now c.in-Or.parts c.in-Or.is))

pub shifted-returns-in_ok-shifted_all-in-In : goal.shifted-returns-in_ok-shifted_all-in-In
shifted-returns-in_ok-shifted_all-in-In t c =
    let x = c.in_ok-x-in-In in
    let parts = c.in_ok-shifted_all-in-In in
    let old = map tree c.in-In.parts.items in
    let e = x.ensures ∙ ap (λ s. shifted c.args.base (tree s)) c.deref-in-In.ensures in
    let f = parts.ensures ∙ ap (λ es. map (shifted c.args.base) (map tree es)) c.deref-in-In-2.ensures.value in
    tree_in (form.In c.in-In.negative x.x parts.field-0) c.in-In.negative x.x parts.field-0 refl
    ∙ two (λ s us. within c.in-In.negative s (trees us)) e f
    ∙ ap (within c.in-In.negative (shifted c.args.base (tree c.in-In.x.value))) (sym (trees_moved (further c.args.base) old))
    ∙ ap (shifted c.args.base) (sym (tree_in c.args.e.now c.in-In.negative c.in-In.x c.in-In.parts c.in-In.is))
