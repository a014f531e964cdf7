use Rattle.std.proofs.Common.{rules, ◌≡◌, ◌∙◌, Some, true, IfOk, subst}
use Rattle.std.specs.Prelude.{slice_get, IfSome}
use Rattle.sqlite_looks.specs.Found.{every_column}
use Rattle.sqlite_looks.specs.Shapes.{IsShapeOf, shows_pages}
use Rattle.sqlite_looks.proofs.Finding.{at_one}
use Rattle.sqlite_looks.proofs.shaping.whole_shape.Goals as goal

pub returns-clause-looked : goal.returns-clause-looked
returns-clause-looked c table is =
    let own : slice_get c.args.schema.now.tables c.args.at ≡ Some c.in-Some.table.now = search rules in
    let h = subst (λ wanted. IfOk c.shape_at.result (λ found. IfSome found
    (IsShapeOf c.args.schema.now c.args.at c.in-Some.table.now wanted)))
    (c.deref.ensures.value ∙ c.in_ok-wanted.ensures) (c.shape_at.ensures.looked c.in-Some.table.now own) in
    at_one (λ t. IfOk c.shape_at.result (λ found. IfSome found (IsShapeOf c.args.schema.now c.args.at t (every_column t)))) own is h

pub returns-clause-page : goal.returns-clause-page
returns-clause-page c table is =
    let own : slice_get c.args.schema.now.tables c.args.at ≡ Some c.in-Some.table.now = search rules in
    let h = subst (λ wanted. IfOk c.shape_at.result (λ found. IfSome found
    (λ shape. shows_pages c.args.schema.now c.in-Some.table.now wanted shape ≡ true)))
    (c.deref.ensures.value ∙ c.in_ok-wanted.ensures) (c.shape_at.ensures.page c.in-Some.table.now own) in
    at_one (λ t. IfOk c.shape_at.result (λ found. IfSome found (λ shape. shows_pages c.args.schema.now t (every_column t) shape ≡ true)))
    own is h
