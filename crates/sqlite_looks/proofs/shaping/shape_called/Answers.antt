use Rattle.std.proofs.Common.{◌≡◌, ◌∙◌, Some, true, IfOk, sym}
use Rattle.std.specs.Prelude.{slice_get, IfSome}
use Rattle.sqlite_looks.specs.Found.{every_column}
use Rattle.sqlite_looks.specs.Shapes.{IsShapeOf, shows_pages}
use Rattle.sqlite_looks.proofs.Finding.{at_one}
use Rattle.sqlite_looks.proofs.shaping.shape_called.Goals as goal

pub returns-in-Some-clause-looked : goal.returns-in-Some-clause-looked
returns-in-Some-clause-looked c at table named is =
    at_one (λ k. slice_get c.args.schema.now.tables k ≡ Some table
    → IfOk c.whole_shape.result (λ found. IfSome found (IsShapeOf c.args.schema.now k table (every_column table))))
    (sym c.table_called.ensures ∙ c.in-Some.is) named (λ own. c.whole_shape.ensures.looked table own) is

pub returns-in-Some-clause-page : goal.returns-in-Some-clause-page
returns-in-Some-clause-page c at table named is =
    at_one (λ k. slice_get c.args.schema.now.tables k ≡ Some table
    → IfOk c.whole_shape.result (λ found. IfSome found (λ shape. shows_pages c.args.schema.now table (every_column table) shape ≡ true)))
    (sym c.table_called.ensures ∙ c.in-Some.is) named (λ own. c.whole_shape.ensures.page table own) is
