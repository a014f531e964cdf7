use Rattle.std.proofs.Common.{◌∙◌, ap, map, take}
use Rattle.med_value.specs.Datum.{datum}
use Rattle.query_answer.proofs.Cells.{cells_below}
use Rattle.query_answer.proofs.staged.Staged.shown.Goals as goal

pub returns : goal.returns
returns c = let s = c.args.self.now in ap (λ vs. map datum (take s.width vs)) c.deref.ensures.value ∙ cells_below s.width s.cells.items
