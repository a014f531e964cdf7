use Rattle.std.proofs.Common.{◌∙◌, ap, map, drop}
use Rattle.med_value.specs.Datum.{datum}
use Rattle.query_answer.proofs.Cells.{cells_from, last_cells}
use Rattle.query_answer.proofs.staged.Staged.keys.Goals as goal

pub returns : goal.returns
returns c = let s = c.args.self.now in ap (map datum) (last_cells s.width c.deref.result.now) ∙ ap (λ vs. map datum (drop s.width vs)) c.deref.ensures.value ∙ cells_from s.width s.cells.items
