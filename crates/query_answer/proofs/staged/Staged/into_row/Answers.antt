use Rattle.std.proofs.Common.{◌∙◌, ap, map}
use Rattle.med_value.specs.Datum.{datum}
use Rattle.query_answer.proofs.Cells.{cells_below}
use Rattle.query_answer.proofs.staged.Staged.into_row.Goals as goal

pub returns : goal.returns
returns c = let s = c.args.self in ap (map datum) c.truncate.ensures.items ∙ cells_below s.width s.cells.items
