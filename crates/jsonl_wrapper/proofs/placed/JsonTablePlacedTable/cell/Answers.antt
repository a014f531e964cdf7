use Rattle.std.proofs.Common.{◌<◌, ◌∙◌, ℕ, ap, subst}
use Rattle.std.proofs.lemmas.Result.{IfOk-weaker}
use Rattle.med_value.specs.Datum.{Tuple, cell}
use Rattle.jsonl_wrapper.specs.Tables.{readers_in}
use Rattle.jsonl_wrapper.proofs.FormatLaws.{rows_length}
use Rattle.jsonl_wrapper.proofs.WholeLaws.{cells_are}
use Rattle.jsonl_wrapper.proofs.placed.JsonTablePlacedTable.cell.Goals as goal

pub cell_at-requires : goal.cell_at-requires
cell_at-requires c =
    let t = c.args.self.now in
    subst (λ (n : ℕ). c.args.at < n) (rows_length (readers_in t) 0 t.content.items t.lines.items) c.requires

pub returns : goal.returns
returns c =
    let t = c.args.self.now in
    IfOk-weaker c.cell_at.result _ _
    (λ v h r is. h ∙ ap (λ (cells : Tuple). cell cells c.args.column) (cells_are t c.args.at r is))
    c.cell_at.ensures
