use Rattle.std.proofs.Common.{◌≡◌, ◌<◌, ◌∙◌, ℕ, List, ap, length, arith}
use Rattle.std.proofs.lemmas.Result.{IfOk-weaker}
use Rattle.jsonl_wrapper.specs.Fields.{reader_of}
use Rattle.jsonl_wrapper.specs.Lines.{line_at}
use Rattle.jsonl_wrapper.specs.Objects.{json_of, read_cell}
use Rattle.jsonl_wrapper.proofs.WholeLaws.{cell_there}
use Rattle.jsonl_wrapper.proofs.placed.cell_at.Goals as goal

pub returns : goal.returns
returns c =
    let t = c.args.table.now in
    let less : c.args.column < length t.fields.items = omega arith in
    let line : c.line_at.result.now ≡ line_at t.content.items c.index.result.now =
    c.line_at.ensures ∙ ap (λ (b : List ℕ). line_at b c.index.result.now) c.deref.ensures.value in
    IfOk-weaker c.cell.result _ _
    (λ v h. cell_there t c.args.at c.args.column c.index.result.now c.index-2.result.now _ c.requires c.index.ensures less c.index-2.ensures
    (h ∙ ap (λ (l : List ℕ). read_cell (json_of l) (reader_of c.index-2.result.now)) line))
    c.cell.ensures
