use Rattle.std.proofs.Common.{◌≡◌, ◌∙◌, ap, map, sym}
use Rattle.std.proofs.lemmas.Result.{IfOk-weaker}
use Rattle.jsonl_wrapper.specs.Lines.{line_at}
use Rattle.jsonl_wrapper.specs.Fields.{reader_of}
use Rattle.jsonl_wrapper.specs.Objects.{cells_at}
use Rattle.jsonl_wrapper.specs.Tables.{readers_in}
use Rattle.jsonl_wrapper.proofs.WholeLaws.{line_there}
use Rattle.jsonl_wrapper.proofs.placed.row_at.Goals as goal

pub returns : goal.returns
returns c = IfOk-weaker c.row.result _ _
    (λ row h. let t = c.args.table.now in
    let line : c.line_at.result.now ≡ line_at t.content.items c.index.result.now = c.line_at.ensures ∙ ap (λ b. line_at b c.index.result.now) c.deref.ensures.value in
    h ∙ ap (λ fs. cells_at (map reader_of fs) c.line_at.result.now) c.deref-2.ensures.value
    ∙ ap (cells_at (readers_in t)) (line ∙ sym (line_there t.content.items t.lines.items c.args.at c.index.result.now c.requires c.index.ensures)))
    c.row.ensures
