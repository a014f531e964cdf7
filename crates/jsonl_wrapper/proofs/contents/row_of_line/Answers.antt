use Rattle.std.proofs.Common.{◌∙◌, map}
use Rattle.std.proofs.lemmas.Result.{IfOk-weaker}
use Rattle.jsonl_wrapper.specs.Fields.{reader_of}
use Rattle.jsonl_wrapper.proofs.NoteLaws.{row_line}
use Rattle.jsonl_wrapper.proofs.contents.row_of_line.Goals as goal

pub returns-in-Ok : goal.returns-in-Ok
returns-in-Ok c =
    let got = c.in-Ok.ensures.ok in
    IfOk-weaker c.noted_row.result _ _
    (λ row h. h.1 ∙ row_line (map reader_of c.args.fields.now) c.args.line.now got.0 _ got.1 (got.2.cells h.0)) c.noted_row.ensures
