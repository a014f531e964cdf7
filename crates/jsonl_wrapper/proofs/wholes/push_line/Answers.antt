use Rattle.std.proofs.Common.{◌++◌, ◌∙◌, ap, map}
use Rattle.std.proofs.lemmas.Result.{on_ok_weaker}
use Rattle.med_value.specs.Datum.{Tuple}
use Rattle.jsonl_wrapper.specs.Fields.{reader_of}
use Rattle.jsonl_wrapper.specs.Wholes.{whole_is}
use Rattle.jsonl_wrapper.proofs.NoteLaws.{whole_line}
use Rattle.jsonl_wrapper.proofs.wholes.push_line.Goals as goal

pub returns-in-Ok : goal.returns-in-Ok
returns-in-Ok c =
    let got = c.in-Ok.ensures.ok in
    let whole = whole_line (map reader_of c.args.fields.now) c.args.line.now got.0 c.deref.result.now got.1
    (c.deref.ensures.value ∙ got.2.marks) in
    on_ok_weaker c.push_marks.result
    (λ is. is ∙ ap (λ (t : Tuple). map whole_is c.args.wholes.now.items ++ t) whole) c.push_marks.ensures
