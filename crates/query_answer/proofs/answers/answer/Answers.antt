use Rattle.std.proofs.Common.{map}
use Rattle.med_value.specs.Datum.{tuple}
use Rattle.query_answer.specs.Staging.{output_of}
use Rattle.query_answer.proofs.Finished.{answered, all_small, all_told}
use Rattle.query_answer.proofs.answers.answer.Goals as goal

pub returns-in-Err-clause-told : goal.returns-in-Err-clause-told
returns-in-Err-clause-told c = λ db are. all_told c.in-Err.fault c.args.select.now db (c.in-Err.ensures.told db c.args.select.now.cores.items are)

pub returns-in-Ok-finished-clause-answer : goal.returns-in-Ok-finished-clause-answer
returns-in-Ok-finished-clause-answer c = λ db are.
    answered c.args.select.now db c.as_slice.result.now (map output_of c.in-Ok.staged.items) (map tuple c.in-Ok-finished.out.items)
    c.as_slice.ensures.value (c.in-Ok.ensures.gives db c.args.select.now.cores.items are) c.in-Ok-finished.ensures

pub returns-in-Ok-finished-clause-small : goal.returns-in-Ok-finished-clause-small
returns-in-Ok-finished-clause-small c = λ db are. all_small c.args.select.now db (c.in-Ok.ensures.small db c.args.select.now.cores.items are)
