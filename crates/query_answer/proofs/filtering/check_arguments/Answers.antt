use Rattle.std.proofs.Common.{[], ◌∷◌, arith}
use Rattle.med_value.specs.Datum.{tuple}
use Rattle.query_answer.proofs.Evaluated.{part_quiet, part_tells}
use Rattle.query_answer.proofs.filtering.check_arguments.Goals as goal

pub loop-argument-preserved : goal.loop-argument-preserved
loop-argument-preserved c = part_quiet [] c.args.arguments.now (tuple c.args.row.now ∷ []) c.loop-argument.argument-index c.argument-item.result (omega arith) c.argument-item.is c.in-Ok.ensures.no_fault c.loop-argument.invariant

pub returns-in-Err-clause-told : goal.returns-in-Err-clause-told
returns-in-Err-clause-told c = part_tells c.in-Err.fault [] c.args.arguments.now (tuple c.args.row.now ∷ []) c.loop-argument.argument-index c.argument-item.result (omega arith) c.argument-item.is c.in-Err.ensures.told
