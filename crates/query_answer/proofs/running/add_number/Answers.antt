use Rattle.std.proofs.Common.{rules}
use Rattle.med_value.specs.Datum.{datum}
use Rattle.tri_expr.specs.declared.expr.SetFunction.TheVariants.{Sum}
use Rattle.query_answer.proofs.Runnings.{with_missing, with_value}
use Rattle.query_answer.proofs.running.add_number.Goals as goal

pub returns-then-is_missing : goal.returns-then-is_missing
returns-then-is_missing c = λ vs t. with_missing Sum vs (datum c.args.value.now) c.args.tally.now (search rules) t

pub returns : goal.returns
returns c = λ vs t. with_value Sum vs (datum c.args.value.now) c.args.tally.now _ (search rules) (search rules) (search rules) (search rules) (search rules) t
