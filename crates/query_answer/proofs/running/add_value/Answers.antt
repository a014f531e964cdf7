use Rattle.std.proofs.Common.{rules}
use Rattle.med_value.specs.Datum.{datum}
use Rattle.query_answer.proofs.Runnings.{with_missing, with_value}
use Rattle.query_answer.proofs.running.add_value.Goals as goal

pub returns-then-is_missing : goal.returns-then-is_missing
returns-then-is_missing c = λ vs t. with_missing c.args.function vs (datum c.args.value.now) c.args.tally.now (search rules) t

pub returns-in_ok-tally : goal.returns-in_ok-tally
returns-in_ok-tally c = λ vs t. with_value c.args.function vs (datum c.args.value.now) c.args.tally.now _ (search rules) (search rules) (search rules) (search rules) (search rules) t

pub returns-else-is_better : goal.returns-else-is_better
returns-else-is_better c = λ vs t. with_value c.args.function vs (datum c.args.value.now) c.args.tally.now _ (search rules) (search rules) (search rules) (search rules) (search rules) t
