use Rattle.med_value.specs.Datum.{tuple}
use Rattle.query_answer.proofs.Runnings.{aggregate_more, total_more}
use Rattle.query_answer.proofs.running.add.Goals as goal

pub returns-in_ok-tally_row-in-Aggregate : goal.returns-in_ok-tally_row-in-Aggregate
returns-in_ok-tally_row-in-Aggregate c =
    rw c.in-Aggregate.is (aggregate_more c.in-Aggregate.function c.in-Aggregate.argument (tuple c.args.row.now) c.args.running.now c.tally_row.new.running c.in_ok-tally_row-in-Aggregate.ensures)

pub returns-in_ok-total_row-in-Total : goal.returns-in_ok-total_row-in-Total
returns-in_ok-total_row-in-Total c = rw c.in-Total.is (total_more c.in-Total.argument (tuple c.args.row.now) c.args.running.now c.total_row.new.running c.in_ok-total_row-in-Total.ensures)
