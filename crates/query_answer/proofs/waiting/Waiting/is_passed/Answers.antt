use Rattle.std.proofs.Common.{rules}
use Rattle.med_value.specs.Datum.{tuple}
use Rattle.query_answer.proofs.Passing.{passed_row}
use Rattle.query_answer.proofs.waiting.Waiting.is_passed.Goals as goal

pub returns-in-Ok-true-clause-stands : goal.returns-in-Ok-true-clause-stands
returns-in-Ok-true-clause-stands c =
    let w = c.args.self.now in
    λ e. passed_row c.key_order_is_total.ensures w.select.now w.core.now w.held.items w.front (tuple c.args.row.now) c.index.result.now c.as_slice-in-Ok-true.result.now c.as_slice-in-Ok-true-2.result.now c.keys.result.now
    c.requires (w.in_front c.requires) (search rules) c.index.ensures c.as_slice-in-Ok-true.ensures.value c.as_slice-in-Ok-true-2.ensures.value c.keys.ensures (c.is_behind.ensures e)
