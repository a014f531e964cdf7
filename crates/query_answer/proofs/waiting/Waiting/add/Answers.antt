use Rattle.std.proofs.Common.{map, subst}
use Rattle.med_value.specs.Datum.{tuple}
use Rattle.query_answer.specs.Ordering.{StandsIn}
use Rattle.query_answer.specs.Staging.{output_of, outputs_by}
use Rattle.query_answer.proofs.Passing.{stands_passed, stands_trimmed}
use Rattle.query_answer.proofs.waiting.Waiting.add.Goals as goal

pub returns-in-Ok-true-clause-stands : goal.returns-in-Ok-true-clause-stands
returns-in-Ok-true-clause-stands c =
    let w = c.args.self.now in
    λ all k. stands_passed w.select.now all (map output_of w.held.items) (outputs_by w.core.now (tuple c.args.row.now)) (c.in-Ok-true.ensures.stands c.in-Ok-true.field-0-test) k

pub returns-in-Ok-trim-clause-stands : goal.returns-in-Ok-trim-clause-stands
returns-in-Ok-trim-clause-stands c =
    let w = c.args.self.now in
    let held = c.hold.new.self in
    let out = map output_of c.trim.new.self.held.items in
    λ all k. stands_trimmed w.select.now all (map output_of w.held.items) (map output_of held.held.items) (outputs_by w.core.now (tuple c.args.row.now)) out
    c.in-Ok.ensures.held (subst (λ s. StandsIn s.now (map output_of held.held.items) out) c.hold.ensures.select c.in-Ok-trim.ensures.stands) k
