use Rattle.std.proofs.Common.{map, rules, ◌∙◌}
use Rattle.std.proofs.lemmas.List.{length-map}
use Rattle.query_answer.specs.Staging.{output_of}
use Rattle.query_answer.proofs.Passing.{begins_all}
use Rattle.query_answer.proofs.waiting.Waiting.trim.Goals as goal

pub invariant_of-self-then-is_safe : goal.invariant_of-self-then-is_safe
invariant_of-self-then-is_safe c =
    let w = c.args.self.now in
    let out = c.in_ok-self-in-Some.field-0.items in
    record {
      in_front = λ some. begins_all w.select.now c.in-Some.wanted (map output_of out) c.in-Some.ensures (length-map out output_of ∙ (search rules)) c.in_ok-self-in-Some.ensures.sorted;
      has_no_fault = λ some. c.is_safe.ensures c.if-is_safe.true;
    }
