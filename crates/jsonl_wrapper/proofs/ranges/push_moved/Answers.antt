use Rattle.std.proofs.Common.{◌++◌, ◌∙◌, List, ap, sym}
use Rattle.jsonl_wrapper.specs.declared.lines.Span.{Span}
use Rattle.jsonl_wrapper.proofs.RangeLaws.{stays_at}
use Rattle.jsonl_wrapper.proofs.ranges.push_moved.Goals as goal

pub returns-then-from-to : goal.returns-then-from-to
returns-then-from-to c =
    c.in_ok-extend_from_slice.ensures.items
    ∙ ap (λ (ss : List Span). c.args.lines.now.items ++ ss) (sym (stays_at c.args.from c.args.to c.args.spans.now c.if-from-to.true c.requires))
