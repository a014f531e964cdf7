use Rattle.std.proofs.Common.{◌≡◌, ◌++◌, ◌∙◌, List, take, drop, ap, sym, rules}
use Rattle.std.proofs.lemmas.List.{take-append-drop}
use Rattle.jsonl_wrapper.specs.declared.lines.Span.{Span}
use Rattle.jsonl_wrapper.proofs.RangeLaws.{stays_at}
use Rattle.jsonl_wrapper.proofs.exchange.move_behind.Goals as goal

pub returns-else-from-to : goal.returns-else-from-to
returns-else-from-to c =
    let at = c.args.at in
    let spans = c.args.spans.now.items in
    let same : c.args.from ≡ c.args.to = search rules in
    sym (take-append-drop at spans)
    ∙ ap (λ (ss : List Span). take at spans ++ ss) (sym (stays_at c.args.from c.args.to (drop at spans) same c.requires.movable))
