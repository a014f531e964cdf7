use Rattle.std.proofs.Common.{◌≡◌, ◌<◌, length, ◌∙◌, rules}
use Rattle.list_wrapper.proofs.RunsOfRows.{empty_gone}
use Rattle.std.proofs.lemmas.List.{nil_from_length}
use Rattle.list_wrapper.proofs.runs.drop_empty_runs.Goals as goal

pub loop-at-preserved-then-is_empty : goal.loop-at-preserved-then-is_empty
loop-at-preserved-then-is_empty c =
    let runs = c.loop-at.runs.items in
    let x = c.index.result.now in
    let lt : c.loop-at.at < length runs = search rules in
    let none : length x.rows.items ≡ 0 = search rules in
    empty_gone runs c.remove-run.new.self.items c.loop-at.at x lt c.index.ensures (nil_from_length x.rows.items none) c.remove-run.ensures.by_index.2 ∙ c.loop-at.invariant
