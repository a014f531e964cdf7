use Rattle.std.proofs.Common.{◌≡◌, ◌∙◌, ap, length, rules}
use Rattle.list_wrapper.specs.Runs.{RowList}
use Rattle.list_wrapper.proofs.RunsOfRows.{total_is}
use Rattle.list_wrapper.proofs.held_rows.Rows.len.Goals as goal

pub returns : goal.returns
returns c =
    let runs = c.self.inside.runs.items in
    let many : c.len.result ≡ length runs = search rules in
    total_is runs c.deref.result.now c.len.result c.start_of.result c.deref.ensures.value many c.start_of.ensures ∙ ap (λ (v : RowList). length v.items) c.self.view_is
