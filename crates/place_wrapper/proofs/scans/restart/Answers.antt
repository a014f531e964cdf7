use Rattle.std.proofs.Common.{sym, ◌∙◌}
use Rattle.place_wrapper.proofs.Options.{if_ok}
use Rattle.place_wrapper.proofs.Rises.{restarted}
use Rattle.place_wrapper.proofs.scans.restart.Goals as goal

pub returns : goal.returns
returns g c =
    let made = if_ok c.add_index.result _ (sym c.if-is_err.ensures.value) c.add_index.ensures.ok in
    let spans = rw c.deref.ensures.value at c.span_of-span.ensures.spans in
    restarted g.T.PlacedTable.form c.args.tables.now.items c.args.params c.args.scan.now c.add_index.new.scan c.span_of-span.result.first c.span_of-span.result.end made.1.0 made.1.1 made.1.2 spans
    (λ h. c.span_of-span.ensures.indexed (c.is_some.ensures ∙ h))
