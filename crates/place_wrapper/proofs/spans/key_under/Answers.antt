use Rattle.std.proofs.Common.{ap, ◌∙◌, w64}
use Rattle.std.proofs.lemmas.Int.{to_z-of_z}
use Rattle.wrapper_parts.specs.Halves.{is_under}
use Rattle.place_wrapper.proofs.Rises.{cell_read}
use Rattle.place_wrapper.proofs.spans.key_under.Goals as goal

pub returns : goal.returns
returns g c =
    let read = cell_read g.T.PlacedTable.form c.args.table.now c.args.at _ c.requires c.in_ok-cell.ensures in
    rw (to_z-of_z w64 c.args.key c.ranges.key) at c.is_under.ensures ∙ ap (is_under c.args.key) read
