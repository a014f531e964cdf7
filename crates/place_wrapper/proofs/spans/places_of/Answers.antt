use Rattle.std.proofs.Common.{◌≡◌, false, FitsSigned, w64, rules}
use Rattle.std.proofs.lemmas.Int.{to_z-of_z}
use Rattle.wrapper_parts.specs.Scans.{column_cells}
use Rattle.wrapper_parts.proofs.Halving.{around_by, around_none}
use Rattle.place_wrapper.proofs.spans.places_of.Goals as goal

pub returns : goal.returns
returns g c =
    let cells = column_cells 0 (g.T.PlacedTable.form.rows c.args.table.now) in
    let low : FitsSigned w64 c.args.range.low = search rules in
    let high : FitsSigned w64 c.args.range.high = search rules in
    around_by cells c.args.range c.in_ok-first.first c.in_ok-end.end
    (rw (to_z-of_z w64 c.args.range.low low) at c.in_ok-first.ensures) (rw (to_z-of_z w64 c.args.range.high high) at c.in_ok-end.ensures)

pub returns-then-not-range : goal.returns-then-not-range
returns-then-not-range g c =
    let closed : c.args.range.open ≡ false = search rules in
    around_none (column_cells 0 (g.T.PlacedTable.form.rows c.args.table.now)) c.args.range closed
