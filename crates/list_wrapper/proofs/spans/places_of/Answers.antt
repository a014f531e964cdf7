use Rattle.std.proofs.Common.{◌≡◌, false, FitsSigned, w64, rules}
use Rattle.std.proofs.lemmas.Int.{to_z-of_z}
use Rattle.list_wrapper.specs.Scans.{keys_of}
use Rattle.wrapper_parts.proofs.Halving.{around_by, around_none}
use Rattle.list_wrapper.proofs.spans.places_of.Goals as goal

pub returns : goal.returns
returns c =
    let cells = keys_of c.args.rows.now.items in
    let low : FitsSigned w64 c.args.range.low = search rules in
    let high : FitsSigned w64 c.args.range.high = search rules in
    around_by cells c.args.range c.first_at_least-first.result c.first_over-end.result
    (rw (to_z-of_z w64 c.args.range.low low) at c.first_at_least-first.ensures) (rw (to_z-of_z w64 c.args.range.high high) at c.first_over-end.ensures)

pub returns-then-not-range : goal.returns-then-not-range
returns-then-not-range c =
    let closed : c.args.range.open ≡ false = search rules in
    around_none (keys_of c.args.rows.now.items) c.args.range closed
