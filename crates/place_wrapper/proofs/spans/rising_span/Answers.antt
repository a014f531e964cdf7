use Rattle.std.proofs.Common.{map}
use Rattle.med_value.specs.Datum.{datum}
use Rattle.fdw_api.specs.Scan.{spec_of}
use Rattle.place_wrapper.proofs.Rises.{Admits, spans_around}
use Rattle.place_wrapper.proofs.spans.rising_span.Goals as goal

pub returns-in-Ok : goal.returns-in-Ok
returns-in-Ok g c =
    let spec = spec_of c.args.spec.now in
    let params = map datum c.args.params.now in
    let range = c.range_around-range.result in
    let admits : Admits spec params range = λ k rest fits e. c.range_around-range.ensures k rest fits (rw (c.deref.ensures.value, c.deref-2.ensures.value) e) in
    spans_around g.T.PlacedTable.form c.args.table.now spec params range c.in-Ok.span.first c.in-Ok.span.end c.requires admits c.in-Ok.ensures
