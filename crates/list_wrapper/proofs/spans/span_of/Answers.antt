use Rattle.std.proofs.Common.{List, map, sym, subst}
use Rattle.med_value.specs.Datum.{Datum, datum}
use Rattle.fdw_api.specs.Scan.{spec_of}
use Rattle.wrapper_parts.specs.Rising.{AreRising}
use Rattle.wrapper_parts.specs.Halves.{IsAround}
use Rattle.list_wrapper.specs.Scans.{numbered}
use Rattle.list_wrapper.proofs.RisingLists.{Admits, keys_are, spans_around}
use Rattle.list_wrapper.proofs.spans.span_of.Goals as goal

pub returns : goal.returns
returns c =
    let spec = spec_of c.args.spec.now in
    let params = map datum c.args.params.now in
    let range = c.range_around-range.result in
    let admits : Admits spec params range = λ k rest fits e. c.range_around-range.ensures k rest fits (rw (c.deref.ensures.value, c.deref-2.ensures.value) e) in
    let rows = c.args.rows.now.items in
    let first = c.places_of.result.first in
    let end = c.places_of.result.end in
    spans_around spec params (numbered 0 rows) range first end
    (subst (λ (keys : List Datum). AreRising keys) (sym (keys_are 0 rows)) c.requires) admits
    (subst (λ (keys : List Datum). IsAround keys range first end) (sym (keys_are 0 rows)) c.places_of.ensures)
