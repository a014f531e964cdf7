use Rattle.std.proofs.Common.{Option, map, subst}
use Rattle.med_value.specs.Datum.{datum}
use Rattle.fdw_api.specs.Scan.{spec_of}
use Rattle.place_wrapper.specs.Boxes.{Spans}
use Rattle.place_wrapper.proofs.spans.span_of.Goals as goal

pub returns-clause-spans : goal.returns-clause-spans
returns-clause-spans g c =
    subst (λ (o : Option g.row.T.Denot). Spans g.T.PlacedTable.form o (spec_of c.args.spec.now) (map datum c.args.params.now) c.rising_span.result.first c.rising_span.result.end)
    c.in-Some.ensures c.rising_span.ensures
