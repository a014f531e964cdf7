use Rattle.std.proofs.Common.{◌∷◌, map, ◌∙◌}
use Rattle.fdw_api.specs.Scan.{restriction_form, meets}
use Rattle.med_value.specs.Datum.{datum, Whole}
use Rattle.wrapper_parts.specs.Ranges.{has_key}
use Rattle.wrapper_parts.proofs.RangeLemmas.{both_true}
use Rattle.wrapper_parts.proofs.rising.narrowed_by.Goals as goal

pub returns-in-Exact : goal.returns-in-Exact
returns-in-Exact c = λ k rest fits has meet.
    let params = map datum c.args.params.now in
    let f = restriction_form c.args.restriction.now in
    c.narrowed.ensures k rest fits ∙ both_true (has_key c.args.range k) (meets params (Whole k ∷ rest) f) has (rw c.in-Exact.is at meet)
