use Rattle.std.proofs.Common.{◌&&◌, ◌∷◌, map, ap, ◌∙◌}
use Rattle.med_value.specs.Datum.{datum, Whole}
use Rattle.fdw_api.specs.Scan.{restriction_form, meets}
use Rattle.wrapper_parts.specs.Ranges.{has_key}
use Rattle.wrapper_parts.proofs.RangeLemmas.{alone}
use Rattle.wrapper_parts.proofs.tests_of_keys.after_answer.Goals as goal

pub returns-in-Exact : goal.returns-in-Exact
returns-in-Exact c k rest fits =
    let params = map datum c.args.params.now in
    let f = restriction_form c.args.restriction.now in
    rw (c.in-Exact.is) (c.narrowed.ensures k rest fits ∙ ap (λ b. has_key c.args.range k && b) (alone (meets params (Whole k ∷ rest) f)))
