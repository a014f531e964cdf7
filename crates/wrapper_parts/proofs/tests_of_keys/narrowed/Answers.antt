use Rattle.std.proofs.Common.{◌&&◌, ap, ◌∙◌, sym, map}
use Rattle.fdw_api.specs.Scan.{restriction_form}
use Rattle.med_value.specs.Datum.{datum}
use Rattle.wrapper_parts.specs.Ranges.{has_key}
use Rattle.wrapper_parts.proofs.RangeLemmas.{reads_key}
use Rattle.wrapper_parts.proofs.tests_of_keys.narrowed.Goals as goal

pub returns : goal.returns
returns c k rest fits =
    c.tested.ensures k fits ∙ ap (λ b. has_key c.args.range k && b) (sym (reads_key (map datum c.args.params.now) (restriction_form c.args.restriction.now) k rest c.requires))
