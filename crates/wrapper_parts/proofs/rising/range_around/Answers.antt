use Rattle.std.proofs.Common.{◌≡◌, ◌∷◌, map, rules}
use Rattle.fdw_api.specs.Scan.{restriction_form}
use Rattle.med_value.specs.Datum.{datum, Whole}
use Rattle.wrapper_parts.proofs.RangeLemmas.{exact_split}
use Rattle.wrapper_parts.proofs.rising.range_around.Goals as goal

pub loop-restriction-preserved : goal.loop-restriction-preserved
loop-restriction-preserved c = λ k rest fits all.
    let r = c.in-Some.restriction.now in
    let fs = c.in-Some.further.now in
    let g = c.in-Some-split_first.answer.now in
    let gs = c.in-Some-split_first.others.now in
    let params = map datum c.args.params.now in
    let os : c.loop-restriction.offered.now ≡ r ∷ fs = search rules in
    let answers : c.loop-restriction.answers.now ≡ g ∷ gs = search rules in
    let w = c.loop-restriction.invariant k rest fits all in
    let s = exact_split params (Whole k ∷ rest) (restriction_form r) (map restriction_form fs) g gs (rw (os, answers) at w.1) in
    (c.narrowed_by-range.ensures k rest fits w.0 s.0, s.1)
