use Rattle.std.proofs.Common.{◌≡◌, ◌&&◌, ◌∷◌, ap, ◌∙◌, map, rules}
use Rattle.fdw_api.specs.Scan.{restriction_form, meets_exact}
use Rattle.med_value.specs.Datum.{datum, Whole}
use Rattle.wrapper_parts.specs.Ranges.{has_key}
use Rattle.wrapper_parts.proofs.RangeLemmas.{keys_split, meets_split}
use Rattle.wrapper_parts.proofs.tests_of_keys.range_of.Goals as goal

pub after_answer-range-requires : goal.after_answer-range-requires
after_answer-range-requires c =
    let r = c.in-Some.restriction.now in
    let fs = c.in-Some.further.now in
    let g = c.in-Some-split_first.answer.now in
    let gs = c.in-Some-split_first.others.now in
    let os : c.loop-restriction.offered.now ≡ r ∷ fs = search rules in
    let all : c.loop-restriction.answers.now ≡ g ∷ gs = search rules in
    (keys_split (map datum c.args.params.now) (restriction_form r) (map restriction_form fs) g gs (rw (os, all) at c.loop-restriction.invariant.keys)).0

pub loop-restriction-preserved : goal.loop-restriction-preserved
loop-restriction-preserved c =
    let r = c.in-Some.restriction.now in
    let fs = c.in-Some.further.now in
    let g = c.in-Some-split_first.answer.now in
    let gs = c.in-Some-split_first.others.now in
    let params = map datum c.args.params.now in
    let os : c.loop-restriction.offered.now ≡ r ∷ fs = search rules in
    let all : c.loop-restriction.answers.now ≡ g ∷ gs = search rules in
    record {
      keys = (keys_split params (restriction_form r) (map restriction_form fs) g gs (rw (os, all) at c.loop-restriction.invariant.keys)).1;
      same = λ k rest fits.
          ap (λ b. b && meets_exact (map restriction_form fs) gs params (Whole k ∷ rest)) (c.after_answer-range.ensures k rest fits)
          ∙ meets_split params (Whole k ∷ rest) (restriction_form r) (map restriction_form fs) g gs (has_key c.loop-restriction.range k)
          ∙ (rw (os, all) at (c.loop-restriction.invariant.same k rest fits));
    }
