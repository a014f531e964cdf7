use Rattle.std.proofs.Common.{◌≡◌, ◌++◌, ◌∷◌, [], List, arith, rules, ap, ◌∙◌, sym, map, take}
use Rattle.std.proofs.lemmas.List.{map-append}
use Rattle.fdw_api.specs.declared.scan.Agree.{Agree}
use Rattle.wrapper_parts.specs.Ranges.{answer_of}
use Rattle.fdw_api.specs.Scan.{restriction_form}
use Rattle.wrapper_parts.proofs.RangeLemmas.{one_more, taken_more, as_many}
use Rattle.wrapper_parts.proofs.tests_of_keys.answers_for.Goals as goal

pub loop-restriction-preserved : goal.loop-restriction-preserved
loop-restriction-preserved c =
    let i = c.loop-restriction.restriction-index in
    let r = c.restriction-item.result in
    let all = c.args.offered.now in
    let inv = c.loop-restriction.invariant in
    let pushed : c.push.new.self.items ≡ c.loop-restriction.answers.items ++ c.answer_for.result ∷ [] = search rules in
    let more = taken_more all i r (omega arith) c.restriction-item.is in
    let many = as_many all i (omega arith) in
    record {
      allowed = rw (more, pushed) (one_more (map restriction_form (take i all)) c.loop-restriction.answers.items (restriction_form r) c.answer_for.result (omega (arith, many, inv.each)) inv.allowed c.answer_for.ensures.allowed);
      exact =
          pushed ∙ ap (λ (xs : List Agree). xs ++ c.answer_for.result ∷ []) inv.exact ∙ ap (λ (a : Agree). map answer_of (map restriction_form (take i all)) ++ a ∷ []) c.answer_for.ensures.exact
          ∙ sym (map-append answer_of (map restriction_form (take i all)) (restriction_form r ∷ [])) ∙ sym (ap (map answer_of) more);
      each = search rules;
    }
