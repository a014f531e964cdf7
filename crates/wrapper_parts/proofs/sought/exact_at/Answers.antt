use Rattle.std.proofs.Common.{◌≡◌, Some, List, slice_get, option_map, refl, ap, sym, ◌∙◌, rules}
use Rattle.std.proofs.lemmas.Option.{slice_get-map, slice_get_read}
use Rattle.fdw_api.specs.Scan.{restriction_form, spec_of}
use Rattle.fdw_api.specs.declared.scan.Agree.{Agree}
use Rattle.fdw_api.specs.declared.scan.Agree.TheVariants.{Exact}
use Rattle.fdw_api.specs.declared.scan.Restriction.{Restriction}
use Rattle.wrapper_parts.proofs.Leading.{some_leads}
use Rattle.wrapper_parts.proofs.sought.exact_at.Goals as goal

pub returns-in-Some-Exact : goal.returns-in-Some-Exact
returns-in-Some-Exact c =
    let spec = c.args.spec.now in
    let here : slice_get c.deref.result.now c.args.at ≡ Some c.in-Some.restriction.now = slice_get_read _ _ _ _ refl c.in-Some.ensures.lookup.3.0 c.in-Some.ensures.lookup.1 in
    let answered : c.in-Some-Exact.field-0.now ≡ Exact = search rules in
    let there : slice_get c.deref-2.result.now c.args.at ≡ Some Exact = slice_get_read _ _ _ _ refl c.in-Some-Exact.ensures.lookup.3.0 c.in-Some-Exact.ensures.lookup.1 ∙ ap (λ (a : Agree). Some a) answered in
    let is : slice_get spec.offered.items c.args.at ≡ Some c.in-Some.restriction.now = sym (ap (λ (l : List Restriction). slice_get l c.args.at) c.deref.ensures.value) ∙ here in
    let exact : slice_get spec.agreement.answers.items c.args.at ≡ Some Exact = sym (ap (λ (l : List Agree). slice_get l c.args.at) c.deref-2.ensures.value) ∙ there in
    some_leads (spec_of spec) c.args.at (restriction_form c.in-Some.restriction.now) c.sought_by.result
    (slice_get-map restriction_form spec.offered.items c.args.at ∙ ap (option_map restriction_form) is) exact c.sought_by.ensures
