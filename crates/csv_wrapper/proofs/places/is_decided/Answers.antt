use Rattle.std.proofs.Common.{◌≡◌, Some, List, map, length, slice_get, ap, sym, ◌∙◌, rules}
use Rattle.std.proofs.lemmas.List.{length-map}
use Rattle.fdw_api.specs.Scan.{restriction_form}
use Rattle.fdw_api.specs.declared.scan.Agree.{Agree}
use Rattle.fdw_api.specs.declared.scan.Agree.TheVariants.{Exact}
use Rattle.csv_wrapper.proofs.Placing.{decided, sole}
use Rattle.csv_wrapper.proofs.places.is_decided.Goals as goal

pub returns-in-Some-Exact : goal.returns-in-Some-Exact
returns-in-Some-Exact c one params cells fields s is has =
    let fs = map restriction_form c.args.spec.now.offered.items in
    let m : length c.args.spec.now.offered.items ≡ c.len.result = search rules in
    let n : length fs ≡ c.len.result = length-map c.args.spec.now.offered.items restriction_form ∙ m in
    let there : slice_get c.deref.result.now 0 ≡ Some Exact = search rules in
    let e : slice_get c.args.spec.now.agreement.answers.items 0 ≡ Some Exact = sym (ap (λ (l : List Agree). slice_get l 0) c.deref.ensures.value) ∙ there in
    decided fs c.args.spec.now.agreement.answers.items params cells fields s (n ∙ sole c.len.result one) e is has
