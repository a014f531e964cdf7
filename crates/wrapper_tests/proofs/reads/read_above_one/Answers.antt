use Rattle.std.proofs.Common.{◌≡◌, ℕ, List, [], map, ap, subst, rules}
use Rattle.fdw_api.specs.Prelude.{spec_by, restriction_form, params_fit, Allows}
use Rattle.fdw_api.specs.declared.scan.Restriction.{Restriction}
use Rattle.probe_wrapper.proofs.CallLemmas.{begun_is_open}
use Rattle.wrapper_tests.proofs.CallLemmas.{planned_fits}
use Rattle.wrapper_tests.proofs.reads.read_above_one.Goals as goal

pub begin-requires : goal.begin-requires
begin-requires g c =
    let s = g.W.Wrapper.meaning c.args.source.now in
    let t = c.args.table.number in
    let a = c.in_ok-agreement.agreement in
    let w : c.deref.result.now ≡ c.in_ok-wanted.wanted.items = search rules in
    let o : c.deref-2.result.now ≡ c.in_ok-offered.offered.items = search rules in
    planned_fits s t record { wanted = c.in_ok-wanted.wanted; offered = c.in_ok-offered.offered; agreement = a } (λ kinds. ap (λ (l : List Restriction). params_fit kinds (map restriction_form l) []) c.in_ok-offered.ensures.items)
    (subst (λ (x : List ℕ). Allows s t (spec_by x (map restriction_form c.in_ok-offered.offered.items) a)) w (subst (λ (x : List Restriction). Allows s t (spec_by c.deref.result.now (map restriction_form x) a)) o c.in_ok-agreement.ensures.ok))

pub take_four-taken-requires : goal.take_four-taken-requires
take_four-taken-requires g c = begun_is_open _ _ _ _ _ _ c.in_ok-ticket.ensures.ok
