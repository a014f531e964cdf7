use Rattle.std.proofs.Common.{◌≡◌, ℕ, List, [], map, ap, subst}
use Rattle.fdw_api.specs.Prelude.{restriction_form, params_fit, AllowsPromise, spec2_by}
use Rattle.fdw_api.specs.declared.scan.Restriction.{Restriction}
use Rattle.probe_wrapper.proofs.CallLemmas.{begun_is_open}
use Rattle.wrapper_tests.proofs.Wished.{wished_begins}
use Rattle.wrapper_tests.proofs.wishes.read_greatest.Goals as goal

pub begin2-requires : goal.begin2-requires
begin2-requires g c =
    let s = g.W.Wrapper.meaning c.args.source.now in
    let t = c.args.table.number in
    let a = c.in_ok-agreement.agreement in
    let w : c.deref.result.now ≡ c.in_ok-wanted.wanted.items = c.deref.ensures.value in
    let o : c.deref-2.result.now ≡ c.in_ok-offered.offered.items = c.deref-2.ensures.value in
    wished_begins s t record { base = record { wanted = c.in_ok-wanted.wanted; offered = c.in_ok-offered.offered; agreement = a.base }; wish = c.in_ok-wish.wish; ordered = a.ordered; limited = a.limited }
    (λ kinds. ap (λ (l : List Restriction). params_fit kinds (map restriction_form l) []) c.in_ok-offered.ensures.items)
    (subst (λ (x : List ℕ). AllowsPromise s t (spec2_by x (map restriction_form c.in_ok-offered.offered.items) c.in_ok-wish.wish a)) w (subst (λ (x : List Restriction). AllowsPromise s t (spec2_by c.deref.result.now (map restriction_form x) c.in_ok-wish.wish a)) o c.in_ok-agreement.ensures.ok))
    c.in_ok-agreement.ensures.fair

pub take_four-taken-requires : goal.take_four-taken-requires
take_four-taken-requires g c = begun_is_open _ _ _ _ _ _ c.in_ok-ticket.ensures.ok
