use Rattle.std.proofs.Common.{◌≡◌, ℕ, List, map, sym, ◌∙◌, subst}
use Rattle.med_value.specs.Datum.{datum}
use Rattle.fdw_api.specs.Prelude.{spec_by, spec_of, restriction_form, Allows}
use Rattle.fdw_api.specs.declared.scan.Restriction.{Restriction}
use Rattle.source_tests.proofs.CallLemmas.{begun_can_rescan_by, found_to_fit}
use Rattle.source_tests.proofs.scans.scan.Goals as goal

pub begin-requires : goal.begin-requires
begin-requires g c =
    let s = g.W.Wrapper.meaning c.args.source.now in
    let t = c.args.table.number in
    let a = c.in_ok-agreement.agreement in
    let w : c.deref.result.now ≡ c.args.asked.wanted.items = c.deref.ensures.value in
    let o : c.deref-2.result.now ≡ c.args.asked.offered.items = c.deref-2.ensures.value in
    let allowed : Allows s t (spec_of record { wanted = c.args.asked.wanted; offered = c.args.asked.offered; agreement = a }) =
    subst (λ (x : List ℕ). Allows s t (spec_by x (map restriction_form c.args.asked.offered.items) a)) w (subst (λ (x : List Restriction). Allows s t (spec_by c.deref.result.now (map restriction_form x) a)) o c.in_ok-agreement.ensures.ok) in
    record {
      bound = allowed.bound;
      is = allowed.is;
      allowed = allowed.allowed;
      typed = found_to_fit allowed.bound.kinds c.args.kinds.now c.args.asked.offered.items c.deref-3.result.now c.deref-7.result.now c.deref-4.result.now c.fits.result
          (c.requires.kinds allowed.bound allowed.is) c.deref-3.ensures.value (c.deref-4.ensures.value ∙ sym c.deref-7.ensures.value) c.fits.ensures c.if-not-fits.false;
    }

pub take_twice-taken-requires : goal.take_twice-taken-requires
take_twice-taken-requires g c =
    begun_can_rescan_by (g.W.Wrapper.meaning c.args.source.now) (g.W.Wrapper.meaning c.begin.new.self) _ _ _ (map datum c.deref-8.result.now) _
    (λ bound is. found_to_fit bound.kinds c.args.kinds.now c.args.asked.offered.items c.deref-5.result.now c.deref-8.result.now c.deref-6.result.now c.fits-2.result
    (c.requires.kinds bound is) c.deref-5.ensures.value (c.deref-6.ensures.value ∙ sym c.deref-8.ensures.value) c.fits-2.ensures c.if-not-fits-2.false) c.requires.bound c.in_ok-ticket.ensures.ok
