use Rattle.std.proofs.Common.{◌≡◌, ℕ, List, [], ◌∷◌, map, refl, subst, pos}
use Rattle.med_value.specs.Datum.{NoValue, Whole}
use Rattle.med_value.specs.declared.value.ColType.TheVariants.{Int}
use Rattle.fdw_api.specs.Prelude.{spec_by, spec_of, restriction_form, Allows}
use Rattle.fdw_api.specs.declared.scan.Restriction.{Restriction}
use Rattle.wrapper_tests.proofs.Deletes.{begun_can_rescan_by, typed_by}
use Rattle.wrapper_tests.proofs.parameters.read_by_part.Goals as goal

pub begin-requires : goal.begin-requires
begin-requires g c =
    let s = g.W.Wrapper.meaning c.args.source.now in
    let t = c.args.table.number in
    let a = c.in_ok-agreement.agreement in
    let w : c.deref.result.now ≡ c.in_ok-wanted.wanted.items = c.deref.ensures.value in
    let o : c.deref-2.result.now ≡ c.in_ok-offered.offered.items = c.deref-2.ensures.value in
    let allowed : Allows s t (spec_of record { wanted = c.in_ok-wanted.wanted; offered = c.in_ok-offered.offered; agreement = a }) =
    subst (λ (x : List ℕ). Allows s t (spec_by x (map restriction_form c.in_ok-offered.offered.items) a)) w (subst (λ (x : List Restriction). Allows s t (spec_by c.deref.result.now (map restriction_form x) a)) o c.in_ok-agreement.ensures.ok) in
    record {
      bound = allowed.bound;
      is = allowed.is;
      allowed = allowed.allowed;
      typed = typed_by allowed.bound.kinds (Int ∷ Int ∷ Int ∷ []) c.in_ok-offered.offered.items _ (Whole (pos 9) ∷ []) (c.requires.kinds allowed.bound allowed.is) c.in_ok-offered.ensures.items refl;
    }

pub take_again_with_null-taken-requires : goal.take_again_with_null-taken-requires
take_again_with_null-taken-requires g c =
    begun_can_rescan_by (g.W.Wrapper.meaning c.args.source.now) (g.W.Wrapper.meaning c.begin.new.self) _ _ _ (NoValue ∷ []) _
    (λ bound is. typed_by bound.kinds (Int ∷ Int ∷ Int ∷ []) c.in_ok-offered.offered.items _ (NoValue ∷ []) (c.requires.kinds bound is) c.in_ok-offered.ensures.items refl) c.requires.bound c.in_ok-ticket.ensures.ok
