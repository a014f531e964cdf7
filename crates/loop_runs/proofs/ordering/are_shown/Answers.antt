use Rattle.std.proofs.Common.{◌≡◌, Bool, true, All, Contains, IsTrue, if◌then◌else◌, [], map, sym, subst}
use Rattle.fdw_api.specs.Prelude.{KeyForm, key_form}
use Rattle.loop_runs.proofs.ordering.are_shown.Goals as goal

pub returns-then-level-2 : goal.returns-then-level-2
returns-then-level-2 c =
    let spec = c.args.level.now.spec in
    let wanted = rw (c.as_slice.ensures.value, c.as_slice-then-level-2.ensures.value) at c.are_wanted.ensures in
    subst
    (λ (b : Bool). (IsTrue c.are_wanted.result → spec.base.agreement.narrow ≡ true → All (λ (k : KeyForm). Contains spec.base.wanted.items k.column) (if b then map key_form spec.wish.order.items else []))
    × ((spec.base.agreement.narrow ≡ true → All (λ (k : KeyForm). Contains spec.base.wanted.items k.column) (if b then map key_form spec.wish.order.items else [])) → IsTrue c.are_wanted.result))
    (sym c.if-level-2.true) (λ e narrow. wanted.0 e, λ h. wanted.1 (h c.if-level.true))
