use Rattle.std.proofs.Common.{◌≡◌, false, Contains, IsTrue, length, map, refl, sym, subst, arith}
use Rattle.std.proofs.lemmas.List.{get_or_default, get_or-map, length-map}
use Rattle.std.proofs.lemmas.List.Elements.{AllWithin-more}
use Rattle.fdw_api.specs.Prelude.{KeyForm, key_form}
use Rattle.fdw_api.specs.declared.wishes.OrderKey.{OrderKey}
use Rattle.loop_runs.proofs.ordering.are_wanted.Goals as goal

pub returns-then-not-is_wanted : goal.returns-then-not-is_wanted
returns-then-not-is_wanted c = (
  λ e. absurd cc,
  λ h.
      let ks = c.args.order.now in
      let at = c.loop-key.key-index in
      let lt = c.loop-key-test.true in
      let d : OrderKey = record { column = 0; desc = false; nulls_first = false } in
      let long : length (map key_form ks) ≡ length ks = length-map ks key_form in
      let has = subst (λ (k : KeyForm). Contains c.args.wanted.now k.column) (get_or-map key_form ks at d (key_form d) lt) (h at (key_form d) (omega (arith, lt, long))) in
      subst IsTrue c.if-not-is_wanted.true (c.is_wanted.ensures.1 has),
)

pub loop-key-preserved : goal.loop-key-preserved
loop-key-preserved c =
    let ks = c.args.order.now in
    AllWithin-more (λ (k : OrderKey). Contains c.args.wanted.now k.column) ks 0 c.loop-key.key-index c.loop-key.invariant
    (λ d. subst (λ (q : OrderKey). Contains c.args.wanted.now q.column) (get_or_default ks c.loop-key.key-index _ d c.loop-key-test.true) (c.is_wanted.ensures.0 (subst IsTrue (sym c.if-not-is_wanted.false) refl)))

pub returns : goal.returns
returns c = (
  λ e k d lt.
      let ks = c.args.order.now in
      let t = c.loop-key-test.false in
      let z : OrderKey = record { column = 0; desc = false; nulls_first = false } in
      let long : length (map key_form ks) ≡ length ks = length-map ks key_form in
      subst (λ (q : KeyForm). Contains c.args.wanted.now q.column) (sym (get_or-map key_form ks k z d (omega (arith, lt, long)))) (c.loop-key.invariant k z (omega arith) (omega (arith, lt, long, t))),
  λ h. refl,
)
