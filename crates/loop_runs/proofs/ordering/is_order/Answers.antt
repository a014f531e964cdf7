use Rattle.std.proofs.Common.{◌≤◌, inl, inr, false, IsTrue, length, slice_index_or, refl, sym, subst, arith}
use Rattle.std.proofs.lemmas.List.{get_or_default}
use Rattle.med_query.specs.declared.select.SortDirection.{SortDirection}
use Rattle.fdw_api.specs.declared.wishes.OrderKey.{OrderKey}
use Rattle.loop_runs.proofs.Orders.{IsKey, all_from_here, as_long, key_agrees, from_next, all_agree}
use Rattle.loop_runs.proofs.ordering.is_order.Goals as goal

pub loop-at-init : goal.loop-at-init
loop-at-init c = all_from_here c.args.directions.now c.args.keys.now c.args.promised.now

pub returns-then-directions-promised : goal.returns-then-directions-promised
returns-then-directions-promised c = (
  λ e. absurd cc,
  λ h.
      let l = as_long c.args.directions.now c.args.keys.now c.args.promised.now h in
      absurd (elim c.then-directions-promised.either [ inl differ ↦ differ l.0 | inr also ↦ also.1 l.1 ]),
)

pub returns-then-not-is_key : goal.returns-then-not-is_key
returns-then-not-is_key c =
    let ds = c.args.directions.now in
    let es = c.args.keys.now in
    let ps = c.args.promised.now in
    let at = c.loop-at.at in
    let d : SortDirection = slice_index_or ds at (record { descending = false; nulls_first = false }) in
    let p : OrderKey = slice_index_or ps at (record { column = 0; desc = false; nulls_first = false }) in
    let lt = c.loop-at-test.true in
    let one = c.if-directions-promised.false in
    let two = c.if-keys-promised.false in (
      λ e. absurd cc,
      λ h.
          let key : IsKey d c.index-keys-at.result p = key_agrees ds es ps at d c.index-keys-at.result p (omega arith) (omega arith) lt (get_or_default ds at _ d (omega arith)) c.index-keys-at.is (get_or_default ps at _ p lt) c.loop-at.invariant h in
          subst IsTrue c.if-not-is_key.true (c.is_key.ensures.1 key),
    )

pub loop-at-preserved : goal.loop-at-preserved
loop-at-preserved c =
    let ds = c.args.directions.now in
    let es = c.args.keys.now in
    let ps = c.args.promised.now in
    let at = c.loop-at.at in
    let d : SortDirection = slice_index_or ds at (record { descending = false; nulls_first = false }) in
    let p : OrderKey = slice_index_or ps at (record { column = 0; desc = false; nulls_first = false }) in
    let lt = c.loop-at-test.true in
    let one = c.if-directions-promised.false in
    let two = c.if-keys-promised.false in
    let key : IsKey d c.index-keys-at.result p = c.is_key.ensures.0 (subst IsTrue (sym c.if-not-is_key.false) refl) in
    from_next ds es ps at d c.index-keys-at.result p (omega arith) (omega arith) lt (get_or_default ds at _ d (omega arith)) c.index-keys-at.is (get_or_default ps at _ p lt) c.loop-at.invariant key

pub returns : goal.returns
returns c =
    let t = c.loop-at-test.false in
    let one = c.if-directions-promised.false in
    let two = c.if-keys-promised.false in
    let none : length c.args.promised.now ≤ c.loop-at.at = omega arith in
    (λ e. all_agree c.args.directions.now c.args.keys.now c.args.promised.now c.loop-at.at (omega arith) (omega arith) none c.loop-at.invariant, λ h. refl)
